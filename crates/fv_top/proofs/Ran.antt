-- The blocks of a run and of a make, from those that were rendered.
use Rattle.std.proofs.Common.{◌≡◌, ℕ, ◌+◌, ◌-◌, ◌/◌, ◌≤◌, List, [], length, subst, refl, inl, inr, sym, ◌∙◌, arith}
use Rattle.std.specs.Prelude.{IsTrue, Option, Err}
use Rattle.fv_base.specs.declared.limits.TheConstants.{MOST_VECTORS, MOST_WORKERS}
use Rattle.fv_base.specs.declared.role.Role.TheVariants.{Output, Report}
use Rattle.fv_base.specs.headline.Lists.{IsPrefixOf}
use Rattle.fv_outside.specs.headline.Journal.{Told}
use Rattle.fv_outside.specs.headline.Desk.{DeskState}
use Rattle.fv_engine_render.specs.Render.{CanBePlayed, CanHave}
use Rattle.fv_diagram.specs.headline.Diagram.{Diagram}
use Rattle.fv_diagram.specs.Diagram.{control_bound}
use Rattle.fv_diagram.specs.declared.control.ControlInfo.{ControlInfo}
use Rattle.fv_engine_render.specs.headline.Plans.{IsGraphOf}
use Rattle.fv_engine_render.specs.Stops.{IsSetFor, IsSetToPlay}
use Rattle.fv_engine_render.specs.declared.blocks.RunSizes.{RunSizes}
use Rattle.fv_engine_render.specs.declared.tape.Played.{Played as PlayedBy}
use Rattle.fv_engine_render.specs.declared.tape.Ready.{Ready}
use Rattle.fv_interval.specs.headline.Controls.{spans_of}
use Rattle.fv_top_program.specs.Playables.{IsPlayable}
use Rattle.fv_top_program.specs.declared.playable.Playable.{Playable}
use Rattle.fv_top_program.specs.headline.Compiled.{Compiled}
use Rattle.fv_top_words.specs.headline.Runs.{Settings}
use Rattle.fv_top_words.specs.Runs.{AreValid}
use Rattle.fv_top_words.specs.declared.cause.Cause.{Cause}
use Rattle.fv_top_words.specs.headline.Commands.{Job, Playing, Checking, Making, job_in}
use Rattle.fv_top_report.specs.declared.refusal.Refusal.{Refusal}
use Rattle.fv_top_report.specs.declared.refusal.Refusal.TheVariants.{WriteFault}
use Rattle.fv_top.specs.headline.Meant.{written_by}
use Rattle.fv_top.specs.headline.Promise.{Asks, meant_to}
use Rattle.fv_top.specs.headline.Played.{Played, sizes_of, make_sizes, HaveRan, StopsAt, RanSoFar, ComesFirst, HasBlocksSoFar}
use Rattle.fv_top.specs.inner.Played.{MakeRan, MakeSoFar}

-- ---- what is played, and its sizes

pub can_be_played : (m : Compiled) (p : Playable) → IsPlayable m p → CanBePlayed m.diagram p.graph p.inputs p.controls.items
can_be_played m p h = record {
  of = subst (λ (ks : List ControlInfo). IsGraphOf m.diagram (spans_of ks) p.graph) (sym h.controls) h.graph;
  channels_are = h.inputs;
  some = h.plays.some;
  few = h.plays.narrow;
  reads = subst (λ (ks : List ControlInfo). control_bound m.diagram ≤ length ks) (sym h.controls) h.plays.reads;
}

-- all is set for each program of which the graph is one
pub set_to_play : (m : Compiled) (p : Playable) (ks : List ControlInfo) (played : PlayedBy) (s : RunSizes) (r : Ready) → IsPlayable m p
    → ks ≡ p.controls.items → played.inputs ≡ p.inputs → played.outputs ≡ p.outputs → played.controls.now ≡ p.controls.items
    → ((d : Diagram) → CanBePlayed d p.graph p.inputs ks → IsSetFor d ks s r) → IsSetToPlay m.diagram played s r
set_to_play m p ks played s r h same inputs outputs controls ready = record {
  well = h.plays.well;
  inputs_are = inputs ∙ h.inputs;
  outputs_are = outputs ∙ h.outputs;
  set = subst (λ (xs : List ControlInfo). IsSetFor m.diagram xs s r) (same ∙ sym controls)
      (ready m.diagram (subst (CanBePlayed m.diagram p.graph p.inputs) (sym same) (can_be_played m p h)));
}

pub can_have : (s : Settings) (frames : ℕ) → AreValid s → CanHave (sizes_of s frames)
can_have s frames h =
    let some : 1 ≤ s.vector = h.vector_least in
    let same : s.block + s.vector - 1 ≡ s.block + (s.vector - 1) = omega arith in
    record {
      some = h.block_least;
      block = h.block_most;
      vector = h.vector_least;
      vectors = subst (λ (n : ℕ). n / s.vector ≤ MOST_VECTORS) same h.vectors;
      one = h.workers_least;
      workers = h.workers_most;
    }

pub makes_fit : (workers frames : ℕ) → 1 ≤ workers → workers ≤ MOST_WORKERS → CanHave (make_sizes workers frames)
makes_fit workers frames one few =
    record { some = omega arith; block = omega arith; vector = omega arith; vectors = omega arith; one = one; workers = few }

-- ---- the blocks of a make

pub make_ran : {voices frames workers blocks loops runs : ℕ} {old : DeskState} {before after : Option Told} →
    MakeRan voices frames workers blocks loops runs before after
    → (x : HaveRan (Making voices frames workers) old frames (record { blocks = blocks; loops = loops; loop_runs = runs }) before after)
    × (x.played.sizes.frames ≡ frames)
make_ran {voices} {frames} {workers} m = (
  record { played = record { program = m.0; changes = []; sizes = make_sizes workers frames }; is = (refl, refl, m.1); ran = m.2 },
  refl,
)

pub make_so_far : {words : List (List ℕ)} {voices frames workers : ℕ} {e : Refusal} {old new : DeskState} {before after : Option Told}
    → Asks words (Making voices frames workers) → e ≡ WriteFault Report → MakeSoFar voices frames workers before after → RanSoFar words e old new before after
unfolding make_ran
make_so_far {words} {voices} {frames} {workers} asks failed m = record {
  job = Making voices frames workers;
  asks = asks;
  upto = frames;
  counted = record { blocks = m.blocks; loops = m.loops; loop_runs = m.runs };
  ran = (make_ran {voices = voices} {frames = frames} {workers = workers} m.ran).0;
  stops = refl;
  first = λ is. absurd (is failed);
}

-- ---- what is told of a run that is refused

-- words ask for one thing
asks_once : (words : List (List ℕ)) (j k : Job) → Asks words j → Asks words k → j ≡ k
asks_once words j k a b = let same = sym a ∙ b in cc

-- a refusal that comes before any block
pub untold_first : {words : List (List ℕ)} {job : Job} {e : Refusal} {old new : DeskState} {before after : Option Told} → Asks words job
    → ComesFirst job e old new → after ≡ before → HasBlocksSoFar words e old new before after
untold_first {words} {job} {e} {old} {new} asks first none =
    inl (none, λ other also. subst (λ (j : Job). ComesFirst j e old new) (asks_once words job other asks also) first)

-- words that ask for nothing
pub untold_words : {words : List (List ℕ)} {cause : Cause} {e : Refusal} {old new : DeskState} {before after : Option Told} → job_in words ≡ Err cause
    → after ≡ before → HasBlocksSoFar words e old new before after
untold_words is none = inl (none, λ job asks. let wrong = sym is ∙ asks in absurd cc)

-- a line of the report changes nothing of it
first_later : (job : Job) (e : Refusal) (a b c : DeskState) → c.begins Output ≡ b.begins Output → ComesFirst job e a b → ComesFirst job e a c
first_later (Playing run) e a b c same first = same ∙ first
first_later (Checking name) e a b c same first = tt
first_later (Making voices frames workers) e a b c same first = first

-- nor of what was written
module _ (a b c : DeskState) (same : c.begins Output ≡ b.begins Output) (kept : IsTrue a.tells → c.written Output ≡ b.written Output) where
  stops_later : (job : Job) (e : Refusal) (x : Played) (upto : ℕ) → StopsAt job e a b x upto → StopsAt job e a c x upto
  stops_later (Playing run) e x upto s = (
    s.0,
    s.1,
    λ is begun t. let q = s.2 is (sym same ∙ begun) t in (q.0, kept t ∙ q.1),
    λ is begun t.
        let q = s.3 is (sym same ∙ begun) t in
        (q.0, subst (λ w. IsPrefixOf w (written_by (meant_to q.0 upto) a Output)) (sym (kept t)) q.1),
  )
  stops_later (Checking name) e x upto s = s
  stops_later (Making voices frames workers) e x upto s = s

pub so_far_later : {words : List (List ℕ)} {e : Refusal} {a b c : DeskState} {before after : Option Told} → c.begins Output ≡ b.begins Output
    → (IsTrue a.tells → c.written Output ≡ b.written Output) → HasBlocksSoFar words e a b before after → HasBlocksSoFar words e a c before after
so_far_later {words} {e} {a} {b} {c} same kept (inl h) = inl (h.0, λ job asks. first_later job e a b c same (h.1 job asks))
so_far_later {e = e} {a = a} {b = b} {c = c} same kept (inr h) = inr (record {
  job = h.job;
  asks = h.asks;
  upto = h.upto;
  counted = h.counted;
  ran = h.ran;
  stops = stops_later a b c same kept h.job e h.ran.played h.upto h.stops;
  first = λ is. h.first (first_later h.job e a c b (sym same) is);
})
