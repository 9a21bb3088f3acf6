-- A whole run of an engine of a graph's plan, and of a diagram's graph.
use Rattle.std.proofs.Common.{◌≡◌, ℕ, zero, suc, ◌+◌, ◌*◌, ◌≤◌, List, length, ℤ, Option, Some, None, sym, ap, subst, ◌∙◌, arith, nat_lt, lt-ltb}
use Rattle.std.specs.Prelude.{Result, Ok, Err, IfOk}
use Rattle.std.proofs.Math.Nat.{mul-le-mul_left}
use Rattle.std.proofs.lemmas.Bool.{cond-true}
use Rattle.fv_base.proofs.lemmas.Lists.{length_table}
use Rattle.fv_num.specs.headline.Words.{argument}
use Rattle.fv_num.specs.headline.Frames.{Stream, table, rows}
use Rattle.fv_outside.specs.headline.Journal.{Told}
use Rattle.fv_diagram.specs.headline.Diagram.{Diagram, inputs, outputs}
use Rattle.fv_diagram.specs.Diagram.{IsWellFormed}
use Rattle.fv_diagram.specs.Laws.{AnswersEach, AnswersWide}
use Rattle.fv_diagram.specs.declared.control.ControlInfo.{ControlInfo}
use Rattle.fv_signal.specs.headline.Value.{Graph}
use Rattle.fv_control.specs.declared.script.Change.{Change}
use Rattle.fv_control.specs.headline.Streams.{control_streams}
use Rattle.fv_split_plan.specs.headline.View.{PlanView}
use Rattle.fv_split_plan.specs.headline.Plans.{PlanStands, IsPlanOf}
use Rattle.fv_engine.specs.Stands.{EngineView, played}
use Rattle.fv_diagram.specs.headline.Samples.{answer_on, joined, no_slots}
use Rattle.fv_engine_render.specs.headline.Blocks.{StillTells}
use Rattle.fv_engine_render.specs.headline.Runs.{HasRun, RanGraphTo, loops_in}
use Rattle.fv_engine_render.specs.inner.Runs.{PlaysAll}
use Rattle.fv_engine_render.specs.declared.blocks.RunSizes.{RunSizes}
use Rattle.fv_engine_render.specs.declared.blocks.Ran.{Ran}
use Rattle.fv_engine_render.specs.headline.Plans.{IsGraphOf}
use Rattle.fv_engine_render.specs.Plans.{IsNew}
use Rattle.fv_engine_render.specs.inner.Plans.{AreNumbers}
use Rattle.fv_interval.specs.headline.Controls.{spans_of}
use Rattle.fv_engine_render.specs.headline.Render.{initial_of}
use Rattle.fv_engine_render.proofs.Frames.{GivesOn, joined_all, played_is_run}
use Rattle.fv_engine_render.proofs.Taken.{StayWithin, taken}

-- what follows from two facts of an answer
pub from_both : {T E : Type 0} (r : Result T E) (P Q S : T → Type 0) → ((x : T) → P x → Q x → S x) → IfOk r P → IfOk r Q → IfOk r S
from_both (Ok x) P Q S f p q = f x p q
from_both (Err e) P Q S f p q = tt

-- An engine of a plan of the graph, for these channels, which stands for no frames yet.
pub record IsReady (g : Graph) (channels : ℕ) (p : PlanView) (e : EngineView) : Type 0 where
  pub planned : IsPlanOf g p
  pub plan : e.plan ≡ p
  pub channels_are : e.channels ≡ channels
  pub fresh : IsNew e

-- what it plays is what the graph's outputs give
pub graph_played : {g : Graph} {channels : ℕ} {p : PlanView} {e : EngineView} → IsReady g channels p e → (c : ℕ → Stream) (n : ℕ) (input output : List ℤ)
    → PlaysAll e c n input output → rows (length g.outputs) n output ≡ played g (rows channels n input) c 0 n
graph_played {g} {channels} {p} {e} ready c n input output plays =
    let s : PlanStands g e.plan = subst (PlanStands g) (sym ready.plan) ready.planned.stands in
    plays g s (ready.fresh g s c) ∙ ap (λ w. played g (rows w n input) c 0 n) ready.channels_are

-- the pairs of all blocks are no more than the loops' squares
pairs_few : (blocks loops reads : ℕ) → reads ≤ loops * loops → blocks * reads ≤ blocks * (loops_in blocks loops * loops_in blocks loops)
pairs_few zero loops reads h = let e : zero * reads ≡ 0 = omega arith in omega (arith, e)
pairs_few (suc n) loops reads h =
    subst (λ k. suc n * reads ≤ suc n * (k * k)) (sym (cond-true (nat_lt 0 (suc n)) loops 0 (lt-ltb 0 (suc n) (omega arith)))) (mul-le-mul_left (suc n) h)

room_of : (blocks loops reads runs : ℕ) (old new : Option Told) → reads ≤ loops * loops → StillTells blocks runs (blocks * reads) old new
    → StillTells blocks runs (blocks * (loops_in blocks loops * loops_in blocks loops)) old new
room_of blocks loops reads runs None new few h = tt
room_of blocks loops reads runs (Some t) new few h = λ r.
    h (record { calls = r.calls; lines = r.lines; pairs = let a = r.pairs in let b = pairs_few blocks loops reads few in omega (arith, a, b) })

-- the blocks that it played up to a frame are those of the graph
pub ran_graph : {g : Graph} {channels : ℕ} {p : PlanView} {e : EngineView} → IsReady g channels p e
    → (changes : List Change) (s : RunSizes) (upto : ℕ) (r : Ran) (old new : Option Told)
    → HasRun e.plan s changes upto r old new → StillTells r.blocks r.loop_runs (r.blocks * length e.plan.reads) old new
    → RanGraphTo g changes s upto r old new
ran_graph {g} {channels} {p} {e} ready changes s upto r old new run room =
    let of : IsPlanOf g e.plan = subst (IsPlanOf g) (sym ready.plan) ready.planned in
    record {
      plan = e.plan;
      planned = of;
      run = run;
      room = subst (λ k. StillTells r.blocks r.loop_runs (r.blocks * (k * k)) old new) (sym run.loops_are)
          (room_of r.blocks e.plan.loops (length e.plan.reads) r.loop_runs old new of.reads.few room);
    }

-- A run of a diagram whose graph was played, over some frames.
pub record HasPlayed (d : Diagram) (cs : List ControlInfo) (changes : List Change) (g : Graph) : Type 0 where
  pub frames : ℕ
  pub input : List ℤ
  pub output : List ℤ
  pub well : IsWellFormed d
  pub stay : StayWithin cs changes
  pub fit : AreNumbers input
  pub of : IsGraphOf d (spans_of cs) g
  pub count : length output ≡ frames * length g.outputs
  pub plays : rows (length g.outputs) frames output ≡ played g (rows (inputs d) frames input) (control_streams changes (initial_of cs)) 0 frames

pub samples : {d : Diagram} {cs : List ControlInfo} {changes : List Change} {g : Graph} → AnswersEach d → AnswersWide d → (r : HasPlayed d cs changes g)
    → r.output ≡ answer_on d (control_streams changes (initial_of cs)) r.frames r.input
samples {d} {cs} {changes} {g} each wide r =
    let n = r.frames in
    let c = control_streams changes (initial_of cs) in
    let X = rows (inputs d) n r.input in
    let long : length X ≡ n = length_table n (λ t. table (inputs d) (λ i. argument r.input (t * inputs d + i))) in
    let all : rows (outputs d) n r.output ≡ played g X c 0 n = ap (λ w. rows w n r.output) (sym r.of.width) ∙ r.plays in
    let count : length r.output ≡ n * outputs d = r.count ∙ ap (λ w. n * w) r.of.width in
    let on : GivesOn d (spans_of cs) g X c = record {
      well = r.well;
      gives = r.of.gives;
      taken = taken d cs changes n r.input r.fit r.stay;
      width = r.of.width;
    } in
    sym (joined_all (outputs d) n r.output count) ∙ ap joined (all ∙ ap (λ k. played g X c 0 k) (sym long) ∙ played_is_run no_slots each wide on)
