-- What holds as a run over a tape goes on.
use Rattle.std.proofs.Common.{◌≡◌, inl, inr, ℕ, ◌+◌, ◌-◌, ◌*◌, ◌<◌, ◌≤◌, List, [], ◌∷◌, ◌++◌, length, take, drop, refl, sym, ap, subst, ◌∙◌, arith}
use Rattle.std.proofs.Common.{length-append, ℤ, pos, Option, FitsSigned, w32}
use Rattle.std.specs.List.{AllByRecursion}
use Rattle.std.proofs.Math.Seq.{take-append_seam, drop-append_seam, take-length}
use Rattle.std.proofs.lemmas.Bool.{cases_lt}
use Rattle.std.proofs.lemmas.List.{get_or_append_left, get_or-append_right, length_push}
use Rattle.fv_num.specs.headline.Frames.{Stream, rows}
use Rattle.fv_outside.specs.headline.Journal.{Told}
use Rattle.fv_control.specs.declared.script.Change.{Change}
use Rattle.fv_control.specs.Laws.{applied}
use Rattle.fv_control.specs.headline.Streams.{control_streams}
use Rattle.fv_signal.specs.headline.Value.{Graph}
use Rattle.fv_signal.specs.Value.{ValuesLookBack}
use Rattle.fv_split_plan.specs.headline.Plans.{PlanStands}
use Rattle.fv_engine.specs.Block.{vectors_of}
use Rattle.fv_engine.specs.Stands.{AreGiven, EngineView, GoesOn, SameParts, StandsFor, played}
use Rattle.fv_engine_render.specs.headline.Blocks.{AreBlocks, RanBlocks, block_at, loop_runs_of}
use Rattle.fv_engine_render.specs.inner.Plans.{AreNumbers}
use Rattle.fv_engine_render.specs.headline.Runs.{HasRun}
use Rattle.fv_engine_render.specs.declared.blocks.RunSizes.{RunSizes}
use Rattle.fv_engine_render.specs.declared.blocks.Ran.{Ran}
use Rattle.fv_engine_render.proofs.Cuts.{one_more}
use Rattle.fv_engine_render.proofs.Playing.{loops_some, same_still}
use Rattle.fv_engine_render.proofs.Samples.{PlayedSo, PlaysMore, played_more, rows_alike}
use Rattle.fv_engine_render.proofs.Taken.{fits_past}
use Rattle.fv_engine_render.proofs.Told.{RoomForBlock, RoomSoFar, TellsBlock, ran_more, ran_none, room_more, room_none, runs_more}

-- ---- numbers

pub fit_none : AreNumbers []
fit_none i = fits_past [] i (omega arith)

pub fit_both : (xs ys : List ℤ) → AreNumbers xs → AreNumbers ys → AreNumbers (xs ++ ys)
fit_both xs ys a b i =
    elim (cases_lt i (length xs)) [
      | inl l ↦ subst (FitsSigned w32) (sym (get_or_append_left xs ys (pos 0) i l)) (a i)
      | inr l ↦ subst (FitsSigned w32) (sym (get_or-append_right xs ys (length xs) i (pos 0) refl l)) (b (i - length xs))
    ]

pub rows_fit : (n m w : ℕ) → n ≤ m → n * w ≤ m * w
rows_fit n m w h = let e : n + (m - n) ≡ m = omega (arith, h) in subst (λ (x : ℕ). n * w ≤ x * w) e (omega arith)

-- ---- the samples

-- The n numbers after a list of k are the list that stands there.
behind : {X : Type 0} (k n : ℕ) (xs ys : List X) → length xs ≡ k → length ys ≡ n → take n (drop k (xs ++ ys)) ≡ ys
behind k n xs ys e f =
    ap (λ (m : ℕ). take n (drop m (xs ++ ys))) (sym e) ∙ ap (take n) (drop-append_seam xs ys) ∙ ap (λ (m : ℕ). take m ys) (sym f) ∙ take-length ys

front : {X : Type 0} (k : ℕ) (xs ys : List X) → length xs ≡ k → take k (xs ++ ys) ≡ take k xs
front k xs ys e =
    ap (λ (m : ℕ). take m (xs ++ ys)) (sym e) ∙ take-append_seam xs ys ∙ sym (take-length xs) ∙ ap (λ (m : ℕ). take m xs) e

-- n frames more, which follow those that were heard and answered
pub record Follows (e now next : EngineView) (c : ℕ → Stream) (f n w : ℕ) (heard piece controls all out : List ℤ) : Type 0 where
  pub look : (g : Graph) → ValuesLookBack g
  pub same : SameParts e now
  pub width : (g : Graph) → PlanStands g e.plan → length g.outputs ≡ w
  pub on : GoesOn now next n piece controls out
  pub given : AreGiven controls c f n
  pub long : length heard ≡ f * e.channels
  pub part : length piece ≡ n * e.channels
  pub told : length all ≡ f * w
  pub wide : length out ≡ n * w

played_on : {e now next : EngineView} {c : ℕ → Stream} {f n w : ℕ} {heard piece controls all out : List ℤ}
    → Follows e now next c f n w heard piece controls all out → PlayedSo e now c f heard all
    → PlayedSo e next c (f + n) (heard ++ piece) (all ++ out)
played_on {e} {now} {next} {c} {f} {n} {w} {heard} {piece} {controls} {all} {out} h so =
    let ch = e.channels in
    let rows_are : rows ch f heard ≡ rows ch f (heard ++ piece) = rows_alike ch f heard (heard ++ piece) (sym (front (f * ch) heard piece h.long)) in
    let On : (xs ys : List ℤ) → Type 0 = λ xs ys. GoesOn now next n xs controls ys in
    let more : PlaysMore e now next c f n w (heard ++ piece) controls all (all ++ out) = record {
      look = h.look;
      same = h.same;
      width = h.width;
      on = subst (λ xs. On xs (take (n * w) (drop (f * w) (all ++ out)))) (sym (behind (f * ch) (n * ch) heard piece h.long h.part))
          (subst (On piece) (sym (behind (f * w) (n * w) all out h.told h.wide)) h.on);
      given = h.given;
      before = front (f * w) all out h.told;
    } in
    played_more more (λ g s st. let r = so g s st in (
      subst (λ X. StandsFor now g s.names X c) rows_are r.0,
      r.1 ∙ ap (λ X. played g X c 0 f) rows_are,
    ))

-- ---- the run

-- what a run begins with: an engine, its sizes and outputs, a script, the controls' numbers, and what the gate tells
pub record Start : Type 0 where
  pub engine : EngineView
  pub sizes : RunSizes
  pub outputs : ℕ
  pub changes : List Change
  pub initial : List ℤ
  pub told : Option Told

-- where it has come to: the frame, what is counted, what the gate tells, and what was heard and is answered
pub record Come : Type 0 where
  pub engine : EngineView
  pub frame : ℕ
  pub ran : Ran
  pub told : Option Told
  pub heard : List ℤ
  pub all : List ℤ

-- its blocks so far
pub record Streamed (b : Start) (r : Come) : Type 0 where
  pub same : SameParts b.engine r.engine
  pub within : r.frame ≤ b.sizes.frames
  pub long : length r.heard ≡ r.frame * b.engine.channels
  pub fit : AreNumbers r.heard
  pub width : length r.all ≡ r.frame * b.outputs
  pub so : PlayedSo b.engine r.engine (control_streams b.changes b.initial) r.frame r.heard r.all
  pub run : HasRun b.engine.plan b.sizes b.changes r.frame r.ran b.told r.told
  pub room : RoomSoFar (length b.engine.plan.reads) r.ran.blocks r.ran.loop_runs b.told r.told
  pub few : r.ran.blocks ≤ r.frame
  pub fewer : r.ran.loop_runs ≤ r.ran.blocks * 18446744073709551616

pub streamed_none : (b : Start) → ((g : Graph) (s : PlanStands g b.engine.plan) → StandsFor b.engine g s.names [] (control_streams b.changes b.initial)
    → StandsFor b.engine g s.names (rows b.engine.channels 0 []) (control_streams b.changes b.initial))
    → Streamed b (record {
      engine = b.engine;
      frame = 0;
      ran = record { blocks = 0; loops = 0; loop_runs = 0 };
      told = b.told;
      heard = [];
      all = [];
    })
streamed_none b fresh = record {
  same = refl;
  within = omega arith;
  long = omega arith;
  fit = fit_none;
  width = omega arith;
  so = λ g s st. (fresh g s st, refl);
  run = record {
    lengths = [];
    cut = refl;
    told = ran_none b.sizes.workers b.engine.plan.loops b.engine.plan.reads b.sizes.vector b.told;
    blocks_are = refl;
    loops_are = refl;
    runs_are = refl;
  };
  room = room_none (length b.engine.plan.reads) b.told;
  few = omega arith;
  fewer = omega arith;
}

-- a block more: n frames that were heard, whose answer is this, in this many tasks
pub record Block (b : Start) (r : Come) (next : EngineView) (new : Option Told) (n tasks : ℕ) (piece controls out : List ℤ) : Type 0 where
  pub look : (g : Graph) → ValuesLookBack g
  pub outputs : b.outputs ≡ length b.engine.plan.outputs
  pub vector : b.sizes.vector ≡ b.engine.vector
  pub workers : b.sizes.workers ≡ b.engine.workers
  pub here : r.frame < b.sizes.frames
  pub cut : n ≡ block_at b.sizes.block b.sizes.frames b.changes r.frame
  pub some : 1 ≤ n
  pub inside : n ≤ b.sizes.frames - r.frame
  pub part : length piece ≡ n * b.engine.channels
  pub fit : AreNumbers piece
  pub wide : length out ≡ n * b.outputs
  pub same : SameParts r.engine next
  pub on : GoesOn r.engine next n piece controls out
  pub given : AreGiven controls (control_streams b.changes b.initial) r.frame n
  pub told : TellsBlock r.engine n r.told new
  pub room : RoomForBlock r.engine n r.told new
  pub count : tasks ≡ r.engine.plan.loops * vectors_of n r.engine.vector
  pub small : tasks < 18446744073709551616

pub block_more : {b : Start} {r : Come} {next : EngineView} {new : Option Told} {n tasks : ℕ} {piece controls out : List ℤ} (loops : ℕ)
    → loops ≡ b.engine.plan.loops → Streamed b r → Block b r next new n tasks piece controls out
    → Streamed b (record {
      engine = next;
      frame = r.frame + n;
      ran = record { blocks = r.ran.blocks + 1; loops = loops; loop_runs = r.ran.loop_runs + tasks };
      told = new;
      heard = r.heard ++ piece;
      all = r.all ++ out;
    })
block_more {b} {r} {next} {new} {n} {tasks} {piece} {controls} {out} loops loops_are i k =
    let e = b.engine in let ns = i.run.lengths in let f = r.frame in let sizes = b.sizes in
    let are : tasks ≡ e.plan.loops * vectors_of n e.vector = k.count ∙ ap (λ (v : EngineView). v.plan.loops * vectors_of n v.vector) i.same in
    let TellsOf : ℕ → ℕ → List ℕ → Option Told → Type 0 = λ w v ms t. RanBlocks w e.plan.loops e.plan.reads v ms b.told t in
    let follows : Follows e r.engine next (control_streams b.changes b.initial) f n b.outputs r.heard piece controls r.all out = record {
      look = k.look;
      same = i.same;
      width = λ h s. sym s.outputs.0 ∙ sym k.outputs;
      on = k.on;
      given = k.given;
      long = i.long;
      part = k.part;
      told = i.width;
      wide = k.wide;
    } in
    record {
      same = same_still e r.engine next i.same k.same;
      within = let a = k.inside in let c = k.here in omega (arith, a, c);
      long = let a = i.long in let c = k.part in let d = length-append r.heard piece in omega (arith, a, c, d);
      fit = fit_both r.heard piece i.fit k.fit;
      width = let a = i.width in let c = k.wide in let d = length-append r.all out in omega (arith, a, c, d);
      so = played_on follows i.so;
      run = record {
        lengths = ns ++ n ∷ [];
        cut = subst (λ (m : ℕ). AreBlocks sizes.block sizes.frames b.changes 0 (f + m) (ns ++ m ∷ [])) (sym k.cut)
            (one_more sizes.block sizes.frames b.changes 0 f ns i.run.cut k.here);
        told = subst (λ w. TellsOf w sizes.vector (ns ++ n ∷ []) new) (sym k.workers)
            (subst (λ v. TellsOf e.workers v (ns ++ n ∷ []) new) (sym k.vector)
            (ran_more e r.engine ns n b.told r.told new i.same (subst (λ v. TellsOf e.workers v ns r.told) k.vector
            (subst (λ w. TellsOf w sizes.vector ns r.told) k.workers i.run.told)) k.told));
        blocks_are = let a = i.run.blocks_are in let c = length_push ns n in omega (arith, a, c);
        loops_are = loops_are ∙ sym (loops_some (r.ran.blocks + 1) e.plan.loops (omega arith));
        runs_are = ap (λ x. x + tasks) i.run.runs_are
            ∙ ap (λ x. loop_runs_of e.plan.loops sizes.vector ns + x) (are ∙ ap (λ v. e.plan.loops * vectors_of n v) (sym k.vector))
            ∙ sym (runs_more e.plan.loops sizes.vector ns n);
      };
      room = subst (λ (t : ℕ). RoomSoFar (length e.plan.reads) (r.ran.blocks + 1) (r.ran.loop_runs + t) b.told new) (sym are)
          (room_more e r.engine n r.ran.blocks r.ran.loop_runs b.told r.told new i.same i.room k.told k.room);
      few = let a = i.few in let c = k.some in omega (arith, a, c);
      fewer = let a = i.fewer in let c = k.small in omega (arith, a, c);
    }

-- the controls as a run goes on
pub record Listened (changes : List Change) (initial values : List ℤ) (frame next : ℕ) : Type 0 where
  pub there : next ≤ length changes
  pub come : AllByRecursion (λ (c : Change). c.frame ≤ frame) (take next changes)
  pub changed : values ≡ applied initial (take next changes)
  pub count : length values ≡ length initial
