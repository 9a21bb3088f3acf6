-- A task of a loop over its own lanes and cells and the seen lanes: it may run, and its own ones then hold theirs up to the next vector.
use Rattle.std.proofs.Common.{◌≡◌, ℕ, ◌+◌, ◌-◌, ◌<◌, ◌≤◌, List, length, sym, ap, ◌∙◌, subst, arith, ℤ, true}
use Rattle.std.specs.Prelude.{slice_index, nat_lt, nat_eq}
use Rattle.std.proofs.lemmas.Bool.{lt-ltb, ltb-true, ltb-false, eq-eqb}
use Rattle.std.proofs.Math.Nat.{min-le_right}
use Rattle.fv_loopcode.specs.Words.{argument}
use Rattle.fv_loopcode.specs.declared.step.Step.{Step}
use Rattle.fv_loopcode.specs.headline.Lanes.{lane_of}
use Rattle.fv_loopcode.specs.headline.State.{State, list_at}
use Rattle.fv_loopcode.specs.headline.Code.{ran}
use Rattle.fv_loopcode.specs.Code.{MayRun, frame_of}
use Rattle.fv_loopcode.specs.headline.Obeys.{Place, OfLane, OfCells}
use Rattle.fv_loopcode.specs.Obeys.{Content, ObeysAt, HoldsAt, HoldsJust, IsThere, HaveTables, IsReady, IsTaskDone, TasksAreDone}
use Rattle.fv_graph.proofs.lemmas.Counts.{both_of, both_true, eq_of}
use Rattle.fv_split_plan.specs.headline.View.{cells_info, code_of, roles_of}
use Rattle.fv_engine_codes.specs.Renumbered.{is_among, roles_over, content_over, RenumberedCodeObeys}
use Rattle.fv_engine_crew.specs.Contents.{IsContentOf}
use Rattle.fv_engine_crew.specs.inner.Turns.{own, locals, from, to, Known, Before}
use Rattle.fv_engine_crew.specs.declared.start.Start.{Start}

-- the laws that a task's run stands on
pub record Laws : Type 0 where
  pub tasks : TasksAreDone
  pub numbers : RenumberedCodeObeys

module _ (laws : Laws) (k : Start) (j v : ℕ) where
  abbrev mine : List ℕ
  mine = own k j v

  abbrev all : List ℕ
  all = locals k j v

  abbrev start : ℕ
  start = from k j v

  abbrev end : ℕ
  end = to k j v

  -- cells of the loop
  record IsMine (i : ℕ) : Type 0 where
    inside : i < length k.plan.now.cells
    owned : (cells_info k.plan.now i).owner ≡ j

  mine_of : (i : ℕ) → (roles_of k.plan.now j).own (OfCells i) ≡ true → IsMine i
  mine_of i o =
      let b = both_true (nat_lt i (length k.plan.now.cells)) (nat_eq (cells_info k.plan.now i).owner j) o in
      record { inside = ltb-true i (length k.plan.now.cells) b.0; owned = eq_of (cells_info k.plan.now i).owner j b.1 }

  own_of : (i : ℕ) → i < length k.plan.now.cells → (cells_info k.plan.now i).owner ≡ j → (roles_of k.plan.now j).own (OfCells i) ≡ true
  own_of i l e =
      both_of (nat_lt i (length k.plan.now.cells)) (nat_eq (cells_info k.plan.now i).owner j) (lt-ltb i (length k.plan.now.cells) l)
      (eq-eqb (cells_info k.plan.now i).owner j e)

  there : {code : List Step} (state : State) → Known k j v code → Before k j v state → (p : Place) → is_among (roles_of k.plan.now j) (length mine) p ≡ true
      → IsThere state p
  there state n b (OfLane l) o = omega (arith, ltb-true l (length mine) o, n.few, b.long)
  there state n b (OfCells i) o = omega (arith, (mine_of i o).inside, b.count)

  owned : (f : Content) → IsContentOf k f → {code : List Step} (state : State) → Known k j v code → Before k j v state
      → (p : Place) → is_among (roles_of k.plan.now j) (length mine) p ≡ true
      → HoldsAt (content_over all f) p start ((end - start) + (k.frames - end)) state
  owned f c state n b (OfLane l) o =
      let below : end ≤ k.frames = min-le_right _ k.frames in
      let h = b.mine f c l (ltb-true l (length mine) o) in
      record {
        holds = record { history = h.holds.history; long = h.holds.long; same = h.holds.same };
        just = h.just;
        room = omega
            (arith, h.room, n.le, below);
      }
  owned f c state n b (OfCells i) o = let m = mine_of i o in b.cells f c i m.inside m.owned

  tables : (f : Content) → IsContentOf k f → (state : State) → Before k j v state
      → HaveTables (content_over all f) state
  tables f c state b = λ t o.
      let h = c.begins.tables t o in (
        subst (λ (lists : List (List ℤ)). t < length lists) (sym b.tables) h.0,
        ap (λ (lists : List (List ℤ)). list_at lists t) b.tables ∙ h.1,
      )

  ready : (f : Content) → IsContentOf k f → {code : List Step} (state : State) → Known k j v code → Before k j v state
      → IsReady (roles_over (roles_of k.plan.now j) (length mine) (length all)) (content_over all f) start (end - start) (k.frames - end) state
  ready f c state n b = record {
    there = there state n b;
    seen = λ l o. omega (arith, ltb-true l (length all) o, b.long);
    owned = owned f c state n b;
    others = λ l o not_mine.
        let h = b.seen f c l (ltb-false l (length mine) not_mine) (ltb-true l (length all) o) in
        record { history = h.history; long = omega (arith, h.long, n.le); same = h.same };
    tables = tables f c state b;
  }

  obeys : (f : Content) → IsContentOf k f → {code : List Step} → Known k j v code → (n : ℕ) → n < end - start
      → ObeysAt (roles_over (roles_of k.plan.now j) (length mine) (length all)) (content_over all f) (argument k.held.now)
      (frame_of k.input.now k.channels (start + n)) (start + n) code
  obeys f c {code} known n m =
      let below : end ≤ k.frames = min-le_right _ k.frames in
      subst (λ (steps : List Step). ObeysAt (roles_over (roles_of k.plan.now j) (length mine) (length all)) (content_over all f) (argument k.held.now)
      (frame_of k.input.now k.channels (start + n)) (start + n) steps) (sym known.codes.is)
      (laws.numbers (roles_of k.plan.now j) f known.codes.place all (length mine) (argument k.held.now)
      (frame_of k.input.now k.channels (start + n)) (start + n) (code_of k.plan.now j) known.codes.places
      (c.obeys.obeys j (start + n) (omega (arith, m, known.le, below))))

  abbrev pub after : List Step → State → State
  after code state = ran code (argument k.held.now) (frame_of k.input.now k.channels) start (end - start) state

  pub may_run : (f : Content) → IsContentOf k f → (code : List Step) (state : State) → Known k j v code → Before k j v state
      → MayRun code (argument k.held.now) (frame_of k.input.now k.channels) start (end - start) state
  may_run f c code state n b =
      (laws.tasks (roles_over (roles_of k.plan.now j) (length mine) (length all)) (content_over all f) code (argument k.held.now)
      (frame_of k.input.now k.channels) start (end - start) (k.frames - end) state (obeys f c n) (ready f c state n b)).0

  done_after : (f : Content) → IsContentOf k f → (code : List Step) (state : State) → Known k j v code → Before k j v state
      → IsTaskDone (roles_over (roles_of k.plan.now j) (length mine) (length all)) (content_over all f) (start + (end - start)) (k.frames - end)
      state (after code state)
  done_after f c code state n b =
      (laws.tasks (roles_over (roles_of k.plan.now j) (length mine) (length all)) (content_over all f) code (argument k.held.now)
      (frame_of k.input.now k.channels) start (end - start) (k.frames - end) state (obeys f c n) (ready f c state n b)).1

  pub own_after : (f : Content) → IsContentOf k f → (code : List Step) (state : State) → Known k j v code → Before k j v state
      → (i : ℕ) → i < length mine → HoldsJust f (slice_index all i) end (k.frames - end) (lane_of (after code state).lanes i)
  own_after f c code state n b i m =
      let h : HoldsJust (content_over all f) i (start + (end - start)) (k.frames - end) (lane_of (after code state).lanes i) =
      (done_after f c code state n b).owned (OfLane i) (lt-ltb i (length mine) m) in
      record {
        holds = record { history = h.holds.history; long = omega (arith, h.holds.long, n.le); same = h.holds.same };
        just = omega (arith, h.just, n.le);
        room = h.room;
      }

  pub cells_after : (f : Content) → IsContentOf k f → (code : List Step) (state : State) → Known k j v code → Before k j v state
      → (i : ℕ) → i < length k.plan.now.cells → (cells_info k.plan.now i).owner ≡ j → list_at (after code state).cells i ≡ f.cells i end
  cells_after f c code state n b i l e =
      let z : start + (end - start) ≡ end = omega (arith, n.le) in
      (done_after f c code state n b).owned (OfCells i) (own_of i l e) ∙ ap (f.cells i) z
