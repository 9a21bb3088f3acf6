-- That code may run, and that a place holds what it is to hold, have at most one proof: so both follow from facts that are known to hold
-- merely.
use Rattle.std.proofs.Common.{◌≡◌, ℕ, ◌+◌, ◌-◌, ◌*◌, ◌<◌, List, [], ◌∷◌, length, map, ℤ, pos, sym, subst, ◌∙◌, arith}
use Rattle.std.proofs.lemmas.List.{get_or-map, length-map}
use Rattle.std.specs.Prelude.{slice_index}
use Rattle.std.specs.Coded.{×_prop, Unit-prop, le_prop}
use Rattle.std.proofs.Math.Logic.{∥∥₁_elim}
use Rattle.std.proofs.Math.Nat.{ℕ_set}
use Rattle.std.proofs.Math.IntN.{ℤ_set}
use mathlib.Core.List.{is_set}
use Rattle.fv_loopcode.specs.Words.{argument}
use Rattle.fv_loopcode.specs.declared.step.Step.{Step}
use Rattle.fv_loopcode.specs.declared.step.Step.TheVariants as step
use Rattle.fv_loopcode.specs.headline.Lanes.{Lane, lane_of}
use Rattle.fv_loopcode.specs.Lanes.{HasSample}
use Rattle.fv_loopcode.specs.headline.State.{State, list_at}
use Rattle.fv_loopcode.specs.Obeys.{Content, Holds, HoldsJust}
use Rattle.fv_loopcode.specs.headline.Code.{Pass, stepped, opening, ran}
use Rattle.fv_loopcode.specs.Code.{MayStep, MayPass, MayRun, frame_of, IsWithin, Keeps}
use Rattle.fv_loopcode_steps.specs.Kept.{step_in, cell}
use Rattle.fv_loopcode_machine.specs.Scratches.{Serves}
use Rattle.fv_loopcode_machine.specs.declared.scratch.Scratch.{Scratch}
use Rattle.fv_engine_codes.specs.Renumbered.{renumbered}
use Rattle.fv_engine_crew.specs.Contents.{IsRealStart}
use Rattle.fv_engine_crew.specs.inner.Turns.{locals, from, to, Known, Before, After}
use Rattle.fv_engine_crew.specs.declared.start.Start.{Start}
use Rattle.fv_engine_crew.proofs.Running.{Laws, may_run, own_after, cells_after, after}

sample_prop : (lane : Lane) (index b : ℕ) (x y : HasSample lane index b) → x ≡ y
sample_prop lane index b x y = λ i. record { not_before = le_prop x.not_before y.not_before i; written = le_prop x.written y.written i }

step_prop : (state : State) (index : ℕ) (register : ℕ → ℤ) (s : Step) (x y : MayStep state index register s) → x ≡ y
step_prop state index register (step.Number n) = Unit-prop
step_prop state index register (step.Held k) = Unit-prop
step_prop state index register (step.Input i) = Unit-prop
step_prop state index register (step.Point op args) = Unit-prop
step_prop state index register (step.Load lane back max) = ×_prop le_prop (sample_prop _ index _)
step_prop state index register (step.Append lane value) = ×_prop le_prop le_prop
step_prop state index register (step.Read table arg) = ×_prop le_prop le_prop
step_prop state index register (step.Write cells args) = ×_prop le_prop le_prop

pass_prop : (held input : ℕ → ℤ) (index : ℕ) (p : Pass) (ss : List Step) (x y : MayPass held input index p ss) → x ≡ y
pass_prop held input index p [] = Unit-prop
pass_prop held input index p (s ∷ ss) = ×_prop (step_prop p.state index (argument p.numbers) s) (pass_prop held input index (stepped held input index p s) ss)

pub run_prop : (steps : List Step) (held : ℕ → ℤ) (inputs : ℕ → ℕ → ℤ) (start count : ℕ) (state : State)
    (x y : MayRun steps held inputs start count state) → x ≡ y
run_prop steps held inputs start count state x y =
    λ i n m. pass_prop held (inputs (start + n)) (start + n) (opening (ran steps held inputs start n state)) steps (x n m) (y n m) i

-- where there merely is such a content, the code may run
pub may_run_merely : (laws : Laws) (k : Start) (j v : ℕ) → ∥ IsRealStart k ∥₁ → (code : List Step) (state : State)
    → ∥ Known k j v code ∥₁ → Before k j v state
    → MayRun code (argument k.held.now) (frame_of k.input.now k.channels) (from k j v) (to k j v - from k j v) state
may_run_merely laws k j v real code state known before =
    ∥∥₁_elim real (run_prop code (argument k.held.now) (frame_of k.input.now k.channels) (from k j v) (to k j v - from k j v) state) (λ r.
    ∥∥₁_elim known (run_prop code (argument k.held.now) (frame_of k.input.now k.channels) (from k j v) (to k j v - from k j v) state) (λ n.
    may_run laws k j v r.content (record { obeys = r.obeys; begins = r.begins }) code state n before))

holds_prop : (f : Content) (l n : ℕ) (lane : Lane) (x y : Holds f l n lane) → x ≡ y
holds_prop f l n lane x y = λ i. record {
  history = ℕ_set lane.history (f.history l) x.history y.history i;
  long = le_prop x.long y.long i;
  same = λ k m. ℤ_set (argument lane.items k) (f.numbers l k) (x.same k m) (y.same k m) i;
}

just_prop : (f : Content) (l n m : ℕ) (lane : Lane) (x y : HoldsJust f l n m lane) → x ≡ y
just_prop f l n m lane x y = λ i. record {
  holds = holds_prop f l n lane x.holds y.holds i;
  just = ℕ_set (length lane.items) (f.history l + n) x.just y.just i;
  room = le_prop x.room y.room i;
}

list_prop : (xs ys : List ℤ) (x y : xs ≡ ys) → x ≡ y
list_prop xs ys = is_set ℤ_set xs ys

-- where there merely is such code, the loop's own places hold theirs after it
pub own_after_merely : (laws : Laws) (k : Start) (j v : ℕ) (code : List Step) (state : State) → ∥ Known k j v code ∥₁ → Before k j v state
    → After k j v (after laws k j v code state)
own_after_merely laws k j v code state known before = record {
  mine = λ f c i m.
      ∥∥₁_elim known (just_prop f (slice_index (locals k j v) i) (to k j v) (k.frames - to k j v) (lane_of (after laws k j v code state).lanes i))
      (λ n. own_after laws k j v f c code state n before i m);
  cells = λ f c i l e.
      ∥∥₁_elim known (list_prop (list_at (after laws k j v code state).cells i) (f.cells i (to k j v)))
      (λ n. cells_after laws k j v f c code state n before i l e);
}

pub within_prop : (held channels : ℕ) (s : Step) (x y : IsWithin held channels s) → x ≡ y
within_prop held channels (step.Number n) = Unit-prop
within_prop held channels (step.Held k) = le_prop
within_prop held channels (step.Input k) = le_prop
within_prop held channels (step.Point op args) = Unit-prop
within_prop held channels (step.Load lane back max) = Unit-prop
within_prop held channels (step.Append lane value) = Unit-prop
within_prop held channels (step.Read table arg) = Unit-prop
within_prop held channels (step.Write cells args) = Unit-prop

-- a new number of its lane changes nothing of what a step reads
pub within_renumbered : (held channels : ℕ) (place : ℕ → ℕ) (s : Step) → IsWithin held channels s → IsWithin held channels (renumbered place s)
within_renumbered held channels place (step.Number n) w = w
within_renumbered held channels place (step.Held k) w = w
within_renumbered held channels place (step.Input k) w = w
within_renumbered held channels place (step.Point op args) w = w
within_renumbered held channels place (step.Load lane back max) w = w
within_renumbered held channels place (step.Append lane value) w = w
within_renumbered held channels place (step.Read table arg) w = w
within_renumbered held channels place (step.Write cells args) w = w

keeps_prop : (held : ℕ → ℤ) (v : ℤ) (s : Step) (x y : Keeps held v s) → x ≡ y
keeps_prop held v (step.Number n) = ℤ_set v n
keeps_prop held v (step.Held k) = ℤ_set v (held k)
keeps_prop held v (step.Input i) = Unit-prop
keeps_prop held v (step.Point op args) = Unit-prop
keeps_prop held v (step.Load lane back max) = Unit-prop
keeps_prop held v (step.Append lane value) = Unit-prop
keeps_prop held v (step.Read table arg) = Unit-prop
keeps_prop held v (step.Write cells args) = Unit-prop

pub serves_prop : (steps : List Step) (held : ℕ → ℤ) (s : Scratch) (x y : Serves steps held s) → x ≡ y
serves_prop steps held s x y = λ i. record {
  room = record {
    regs = ℕ_set (length s.regs.items) (length steps) x.room.regs y.room.regs i;
    rows = ℕ_set (length s.rows.items) (length steps * 128) x.room.rows y.room.rows i;
    last = le_prop x.room.last y.room.last i;
  };
  settled = λ e p l k m. keeps_prop held (cell s.rows.items p k) (step_in steps p) (x.settled e p l k m) (y.settled e p l k m) i;
}

-- a new number of its lane changes nothing of what a step keeps
keeps_forth : (held : ℕ → ℤ) (place : ℕ → ℕ) (v : ℤ) (s : Step) → Keeps held v s → Keeps held v (renumbered place s)
keeps_forth held place v (step.Number n) e = e
keeps_forth held place v (step.Held k) e = e
keeps_forth held place v (step.Input i) e = e
keeps_forth held place v (step.Point op args) e = e
keeps_forth held place v (step.Load lane back max) e = e
keeps_forth held place v (step.Append lane value) e = e
keeps_forth held place v (step.Read table arg) e = e
keeps_forth held place v (step.Write cells args) e = e

keeps_back : (held : ℕ → ℤ) (place : ℕ → ℕ) (v : ℤ) (s : Step) → Keeps held v (renumbered place s) → Keeps held v s
keeps_back held place v (step.Number n) e = e
keeps_back held place v (step.Held k) e = e
keeps_back held place v (step.Input i) e = e
keeps_back held place v (step.Point op args) e = e
keeps_back held place v (step.Load lane back max) e = e
keeps_back held place v (step.Append lane value) e = e
keeps_back held place v (step.Read table arg) e = e
keeps_back held place v (step.Write cells args) e = e

-- so the scratch of a code serves it with new numbers of its lanes, and the other way
step_there : (place : ℕ → ℕ) (steps : List Step) (p : ℕ) → p < length steps
    → step_in (map (renumbered place) steps) p ≡ renumbered place (step_in steps p)
step_there place steps p l = let none = step.Number (pos 0) in get_or-map (renumbered place) steps p none none l

pub serves_renumbered : (place : ℕ → ℕ) (steps : List Step) (held : ℕ → ℤ) (s : Scratch) → Serves steps held s → Serves (map (renumbered place) steps) held s
serves_renumbered place steps held s h =
    let long = length-map steps (renumbered place) in
    record {
      room = record { regs = h.room.regs ∙ sym long; rows = (let r = h.room.rows in omega (arith, r, long)); last = h.room.last };
      settled = λ e p l k m.
          let there : p < length steps = omega (arith, l, long) in
          subst (Keeps held (cell s.rows.items p k)) (sym (step_there place steps p there))
          (keeps_forth held place (cell s.rows.items p k) (step_in steps p) (h.settled e p there k m));
    }

pub serves_as_before : (place : ℕ → ℕ) (steps : List Step) (held : ℕ → ℤ) (s : Scratch) → Serves (map (renumbered place) steps) held s → Serves steps held s
serves_as_before place steps held s h =
    let long = length-map steps (renumbered place) in
    record {
      room = record { regs = h.room.regs ∙ long; rows = (let r = h.room.rows in omega (arith, r, long)); last = h.room.last };
      settled = λ e p l k m.
          keeps_back held place (cell s.rows.items p k) (step_in steps p)
          (subst (Keeps held (cell s.rows.items p k)) (step_there place steps p l) (h.settled e p (omega (arith, l, long)) k m));
    }
