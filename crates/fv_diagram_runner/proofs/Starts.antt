-- A runner that has taken no frame.
use Rattle.std.proofs.Common.{◌≡◌, ℕ, suc, ◌+◌, ◌%◌, ◌<◌, ◌≤◌, List, [], ◌∷◌, ◌++◌, length, get_or, take, drop, map, max, replicate, refl, sym, ap}
use Rattle.std.proofs.Common.{ap₂, ◌∙◌, subst, arith, All, pos, ℤ, Bool, true, false}
use Rattle.std.specs.Prelude.{slice_set}
use Rattle.std.proofs.lemmas.List.{length-append, get_or-append-add, append-nil}
use Rattle.std.proofs.lemmas.List.Elements.{All-nil, All-from_get_or}
use Rattle.fv_base.specs.headline.Lists.{IsPrefixOf}
use Rattle.fv_base.proofs.lemmas.Lists.{prefix_refl, table_same, table_items, length_table, map_table, get_or_table}
use Rattle.fv_num.specs.declared.op.Op.TheVariants.{Add}
use Rattle.fv_num.specs.headline.Frames.{Stream, column, table}
use Rattle.fv_diagram_runner.specs.declared.step.Step.{Step}
use Rattle.fv_diagram_runner.specs.declared.step.Step.TheVariants as step
use Rattle.fv_diagram_runner.specs.declared.step.Change.{Change}
use Rattle.fv_diagram_runner.specs.declared.step.Change.TheVariants as change
use Rattle.fv_diagram_runner.specs.declared.draft.Loop.{Loop}
use Rattle.fv_diagram.specs.declared.signals.Leaf.TheVariants as leaf
use Rattle.fv_diagram.specs.Primitive.{Primitive as Prim}
use Rattle.fv_diagram.specs.Primitive.TheVariants as prim
use Rattle.fv_diagram.specs.headline.Diagram.{Diagram, Primitive, Constant, Control, Slot, Wave, Table, Bind, Par, Seq, Split, Merge, Rec, inputs}
use Rattle.fv_diagram.specs.Diagram.{control_bound}
use Rattle.fv_diagram.specs.Diagram.{IsWellFormed, HasNoFreeSlot, HasNumbers, AreNumbers}
use Rattle.fv_diagram.specs.Walked.{walked, primitive, waved, added, summed}
use Rattle.fv_diagram.specs.headline.Streams.{dealt}
use Rattle.fv_diagram.specs.Wires.{plugged}
use Rattle.fv_diagram_runner.specs.Steps.{RunnerState, AreOrdered, IsBegun, StandsFor, wires, listed, all_listed}
use Rattle.fv_diagram.specs.Wires.{no_slots}
use Rattle.fv_diagram_runner.specs.inner.Code.{Code, HasLoops, input_code, shut, opened_of, tabled_of, runner_hooks}
use Rattle.fv_diagram.proofs.lemmas.Places.{prefix_long, prefix_get}
use Rattle.fv_diagram_runner.proofs.StepStreams.{step_is}
use Rattle.fv_diagram.proofs.lemmas.Meaning.{AllLists, walk_goes, walk_means}
use Rattle.fv_diagram_runner.proofs.Faithful.{Onward, GoesOn, runner_is_orderly, runner_is_faithful}

-- ---- the controls that the code reads

primitive_reads : (p : Prim) (ins : List ℕ) (s : Code) → (primitive runner_hooks p ins s).1.controls ≡ s.controls
primitive_reads prim.Wire ins s = refl
primitive_reads prim.Int ins s = refl
primitive_reads prim.Attach ins s = refl
primitive_reads prim.Cut ins s = refl
primitive_reads prim.Mem ins s = refl
primitive_reads prim.Prefix ins s = refl
primitive_reads prim.Delay ins s = refl
primitive_reads (prim.Point op) ins s = refl
primitive_reads prim.ReadTable ins s = refl
primitive_reads prim.WriteTable ins s = refl

table_reads : (writes : Bool) (T : List ℤ) (ins : List ℕ) (s : Code) → (tabled_of writes T ins s).1.controls ≡ s.controls
table_reads false T ins s = refl
table_reads true T ins s = refl

added_reads : (n i : ℕ) (xs sums : List ℕ) (s : Code) → (added runner_hooks 0 n i xs sums s).1.controls ≡ s.controls
added_reads n i [] sums s = refl
added_reads n i (x ∷ xs) sums s =
    let r = runner_hooks.leaf (leaf.Point Add) (get_or sums (i % n) 0 ∷ x ∷ []) s in added_reads n (suc i) xs (slice_set sums (i % n) r.0) r.1

shut_reads : (ls : List Loop) (outs : List ℕ) (s : Code) → (shut ls outs s).controls ≡ s.controls
shut_reads [] outs s = refl
shut_reads (l ∷ ls) outs s = refl

waved_reads : (w : List ℤ) (s : Code) → (waved runner_hooks w s).1.controls ≡ s.controls
waved_reads w s = refl

walked_reads : (d : Diagram) (slots : ℕ → ℕ) (ins : List ℕ) (s : Code) → (walked runner_hooks 0 d slots ins s).1.controls ≡ max s.controls (control_bound d)
walked_reads (Primitive p) slots ins s = omega (arith, primitive_reads p ins s)
walked_reads (Constant n) slots ins s = omega arith
walked_reads (Control k) slots ins s = refl
walked_reads (Slot k) slots ins s = omega arith
walked_reads (Wave w) slots ins s = omega (arith, waved_reads w s)
walked_reads (Table T writes) slots ins s = omega (arith, table_reads writes T ins s)
walked_reads (Bind k a) slots ins s = walked_reads a (plugged slots k (get_or ins 0 0)) (drop 1 ins) s
walked_reads (Par a b) slots ins s =
    let l = walked runner_hooks 0 a slots (take (inputs a) ins) s in
    omega (arith, walked_reads a slots (take (inputs a) ins) s, walked_reads b slots (drop (inputs a) ins) l.1)
walked_reads (Seq a b) slots ins s =
    let l = walked runner_hooks 0 a slots ins s in omega (arith, walked_reads a slots ins s, walked_reads b slots l.0 l.1)
walked_reads (Split a b) slots ins s =
    let l = walked runner_hooks 0 a slots ins s in omega (arith, walked_reads a slots ins s, walked_reads b slots (dealt 0 (inputs b) l.0) l.1)
walked_reads (Merge a b) slots ins s =
    let l = walked runner_hooks 0 a slots ins s in
    let m = summed runner_hooks 0 (inputs b) l.0 l.1 in
    omega (arith, walked_reads a slots ins s, added_reads (inputs b) (inputs b) (drop (inputs b) l.0) (take (inputs b) l.0) l.1, walked_reads b slots m.0 m.1)
walked_reads (Rec a b) slots ins s =
    let o = opened_of (inputs b) s in
    let r = walked runner_hooks 0 b slots o.0 o.1 in
    let l = walked runner_hooks 0 a slots (r.0 ++ ins) r.1 in
    omega (arith, walked_reads b slots o.0 o.1, walked_reads a slots (r.0 ++ ins) r.1, shut_reads l.1.loops l.0 l.1)

-- ---- the runner of a diagram

abbrev pub input_registers : ℕ → List ℕ
input_registers n = table n (λ i. 1 + i)

-- the runner of code, with the registers that it gives
abbrev pub runner_state : List ℕ × Code → RunnerState
runner_state r = record {
  steps = r.1.steps;
  sources = r.1.sources;
  changes = r.1.changes;
  outs = r.0;
  cells = replicate (length r.1.sources) (pos 0);
  lists = r.1.lists;
  controls = r.1.controls;
  ins = r.1.ins;
}

cells_zero : (xs : List ℕ) → replicate (length xs) (pos 0) ≡ map (λ w. pos 0) xs
cells_zero [] = refl
cells_zero (x ∷ xs) = ap (λ ys. pos 0 ∷ ys) (cells_zero xs)

listed_first : (v : ℕ → Stream) (T : List ℤ) (a : Change) → listed v 0 T a ≡ T
listed_first v T (change.Append w) = append-nil T
listed_first v T change.Keep = refl
listed_first v T (change.Put w x) = refl

lists_begin : (v : ℕ → Stream) (lists : List (List ℤ)) (changes : List Change) → length lists ≡ length changes → lists ≡ all_listed v 0 lists changes
lists_begin v lists changes e =
    sym (table_items lists []) ∙ ap (λ n. table n (λ k. get_or lists k [])) e
    ∙ table_same (length changes) _ _ (λ k l. sym (listed_first v (get_or lists k []) (get_or changes k (change.Append 0))))

-- the diagram's lists are of numbers
lists_of : (d : Diagram) → HasNumbers d → AllLists AreNumbers d
lists_of (Primitive p) h = tt
lists_of (Constant n) h = tt
lists_of (Control k) h = tt
lists_of (Slot s) h = tt
lists_of (Wave w) h = h
lists_of (Table T writes) h = h
lists_of (Bind s a) h = lists_of a h
lists_of (Par a b) h = (lists_of a h.0, lists_of b h.1)
lists_of (Seq a b) h = (lists_of a h.0, lists_of b h.1)
lists_of (Split a b) h = (lists_of a h.0, lists_of b h.1)
lists_of (Merge a b) h = (lists_of a h.0, lists_of b h.1)
lists_of (Rec a b) h = (lists_of a h.0, lists_of b h.1)

-- what the walk makes of a diagram, from the inputs' registers
abbrev made : Diagram → List ℕ × Code
made d = walked runner_hooks 0 d no_slots (input_registers (inputs d)) (input_code (inputs d))

-- what holds of the code that it ends with
record Ends (q : Code) : Type 0 where
  pub ordered : AreOrdered q.steps
  pub begun : All (IsBegun q.lists) q.steps
  pub listed : length q.lists ≡ length q.changes

made_stands : (d : Diagram) → IsWellFormed d → HasNumbers d → HasNoFreeSlot d → Ends (made d).1 → StandsFor (runner_state (made d)) d [] []
made_stands d wf numbers closed ends =
    let n = inputs d in
    let p = input_code n in
    let q = (made d).1 in
    let o = ends.ordered in
    let none : HasLoops p = All-nil (λ (l : Loop). l.first + l.count ≤ 0) in
    let wide : length (input_registers n) ≡ n = length_table n (λ i. 1 + i) in
    let go = walk_goes runner_hooks HasLoops Onward runner_is_orderly d no_slots (input_registers n) p wf wide none in
    let end : GoesOn q q = record { steps = prefix_refl q.steps; lists = prefix_refl q.lists; cells = omega arith; same = λ k l h. refl } in
    let means = λ (c x : ℕ → Stream).
    walk_means runner_hooks HasLoops Onward (GoesOn q) AreNumbers (wires q.steps q.sources q.lists c x) c runner_is_orderly (runner_is_faithful q o c x) d
    no_slots (input_registers n) p wf (lists_of d numbers) wide none end in
    let start : (c x : ℕ → Stream) → IsPrefixOf p.steps q.steps = λ c x. (means c x).holds.steps in
    let first : List Step = step.Number (pos 0) ∷ [] in
    let long : length p.steps ≡ 1 + n = length-append first (table n step.Input) ∙ ap (λ k. 1 + k) (length_table n step.Input) in
    let enters : (c x : ℕ → Stream) (k t : ℕ) → k < n → wires q.steps q.sources q.lists c x (1 + k) t ≡ x k t = λ c x k t l.
    let at : get_or p.steps (1 + k) (step.Input k) ≡ step.Input k = get_or-append-add first (table n step.Input) k (step.Input k)
    ∙ get_or_table n step.Input k (step.Input k) l in
    step_is q.sources q.lists c x q.steps (1 + k) (step.Input k) t o (omega (arith, long, prefix_long p.steps q.steps (start c x)))
    (prefix_get p.steps q.steps (1 + k) (step.Input k) (start c x) (omega (arith, long)) ∙ at) in record {
      closed = closed;
      takes = go.1.ins;
      gives = go.0;
      reads = walked_reads d no_slots (input_registers n) p ∙ omega arith;
      ins = input_registers n;
      begun = q.lists;
      as_begun = ends.begun;
      begun_each = ends.listed;
      wired = λ c x. (means c x).wired;
      entered = λ c x t. map_table (λ w. wires q.steps q.sources q.lists c x w t) n (λ i. 1 + i) ∙ table_same n _ _ (λ k l. enters c x k t l);
      held = cells_zero q.sources;
      listed_so = lists_begin (wires q.steps q.sources q.lists (column []) (column [])) q.lists q.changes ends.listed;
      as_many = refl;
      wide = All-nil (λ x. length x ≡ n);
    }

pub starts : (p q : Code) (m : RunnerState) (d : Diagram) (n : ℕ) (ins outs : List ℕ) → n ≡ inputs d → p ≡ input_code n → ins ≡ input_registers n →
    (outs, q) ≡ walked runner_hooks 0 d no_slots ins p →
    IsWellFormed d → HasNumbers d → HasNoFreeSlot d → AreOrdered q.steps → All (IsBegun q.lists) q.steps → length q.lists ≡ length q.changes
    → m ≡ runner_state (outs, q) → StandsFor m d [] []
starts p q m d n ins outs en ep ei ew wf numbers closed o begun listed em =
    let same : (outs, q) ≡ made d = ew ∙ ap₂ (walked runner_hooks 0 d no_slots) (ei ∙ ap input_registers en) (ep ∙ ap input_code en) in
    subst (λ m. StandsFor m d [] []) (sym (em ∙ ap runner_state same))
    (made_stands d wf numbers closed (subst (λ r. Ends r.1) same (record { ordered = o; begun = begun; listed = listed })))

-- the registers of the inputs
pub inputs_below : (n : ℕ) → All (λ w. w < length (input_code n).steps) (input_registers n)
inputs_below n =
    let first : List Step = step.Number (pos 0) ∷ [] in
    All-from_get_or (λ w. w < length (input_code n).steps) (input_registers n) 0 (λ i l.
    let m : i < n = omega (arith, length_table n (λ i. 1 + i)) in
    omega (arith, get_or_table n (λ i. 1 + i) i 0 m, length-append first (table n step.Input), length_table n step.Input))
