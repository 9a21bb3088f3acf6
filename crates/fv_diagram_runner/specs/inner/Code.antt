-- The code of a runner as it grows (this project's profile).
use Rattle.std.specs.Prelude.{◌≡◌, ℕ, suc, ◌+◌, ◌<◌, ◌≤◌, Bool, true, false, List, [], ◌∷◌, ◌++◌, length, map, take, get_or, max, All, ℤ, pos, slice_set}
use Rattle.fv_num.specs.headline.Frames.{table}
use Rattle.fv_num.specs.declared.op.Op.TheVariants.{Select2, Add, Rem}
use Rattle.fv_diagram_runner.specs.declared.step.Step.{Step}
use Rattle.fv_diagram_runner.specs.declared.step.Step.TheVariants as step
use Rattle.fv_diagram_runner.specs.declared.step.Change.{Change}
use Rattle.fv_diagram_runner.specs.declared.step.Change.TheVariants as change
use Rattle.fv_diagram_runner.specs.declared.draft.Loop.{Loop}
use Rattle.fv_diagram_runner.specs.declared.draft.Draft.TheInside.{Inside}
use Rattle.fv_diagram.specs.declared.signals.Leaf.{Leaf}
use Rattle.fv_diagram.specs.declared.signals.Leaf.TheVariants as leaf
use Rattle.fv_diagram.specs.Hooks.{Hooks, padded}
use Rattle.fv_diagram_runner.specs.History.{numbers_of}
use Rattle.fv_diagram_runner.specs.Steps.{AreOrdered, ReadsWithin, IsKept, IsBegun, ChangesBelow}

-- The steps so far, the sources of the cells, how the lists change and what they have at first. Then the open feedbacks, the
-- innermost one first, and how many controls and inputs the steps may read.
pub record Code : Type 0 where
  pub steps : List Step
  pub sources : List ℕ
  pub changes : List Change
  pub lists : List (List ℤ)
  pub loops : List Loop
  pub controls : ℕ
  pub ins : ℕ

-- the cells of the open feedbacks are there
abbrev pub HasLoops : Code → Type 0
HasLoops s = All (λ l. l.first + l.count ≤ length s.sources) s.loops

-- what holds of all code
pub record IsCode (p : Code) : Type 0 where
  pub ordered : AreOrdered p.steps
  pub within : All (ReadsWithin p.controls p.ins (length p.sources) (length p.changes)) p.steps
  pub kept : All (IsKept p.changes) p.steps
  pub begun : All (IsBegun p.lists) p.steps
  pub listed : length p.lists ≡ length p.changes
  pub sources : All (λ w. w < length p.steps) p.sources
  pub changes : All (ChangesBelow (length p.steps)) p.changes
  pub loops : HasLoops p
  pub some : 0 < length p.steps

-- a draft's fields
abbrev pub code_of : Inside → Code
code_of a = record {
  steps = a.steps.items;
  sources = a.sources.items;
  changes = a.changes.items;
  lists = numbers_of a.lists.items;
  loops = a.loops.items;
  controls = a.controls;
  ins = a.ins;
}

-- what holds of the fields
abbrev pub IsInside : Inside → Type 0
IsInside a = IsCode (code_of a)

-- the code that takes n inputs: register 0 has the number 0, and the inputs have the registers after it
abbrev pub input_code : ℕ → Code
input_code n = record {
  steps = (step.Number (pos 0) ∷ []) ++ table n step.Input;
  sources = [];
  changes = [];
  lists = [];
  loops = [];
  controls = 0;
  ins = n;
}

-- one step more, and its register
abbrev pub with_step : Code → Step → Code
with_step s a = record s { steps = s.steps ++ a ∷ [] }

-- the register of a step more, and the code with that step
abbrev pub put : Code → Step → ℕ × Code
put s a = (length s.steps, with_step s a)

-- a step that reads control k
abbrev pub put_control : Code → ℕ → ℕ × Code
put_control s k = put (record s { controls = max s.controls (suc k) }) (step.Control k)

-- a cell more, which takes register w, and a step that reads it
abbrev pub put_cell : Code → ℕ → ℕ × Code
put_cell s w = put (record s { sources = s.sources ++ w ∷ [] }) (step.Cell (length s.sources))

-- a list more, which has the numbers T at first
abbrev pub with_list : Code → Change → List ℤ → Code
with_list s c T = record s { changes = s.changes ++ c ∷ []; lists = s.lists ++ T ∷ [] }

-- a list more, of the numbers of register x, and a step that looks back in it
abbrev pub put_back : Code → (x d : ℕ) → ℕ × Code
put_back s x d = put (with_list s (change.Append x) []) (step.Back x d (length s.lists))

-- a list more, of the numbers T, and a step that reads it at register r
abbrev pub put_read : Code → (T : List ℤ) → (r : ℕ) → ℕ × Code
put_read s T r = put (with_list s change.Keep T) (step.Read r (length s.lists))

-- a list more, of the numbers T, where register x is written at register w, and a step that then reads it at register r
abbrev pub put_write : Code → (T : List ℤ) → (w x r : ℕ) → ℕ × Code
put_write s T w x r = put (with_list s (change.Put w x) T) (step.Write w x r (length s.lists))

-- what a table adds
abbrev pub tabled_of : Bool → List ℤ → List ℕ → Code → ℕ × Code
tabled_of false T ins s = put_read s T (get_or ins 0 0)
tabled_of true T ins s = put_write s T (get_or ins 0 0) (get_or ins 1 0) (get_or ins 2 0)

-- the first sample of register x, and then register y one sample later: a cell that takes the number 1 is 0 at the first
-- time alone, and chooses
abbrev pub put_prefix : Code → (x y : ℕ) → ℕ × Code
put_prefix s x y =
    let one = put s (step.Number (pos 1)) in
    let begun = put_cell one.1 one.0 in
    let late = put_cell begun.1 y in
    put late.1 (step.Point Select2 (begun.0 ∷ x ∷ late.0 ∷ late.0 ∷ []))

-- what a leaf adds
abbrev pub leaf_of : Leaf → List ℕ → Code → ℕ × Code
leaf_of (leaf.Number n) ins s = put s (step.Number n)
leaf_of (leaf.Control k) ins s = put_control s k
leaf_of leaf.Mem ins s = put_cell s (get_or ins 0 0)
leaf_of leaf.Prefix ins s = put_prefix s (get_or ins 0 0) (get_or ins 1 0)
leaf_of leaf.Delay ins s = put_back s (get_or ins 0 0) (get_or ins 1 0)
leaf_of (leaf.Point op) ins s = put s (step.Point op (padded ins))

-- n cells more, which take register 0 for now
abbrev pub with_cells : ℕ → Code → Code
with_cells n s = record s {
  steps = s.steps ++ table n (λ i. step.Cell (length s.sources + i));
  sources = s.sources ++ table n (λ i. 0);
}

-- a feedback begins with its cells
abbrev pub opened_of : ℕ → Code → List ℕ × Code
opened_of n s =
    (table n (λ i. length s.steps + i), record (with_cells n s) { loops = record { first = length s.sources; count = n } ∷ s.loops })

-- registers are written over others, from place i on
abbrev pub written : ℕ → List ℕ → List ℕ → List ℕ
written i [] xs = xs
written i (w ∷ ws) xs = written (suc i) ws (slice_set xs i w)

-- a feedback ends: its cells take the registers that are fed back
abbrev pub shut : List Loop → List ℕ → Code → Code
shut [] outs s = s
shut (l ∷ ls) outs s = record s { sources = written l.first (take l.count outs) s.sources; loops = ls }

-- what the end of a feedback gives, and the code after it
abbrev pub closed_of : List ℕ → Code → List ℕ × Code
closed_of outs s = (outs, shut s.loops outs s)

-- A register that counts from 0 on, modulo n: a feedback of one more, modulo n.
abbrev pub counted_of : ℕ → Code → ℕ × Code
counted_of n s =
    let many = leaf_of (leaf.Number (pos n)) [] s in
    let late = opened_of 1 many.1 in
    let i = get_or late.0 0 0 in
    let one = leaf_of (leaf.Number (pos 1)) [] late.1 in
    let more = leaf_of (leaf.Point Add) (i ∷ one.0 ∷ []) one.1 in
    let next = leaf_of (leaf.Point Rem) (more.0 ∷ many.0 ∷ []) more.1 in
    let outs = closed_of (next.0 ∷ []) next.1 in
    (i, outs.1)

-- what the runner does in a walk
abbrev pub runner_hooks : Hooks ℕ Code
runner_hooks = record { leaf = leaf_of; opened = opened_of; closed = closed_of; counted = counted_of; tabled = tabled_of }

-- a register that has a step
abbrev pub IsRegister : Code → ℕ → Type 0
IsRegister s w = w < length s.steps

-- how many wires each open feedback feeds back, the innermost one first
abbrev pub fed_of : Code → List ℕ
fed_of s = map (λ l. l.count) s.loops
