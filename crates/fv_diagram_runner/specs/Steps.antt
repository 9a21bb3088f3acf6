-- What the steps of a runner compute.
use Rattle.std.specs.Prelude.{◌≡◌, ℕ, ◌<◌, ◌≤◌, List, [], ◌∷◌, ◌++◌, length, map, take, get_or, All, ℤ, pos, slice_index_or}
use Rattle.fv_num.specs.headline.Words.{apply_of, inputs_of, argument}
use Rattle.fv_num.specs.headline.Frames.{Frame, Stream, column, table, delayed, back, carried}
use Rattle.fv_num.specs.headline.Tables.{read_at, written_at, written, after}
use Rattle.fv_num.specs.headline.Valuation.{Meaning, valuation}
use Rattle.fv_diagram_runner.specs.declared.step.Step.{Step}
use Rattle.fv_diagram_runner.specs.declared.step.Step.TheVariants as step
use Rattle.fv_diagram_runner.specs.declared.step.Change.{Change}
use Rattle.fv_diagram_runner.specs.declared.step.Change.TheVariants as change
use Rattle.fv_diagram.specs.headline.Diagram.{Diagram, inputs, outputs}
use Rattle.fv_diagram.specs.Diagram.{control_bound, HasNoFreeSlot}
use Rattle.fv_diagram.specs.Wires.{Wired, no_slots}

-- What a step gives, from the numbers of the controls, the inputs, the cells and the registers, and from what the steps that
-- read a list recall.
abbrev pub step_value : (control input cell : ℕ → ℤ) → (recall : Step → ℤ) → (register : ℕ → ℤ) → Step → ℤ
step_value control input cell recall register (step.Number n) = n
step_value control input cell recall register (step.Control k) = control k
step_value control input cell recall register (step.Input i) = input i
step_value control input cell recall register (step.Point op args) = apply_of op (take (inputs_of op) (map register args))
step_value control input cell recall register (step.Cell k) = cell k
step_value control input cell recall register (step.Back x d list) = recall (step.Back x d list)
step_value control input cell recall register (step.Read r list) = recall (step.Read r list)
step_value control input cell recall register (step.Write w x r list) = recall (step.Write w x r list)

-- the number d frames before now, where the numbers before now are past
abbrev pub recalled : List ℤ → ℤ → ℤ → ℤ
recalled past now d = back (argument (past ++ now ∷ [])) (length past) d

-- what the lists recall: the number that register x had, or a list's number at an index, where one may first be written
abbrev pub in_lists : List (List ℤ) → (register : ℕ → ℤ) → Step → ℤ
in_lists lists register (step.Back x d list) = recalled (get_or lists list []) (register x) (register d)
in_lists lists register (step.Read r list) = read_at (get_or lists list []) (register r)
in_lists lists register (step.Write w x r list) = read_at (written (get_or lists list []) (register w) (register x)) (register r)
in_lists lists register _ = pos 0

-- what the lists recall at time t, where register w has the stream v w and each list had the numbers of begun at first
abbrev pub in_streams : (begun : List (List ℤ)) → (v : ℕ → Stream) → ℕ → Step → ℤ
in_streams begun v t (step.Back x d list) = back (v x) t (v d t)
in_streams begun v t (step.Read r list) = read_at (get_or begun list []) (v r t)
in_streams begun v t (step.Write w x r list) = written_at (get_or begun list []) (v w) (v x) t (v r t)
in_streams begun v t _ = pos 0

-- the registers, one for each step, after those of the steps before them
abbrev pub registers : (control input cell : ℕ → ℤ) → List (List ℤ) → List ℤ → List Step → List ℤ
registers control input cell lists now [] = now
registers control input cell lists now (s ∷ ss) =
    registers control input cell lists (now ++ step_value control input cell (in_lists lists (argument now)) (argument now) s ∷ []) ss

-- the registers that a change reads are among the first n
abbrev pub ChangesBelow : ℕ → Change → Type 0
ChangesBelow n (change.Append w) = w < n
ChangesBelow n change.Keep = Unit {0}
ChangesBelow n (change.Put w x) = (w < n) × (x < n)

-- a list after a change
abbrev pub changed : (register : ℕ → ℤ) → Change → List ℤ → List ℤ
changed register (change.Append w) numbers = numbers ++ register w ∷ []
changed register change.Keep numbers = numbers
changed register (change.Put w x) numbers = written numbers (register w) (register x)

-- the lists after their changes
abbrev pub lists_after : (register : ℕ → ℤ) → List Change → List (List ℤ) → List (List ℤ)
lists_after register changes lists = table (length lists) (λ k. changed register (get_or changes k (change.Append 0)) (get_or lists k []))

-- what a list has after n frames, where register w has the stream v w and the list had the numbers T at first
abbrev pub listed : (ℕ → Stream) → ℕ → (T : List ℤ) → Change → List ℤ
listed v n T (change.Append w) = T ++ table n (v w)
listed v n T change.Keep = T
listed v n T (change.Put w x) = after T (v w) (v x) n

-- what each list has after n frames, where register w has the stream v w and the lists had the numbers of begun at first
abbrev pub all_listed : (ℕ → Stream) → ℕ → (begun : List (List ℤ)) → List Change → List (List ℤ)
all_listed v n begun changes = table (length changes) (λ k. listed v n (get_or begun k []) (get_or changes k (change.Append 0)))

-- a step in place i reads earlier registers
abbrev pub OperandsBelow : ℕ → Step → Type 0
OperandsBelow i (step.Number n) = Unit {0}
OperandsBelow i (step.Control k) = Unit {0}
OperandsBelow i (step.Input k) = Unit {0}
OperandsBelow i (step.Point op args) = All (λ a. a < i) args
OperandsBelow i (step.Cell k) = Unit {0}
OperandsBelow i (step.Back x d list) = (x < i) × (d < i)
OperandsBelow i (step.Read r list) = r < i
OperandsBelow i (step.Write w x r list) = (w < i) × (x < i) × (r < i)

-- each step reads earlier registers
abbrev pub AreOrdered : List Step → Type 0
AreOrdered ss = (i : ℕ) (d : Step) → i < length ss → OperandsBelow i (slice_index_or ss i d)

-- a step reads controls, inputs, cells and lists that are there
abbrev pub ReadsWithin : (controls ins cells lists : ℕ) → Step → Type 0
ReadsWithin controls ins cells lists (step.Number n) = Unit {0}
ReadsWithin controls ins cells lists (step.Control k) = k < controls
ReadsWithin controls ins cells lists (step.Input k) = k < ins
ReadsWithin controls ins cells lists (step.Point op args) = length args ≡ 4
ReadsWithin controls ins cells lists (step.Cell k) = k < cells
ReadsWithin controls ins cells lists (step.Back x d list) = list < lists
ReadsWithin controls ins cells lists (step.Read r list) = list < lists
ReadsWithin controls ins cells lists (step.Write w x r list) = list < lists

-- the list that a step reads changes as the step asks
abbrev pub IsKept : List Change → Step → Type 0
IsKept changes (step.Back x d list) = get_or changes list (change.Append x) ≡ change.Append x
IsKept changes (step.Read r list) = get_or changes list change.Keep ≡ change.Keep
IsKept changes (step.Write w x r list) = get_or changes list (change.Put w x) ≡ change.Put w x
IsKept changes _ = Unit {0}

-- a list in which a step looks back is empty at first, and one that a step writes has numbers
abbrev pub IsBegun : (begun : List (List ℤ)) → Step → Type 0
IsBegun begun (step.Back x d list) = get_or begun list [] ≡ []
IsBegun begun (step.Write w x r list) = 1 ≤ length (get_or begun list [])
IsBegun begun _ = Unit {0}

-- a step's stream, where cell k holds the wire of source k one sample later
abbrev pub step_at : (sources : List ℕ) → (begun : List (List ℤ)) → (c x : ℕ → Stream) → Meaning Step
step_at sources begun c x v s t =
    step_value (λ k. c k t) (λ i. x i t) (argument (map (λ w. delayed (v w) t) sources)) (in_streams begun v t) (λ w. v w t) s

-- the streams of the steps
abbrev pub wires : List Step → (sources : List ℕ) → (begun : List (List ℤ)) → (c x : ℕ → Stream) → ℕ → Stream
wires steps sources begun c x = valuation (step_at sources begun c x) steps

-- A runner: its steps, the register that each cell takes, how each list changes, the registers that it gives, the cells
-- and the lists.
pub record RunnerState : Type 0 where
  pub steps : List Step
  pub sources : List ℕ
  pub changes : List Change
  pub outs : List ℕ
  pub cells : List ℤ
  pub lists : List (List ℤ)
  -- how many controls and inputs the steps may read
  pub controls : ℕ
  pub ins : ℕ

-- the registers of one step of the runner
abbrev pub registers_of : RunnerState → (controls frame : List ℤ) → List ℤ
registers_of m controls frame = registers (argument controls) (argument frame) (argument m.cells) m.lists [] m.steps

-- the runner after it
abbrev pub next_of : RunnerState → (controls frame : List ℤ) → RunnerState
next_of m controls frame = record m {
  cells = map (argument (registers_of m controls frame)) m.sources;
  lists = lists_after (argument (registers_of m controls frame)) m.changes m.lists;
}

-- what the runner gives in that step
abbrev pub given_of : RunnerState → (controls frame : List ℤ) → Frame
given_of m controls frame = map (argument (registers_of m controls frame)) m.outs

-- what holds of every runner
pub record IsRunner (m : RunnerState) (registers : List ℤ) : Type 0 where
  pub ordered : AreOrdered m.steps
  pub within : All (ReadsWithin m.controls m.ins (length m.cells) (length m.lists)) m.steps
  pub kept : All (IsKept m.changes) m.steps
  pub cells : length m.cells ≡ length m.sources
  pub lists : length m.lists ≡ length m.changes
  pub computed : length registers ≡ length m.steps
  pub sources : All (λ w. w < length m.steps) m.sources
  pub changes : All (ChangesBelow (length m.steps)) m.changes
  pub outs : All (λ w. w < length m.steps) m.outs

-- The runner stands for the diagram after the frames X, which came with the controls C.
pub record StandsFor (m : RunnerState) (d : Diagram) (C X : List Frame) : Type 0 where
  pub closed : HasNoFreeSlot d
  pub takes : m.ins ≡ inputs d
  pub gives : length m.outs ≡ outputs d
  pub reads : m.controls ≡ control_bound d
  pub ins : List ℕ
  -- what each list had at first
  pub begun : List (List ℤ)
  pub as_begun : All (IsBegun begun) m.steps
  pub begun_each : length begun ≡ length m.changes
  pub wired : (c x : ℕ → Stream) → Wired (wires m.steps m.sources begun c x) c d no_slots ins m.outs
  pub entered : (c x : ℕ → Stream) (t : ℕ) → carried (wires m.steps m.sources begun c x) ins t ≡ table (inputs d) (λ i. x i t)
  pub held : m.cells ≡ map (λ w. delayed (wires m.steps m.sources begun (column C) (column X) w) (length X)) m.sources
  pub listed_so : m.lists ≡ all_listed (wires m.steps m.sources begun (column C) (column X)) (length X) begun m.changes
  pub as_many : length C ≡ length X
  pub wide : All (λ x. length x ≡ inputs d) X
