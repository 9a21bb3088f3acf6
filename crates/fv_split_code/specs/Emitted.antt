-- The code of all loops, signal by signal.
use Rattle.std.specs.Prelude.{◌≡◌, ℕ, suc, ◌<◌, ◌≤◌, List, [], ◌∷◌, ◌++◌, length, slice_set, slice_get, Option, None, Some, Vec, Bool, true}
use Rattle.std.specs.Prelude.{◌&&◌, nat_lt, nat_eq, All}
use Rattle.std.specs.declared.alloc.Global.{Global}
use Rattle.fv_signal.specs.declared.signal.Signal.{Signal}
use Rattle.fv_signal.specs.declared.signal.Signal.TheVariants as signal
use Rattle.fv_signal.specs.headline.Value.{Graph, IsOrdered, IsClosed}
use Rattle.fv_split_plan.specs.Reach.{at}
use Rattle.fv_loopcode.specs.declared.step.Step.{Step}
use Rattle.fv_loopcode.specs.declared.step.Step.TheVariants as step
use Rattle.fv_loopcode.specs.headline.Obeys.{Roles, Place, OfLane, OfCells, nothing, with_place}
use Rattle.fv_analysis.specs.headline.Stands.{node, stand, StandsAt}
use Rattle.fv_split_plan.specs.headline.Separated.{operands, IsComputed}
use Rattle.fv_split_plan.specs.Separated.{IsWritten, lane_at, cells_at}
use Rattle.fv_split_plan.specs.headline.Fits.{Names}
use Rattle.fv_split_plan.specs.Fits.{Mean, Value, mean_at, CodeFits}
use Rattle.fv_split_code.specs.declared.kind.Kind.{Kind}
use Rattle.fv_split_code.specs.declared.kind.Kind.TheVariants as kind
use Rattle.fv_split_code.specs.declared.survey.Survey.{Survey}
use Rattle.fv_split_code.specs.Emits.{Serves, KindFits, IsLoaded, IsKindWithin, MeansNow, kind_of, owned_by}

-- what a signal is without its lane
abbrev pub IsBase : Kind → Type 0
IsBase (kind.Number n) = Unit {0}
IsBase (kind.Held k) = Unit {0}
IsBase (kind.Lane l) = ⊥
IsBase (kind.Input i) = Unit {0}
IsBase (kind.Back l) = Unit {0}
IsBase kind.Inner = Unit {0}

-- the signals that are at home in loop j and lower than s
abbrev pub known_at : (homes : List ℕ) → (j s : ℕ) → ℕ → Bool
known_at homes j s q = nat_lt q s && nat_eq (at homes q) j

-- the survey has each signal, and names what is there
pub record IsSurvey (n : ℕ) (t : Survey) : Type 0 where
  pub stands : length t.stands.items ≡ n
  pub bases : length t.bases.items ≡ n
  pub kinds : length t.kinds.items ≡ n
  pub lanes : length t.lanes.items ≡ n
  pub cells : length t.cells.items ≡ n
  pub homes : length t.homes.items ≡ n
  pub within : All (λ s. s < n) t.stands.items
  pub base_lanes : All (λ k. IsKindWithin (length t.owners.items) k) t.bases.items
  pub kind_lanes : All (λ k. IsKindWithin (length t.owners.items) k) t.kinds.items

-- o is among the operands of signal s
pub record IsOperand (g : Graph) (s o : ℕ) : Type 0 where
  pub place : ℕ
  pub within : place < length (operands (node g s))
  pub is : at (operands (node g s)) place ≡ o

-- the lane that a delay reads: it is that of what its first operand stands for, goes back far enough, and may be loaded
pub record DelayLane (g : Graph) (p : Names) (r : Roles) (t : Survey) (x max : ℕ) : Type 0 where
  pub lane : ℕ
  pub has : lane_at t.lanes.items (stand g x) ≡ Some lane
  pub names : p.lane lane ≡ stand g x
  pub far : max ≤ p.history lane
  pub loaded : r.loaded lane ≡ true

-- The signals that are written at home in loop j have cells of their own, which are its own, and no other signals have any.
pub record SuitCells (g : Graph) (p : Names) (r : Roles) (t : Survey) (j : ℕ) : Type 0 where
  -- the loop's own cells are those of signals that are at home in it
  pub own : (k : ℕ) → r.own (OfCells k) ≡ true → (p.cells k < length g.signals) × (cells_at t.cells.items (p.cells k) ≡ Some k)
      × (at t.homes.items (p.cells k) ≡ j)
  -- a signal with cells that is at home here has cells of this loop
  pub here : (s k : ℕ) → s < length g.signals → at t.homes.items s ≡ j → cells_at t.cells.items s ≡ Some k → (r.own (OfCells k) ≡ true) × (p.cells k ≡ s)
  -- just the tables that are written have cells, and they are computed
  pub all : (s : ℕ) → s < length g.signals → IsWritten (node g s) → (k : ℕ) × (cells_at t.cells.items s ≡ Some k)
  pub only : (s k : ℕ) → s < length g.signals → cells_at t.cells.items s ≡ Some k → IsWritten (node g s) × (kind_of t.bases.items s ≡ kind.Inner)

-- The survey is of the graph, as loop j sees it, whose roles are r, in a plan with these names.
pub record Suits (g : Graph) (p : Names) (r : Roles) (t : Survey) (j : ℕ) : Type 0 where
  pub own : (l : ℕ) → r.own (OfLane l) ≡ owned_by t.owners.items j l
  pub ordered : IsOrdered g
  pub closed : IsClosed g
  pub stands : (s : ℕ) → s < length g.signals → at t.stands.items s ≡ stand g s
  pub bases : (s : ℕ) → s < length g.signals → KindFits g p (kind_of t.bases.items s) s × IsBase (kind_of t.bases.items s)
  pub kinds : (s : ℕ) → s < length g.signals → KindFits g p (kind_of t.kinds.items s) s
  -- the loop's own lanes are those of signals that are at home in it
  pub lanes : (l : ℕ) → r.own (OfLane l) ≡ true → (p.lane l < length g.signals) × (lane_at t.lanes.items (p.lane l) ≡ Some l)
      × (at t.homes.items (p.lane l) ≡ j)
  -- a signal with a lane that is at home here has a lane of this loop
  pub lanes_here : (s l : ℕ) → s < length g.signals → at t.homes.items s ≡ j → lane_at t.lanes.items s ≡ Some l → (r.own (OfLane l) ≡ true) × (p.lane l ≡ s)
  -- an inner signal that is read here is at home here
  pub inner : (s o : ℕ) → s < length g.signals → at t.homes.items s ≡ j → IsOperand g s o → kind_of t.kinds.items (stand g o) ≡ kind.Inner →
      at t.homes.items (stand g o) ≡ j
  -- lanes of other loops may be loaded where an operand or the signal itself wants them
  pub loaded : (s o : ℕ) → s < length g.signals → at t.homes.items s ≡ j → IsOperand g s o → IsLoaded r (kind_of t.kinds.items (stand g o))
  pub base_loaded : (s : ℕ) → s < length g.signals → at t.homes.items s ≡ j → IsLoaded r (kind_of t.bases.items s)
  pub delays : (s x d max : ℕ) → StandsAt g s (signal.Delay x d max) → at t.homes.items s ≡ j → 1 ≤ max → DelayLane g p r t x max
  pub cells : SuitCells g p r t j
  -- a signal at home here that is nothing else is computed
  pub computed : (s : ℕ) → s < length g.signals → at t.homes.items s ≡ j → kind_of t.bases.items s ≡ kind.Inner → IsComputed (node g s)

-- the node that writes a table, whose operands are three
abbrev pub write_of : (table : ℕ) → List ℕ → Signal
write_of table args = signal.Write table (at args 0) (at args 1) (at args 2)

-- the code has grown so that register w means what signal x stands for, as loop j reads it
abbrev pub StoodNow : Survey → (regs : List ℕ) → (j : ℕ) → (old new : List Step) → (x w : ℕ) → Type 0
StoodNow t regs j old new x w =
    MeansNow regs old new (at t.stands.items x) w (kind_of t.kinds.items (at t.stands.items x)) (owned_by t.owners.items j)

-- the signal of a place
abbrev pub signal_of : Names → Place → ℕ
signal_of p (OfLane l) = p.lane l
signal_of p (OfCells k) = p.cells k

-- just the places of known signals were changed
abbrev pub EndedAre : Names → Roles → (known : ℕ → Bool) → (ended : Place → Bool) → Type 0
EndedAre p r known ended = (q : Place) → r.own q ≡ true → ended q ≡ known (signal_of p q)

-- a signal's own step changes its cells, where it has some
abbrev pub with_cells : Option ℕ → (Place → Bool) → Place → Bool
with_cells None ended = ended
with_cells (Some k) ended = with_place (OfCells k) ended

-- The code has grown so that register w means signal s of loop j, and its cells are changed: whatever it served before it serves now.
abbrev pub SignalNow : Graph → Names → Roles → Survey → (regs : List ℕ) → (j s : ℕ) → (old new : List Step) → (w : ℕ) → Type 0
SignalNow g p r t regs j s old new w =
    (means : List Mean) (ended : Place → Bool) →
    Serves g p r (known_at t.homes.items j s) regs old means ended → EndedAre p r (known_at t.homes.items j s) ended →
    (more : List Mean) × Serves g p r (known_at t.homes.items j s) regs new (means ++ more) (with_cells (cells_at t.cells.items s) ended)
    × (mean_at (means ++ more) w ≡ Value s) × (w < length (means ++ more))

-- so it is with signal s, where it is this node and computed
abbrev pub ComputesAt : Survey → (regs : List ℕ) → (j s : ℕ) → (old new : List Step) → Signal → (w : ℕ) → Type 0
ComputesAt t regs j s old new n w =
    (g : Graph) (p : Names) (r : Roles) →
    Suits g p r t j → StandsAt g s n → at t.homes.items s ≡ j → IsComputed n → SignalNow g p r t regs j s old new w

-- so it is with each computed signal that is this node
abbrev pub ComputesNow : Survey → (regs : List ℕ) → (j : ℕ) → (old new : List Step) → Signal → (w : ℕ) → Type 0
ComputesNow t regs j old new n w = (s : ℕ) → ComputesAt t regs j s old new n w

-- so it is with the signal's own step, whatever it is
abbrev pub OwnNow : Survey → (regs : List ℕ) → (j s : ℕ) → (old new : List Step) → Signal → (w : ℕ) → Type 0
OwnNow t regs j s old new n w =
    (g : Graph) (p : Names) (r : Roles) → Suits g p r t j → StandsAt g s n → at t.homes.items s ≡ j → SignalNow g p r t regs j s old new w

-- the code serves the signals that are at home in loop j and lower than s
abbrev pub ServesUpTo : Graph → Names → Roles → Survey → (j s : ℕ) → (regs : List ℕ) → List Step → Type 0
ServesUpTo g p r t j s regs steps =
    (means : List Mean) × (ended : Place → Bool) × Serves g p r (known_at t.homes.items j s) regs steps means ended
    × EndedAre p r (known_at t.homes.items j s) ended

-- the code after the append to a signal's lane, where it has one
abbrev pub with_append : List Step → Option ℕ → (w : ℕ) → List Step
with_append steps None w = steps
with_append steps (Some l) w = steps ++ step.Append l w ∷ []

-- one signal more
abbrev pub AddsNow : Survey → (j s : ℕ) → Signal → (old_regs : List ℕ) → (old : List Step) → (new_regs : List ℕ) → (new : List Step) → Type 0
AddsNow t j s n old_regs old new_regs new =
    ((w : ℕ) × (new_regs ≡ slice_set old_regs s w))
    × ((g : Graph) (p : Names) (r : Roles) → Suits g p r t j → StandsAt g s n → at t.homes.items s ≡ j → s < length old_regs →
    ServesUpTo g p r t j s old_regs old → ServesUpTo g p r t j (suc s) new_regs new)

-- the steps of a loop
abbrev pub steps_of : Option (Vec Step Global) → List Step
steps_of None = []
steps_of (Some code) = code.items

-- the code of a loop, nothing where there is none
abbrev pub code_in : List (Vec Step Global) → ℕ → List Step
code_in codes j = steps_of (slice_get codes j)

-- each loop's code serves what is lower than s
abbrev pub AllServe : Graph → Survey → (loops s : ℕ) → (regs : List ℕ) → List (Vec Step Global) → Type 0
AllServe g t loops s regs codes = (j : ℕ) → j < loops → (p : Names) (r : Roles) → Suits g p r t j → ServesUpTo g p r t j s regs (code_in codes j)

-- the code of each loop fits the graph, whatever names and roles the survey suits
pub record AreCodes (g : Graph) (t : Survey) (loops : ℕ) (codes : List (Vec Step Global)) : Type 0 where
  pub long : length codes ≡ loops
  pub fit : (j : ℕ) → j < loops → (p : Names) (r : Roles) → Suits g p r t j → CodeFits g p r nothing [] (code_in codes j)
