-- Signals that can be made simpler, and what a simpler graph keeps (this project's profile).
use Rattle.std.specs.Prelude.{◌≡◌, ℕ, ◌<◌, ◌≤◌, List, [], ◌∷◌, length, take, max, ℤ, pos, ◌+ℤ◌, ◌≤ℤ◌, slice_index_or, nat_eq, if◌then◌else◌, Some, true}
use Rattle.std.specs.Prelude.{FitsSigned}
use Rattle.std.specs.List.{sum}
use Rattle.std.specs.Int.{w32}
use Rattle.fv_base.specs.declared.limits.TheConstants.{DELAY_BUDGET}
use Rattle.fv_num.specs.declared.op.Op.{Op}
use Rattle.fv_num.specs.declared.op.Op.TheVariants.{Select2, Select3}
use Rattle.fv_num.specs.headline.Words.{inputs_of}
use Rattle.fv_num.specs.headline.Frames.{Frame, Stream, column, table}
use Rattle.fv_signal.specs.declared.signal.Signal.{Signal}
use Rattle.fv_signal.specs.declared.signal.Signal.TheVariants.{Input, Const, Control, Point, Delay, Back, Member, Read, Write}
use Rattle.fv_signal.specs.headline.Value.{Graph, value, AreAtMost}
use Rattle.fv_signal.specs.Value.{StayWithin}
use Rattle.fv_simplify.specs.Choices.{is_neutral, is_absorbing}
use Rattle.fv_simplify.specs.Nodes.{node, StandsAt, known, numbers}

-- the most samples that a delay may go back
abbrev pub limit : ℕ
limit = DELAY_BUDGET

-- an operation that chooses by its first operand
abbrev pub IsSelector : Op → Type 0
IsSelector Select2 = Unit {0}
IsSelector Select3 = Unit {0}
IsSelector op = ⊥

-- signal s is x, by the number c later
pub record IsDelayedBy (g : Graph) (s x : ℕ) (c : ℤ) : Type 0 where
  pub by : ℕ
  pub most : ℕ
  pub stands : StandsAt g s (Delay x by most)
  pub is : node g by ≡ Const c

-- Signal y is a delay by a number that its delays can take over: each delay of y is by a number, whose sum with its own is within
-- the limit.
pub record IsTakenOver (g : Graph) (y : ℕ) : Type 0 where
  pub x : ℕ
  pub c : ℤ
  pub delayed : IsDelayedBy g y x c
  pub delays : (r d most : ℕ) → StandsAt g r (Delay y d most) → (b : ℤ) × IsDelayedBy g r y b × ((c +ℤ b) ≤ℤ pos limit)

-- Why a signal is reducible.
pub data IsReducible (g : Graph) (s : ℕ) : Type 0 where
  -- an operation on numbers
  OnNumbers : (op : Op) (args : List ℕ) (ns : List ℤ) → StandsAt g s (Point op args) → numbers g (take (inputs_of op) args) ≡ Some ns → IsReducible g s
  -- an operand that leaves the other one as it is
  ByNeutral : (op : Op) (args : List ℕ) (place : ℕ) (n : ℤ) → StandsAt g s (Point op args) → place < 2 → known g (take (inputs_of op) args) place ≡ Some n
      → is_neutral op place n ≡ true → IsReducible g s
  -- an operand that makes the value 0
  ByAbsorbing : (op : Op) (args : List ℕ) (place : ℕ) (n : ℤ) → StandsAt g s (Point op args) → place < 2 → known g (take (inputs_of op) args) place ≡ Some n
      → is_absorbing op place n ≡ true → IsReducible g s
  -- a selector that is a number
  BySelector : (op : Op) (args : List ℕ) (n : ℤ) → StandsAt g s (Point op args) → IsSelector op → known g (take (inputs_of op) args) 0 ≡ Some n
      → IsReducible g s
  -- a delay by 0
  ByNothing : (x by most : ℕ) → StandsAt g s (Delay x by most) → node g by ≡ Const (pos 0) → IsReducible g s
  -- a delay of 0
  OfNothing : (x by most : ℕ) → StandsAt g s (Delay x by most) → node g x ≡ Const (pos 0) → IsReducible g s
  -- a delay by a number that is not its greatest
  Loose : (x by most : ℕ) (c : ℤ) → StandsAt g s (Delay x by most) → node g by ≡ Const c → (c ≡ pos most → ⊥) → IsReducible g s
  -- a delay by a number of a delay that is taken over
  OfDelay : (y : ℕ) (b : ℤ) → IsDelayedBy g s y b → IsTakenOver g y → IsReducible g s

-- how far back a node reads signal s
abbrev pub far : ℕ → Signal → ℕ
far s (Input k) = 0
far s (Const n) = 0
far s (Control k) = 0
far s (Point op args) = 0
far s (Delay x by most) = if nat_eq x s then most else 0
far s (Back group k) = 0
far s (Member group k) = 0
far s (Read table r) = 0
far s (Write table w x r) = 0

-- how far back one of these nodes reads signal s
abbrev pub farthest : ℕ → List Signal → ℕ
farthest s [] = 0
farthest s (n ∷ ns) = max (far s n) (farthest s ns)

-- the greatest delays of all signals, in one sum
abbrev pub reach : Graph → ℕ
reach g = sum (table (length g.signals) (λ s. farthest s g.signals))

-- frames and controls of 32-bit numbers
pub record AreSmall (X : List Frame) (c : ℕ → Stream) : Type 0 where
  pub frames : (i t : ℕ) → FitsSigned w32 (column X i t)
  pub controls : (k t : ℕ) → FitsSigned w32 (c k t)

-- What h keeps of g, and that it can not be made simpler.
pub record IsSimpler (g h : Graph) : Type 0 where
  pub width : length h.outputs ≡ length g.outputs
  pub values : (X : List Frame) (c : ℕ → Stream) → AreSmall X c → (j t : ℕ) → j < length g.outputs
      → value h (slice_index_or h.outputs j 0) X c t ≡ value g (slice_index_or g.outputs j 0) X c t
  pub done : (s : ℕ) → IsReducible h s → ⊥
  pub reach : reach h ≤ reach g
  pub within : (X : List Frame) (c : ℕ → Stream) → AreSmall X c → StayWithin g X c → StayWithin h X c
  pub short : AreAtMost limit g → AreAtMost limit h
  pub inputs : (s k : ℕ) → StandsAt h s (Input k) → (r : ℕ) × StandsAt g r (Input k)
  pub controls : (s k : ℕ) → StandsAt h s (Control k) → (r : ℕ) × StandsAt g r (Control k)
  pub tables : h.tables ≡ g.tables
