-- What calls say beside `headline/Value`: the values of a graph of signals (this project's profile).
use Rattle.std.specs.Prelude.{◌≡◌, ℕ, ◌<◌, List, ◌++◌, length, take, All, ℤ, pos, slice_index_or, Bool, true}
use Rattle.std.specs.Int.{int_max, int_min}
use Rattle.fv_num.specs.headline.Words.{inputs_of}
use Rattle.fv_num.specs.headline.Frames.{Frame, Stream, column}
use Rattle.fv_num.specs.headline.Interval.{IsWithin}
use Rattle.fv_signal.specs.declared.signal.Signal.{Signal}
use Rattle.fv_signal.specs.declared.signal.Signal.TheVariants.{Input, Const, Control, Point, Delay, Back, Member, Read, Write}
use Rattle.fv_signal.specs.headline.Value.{Graph, members, definition, table_of, back_by, signal_at, value, StandsAt, IsOrdered, IsClosed}

-- the value of each signal is what its node gives
abbrev pub ValuesAreGiven : Graph → Type 0
ValuesAreGiven g =
    IsOrdered g → (X : List Frame) (c : ℕ → Stream) (s : ℕ) (d : Signal) (t : ℕ) → s < length g.signals →
    value g s X c t ≡ signal_at g X c (λ r. value g r X c) (slice_index_or g.signals s d) t

-- how far back a number says is the number, or the end of 0 .. greatest beyond which it lies
abbrev pub DelaysAreClamped : Type 0
DelaysAreClamped = (greatest : ℕ) (d : ℤ) → pos (back_by greatest d) ≡ int_max (pos 0) (int_min d (pos greatest))

-- each delay goes back from 0 to its greatest number on these frames and controls
abbrev pub StayWithin : Graph → List Frame → (ℕ → Stream) → Type 0
StayWithin g X c = (s x by most t : ℕ) → StandsAt g s (Delay x by most) → IsWithin (record { lo = pos 0; hi = pos most }) (value g by X c t)

-- streams that the nodes give at each time
abbrev pub Solves : Graph → (X : List Frame) → (c : ℕ → Stream) → (v : ℕ → Stream) → Type 0
Solves g X c v = (s : ℕ) (d : Signal) (t : ℕ) → s < length g.signals → v s t ≡ signal_at g X c v (slice_index_or g.signals s d) t

-- there are no other streams that the nodes give
abbrev pub SolutionsAreValues : Graph → Type 0
SolutionsAreValues g =
    IsOrdered g → IsClosed g → (X : List Frame) (c v : ℕ → Stream) → Solves g X c v → (s t : ℕ) → s < length g.signals → v s t ≡ value g s X c t

-- what a signal takes, or the definition that it names, is among these
abbrev pub ReadsOnly : Graph → (P : ℕ → Type 0) → Signal → Type 0
ReadsOnly g P (Input k) = Unit {0}
ReadsOnly g P (Const n) = Unit {0}
ReadsOnly g P (Control k) = Unit {0}
ReadsOnly g P (Point op args) = All P (take (inputs_of op) args)
ReadsOnly g P (Delay x d max) = P x × P d
ReadsOnly g P (Back group k) = P (definition g group k)
ReadsOnly g P (Member group k) = P (definition g group k)
ReadsOnly g P (Read table r) = P r
ReadsOnly g P (Write table w x r) = P w × P x × P r

-- these signals read nothing but one another
abbrev pub AreClosedSet : Graph → (P : ℕ → Type 0) → Type 0
AreClosedSet g P = (s : ℕ) (d : Signal) → s < length g.signals → P s → ReadsOnly g P (slice_index_or g.signals s d)

-- streams that the nodes of these signals give at each time
abbrev pub SolvesOn : Graph → (P : ℕ → Type 0) → (X : List Frame) → (c : ℕ → Stream) → (v : ℕ → Stream) → Type 0
SolvesOn g P X c v = (s : ℕ) (d : Signal) (t : ℕ) → s < length g.signals → P s → v s t ≡ signal_at g X c v (slice_index_or g.signals s d) t

-- there are no other streams that the nodes of such signals give, whatever the other streams are
abbrev pub SolutionsAreValuesOn : Graph → Type 0
SolutionsAreValuesOn g =
    IsOrdered g → IsClosed g → (among : ℕ → Bool) → AreClosedSet g (λ s. among s ≡ true) → (X : List Frame) (c v : ℕ → Stream) →
    SolvesOn g (λ s. among s ≡ true) X c v → (s t : ℕ) → s < length g.signals → among s ≡ true → v s t ≡ value g s X c t

-- a value at a time depends on no later frame and no later control
abbrev pub ValuesLookBack : Graph → Type 0
ValuesLookBack g =
    (X Y : List Frame) (c d : ℕ → Stream) (n : ℕ) → ((i u : ℕ) → u < n → column X i u ≡ column Y i u) → ((k u : ℕ) → u < n → c k u ≡ d k u) →
    (s t : ℕ) → t < n → value g s X c t ≡ value g s Y d t

-- h has the signals of g and more after them, and the definitions of its groups and its tables
pub record Extends (g h : Graph) : Type 0 where
  pub more : List Signal
  pub signals : h.signals ≡ g.signals ++ more
  pub definitions : (group i : ℕ) → group < length g.groups → i < length (members g group) → definition h group i ≡ definition g group i
  pub tables : (table : ℕ) → 0 < length (table_of g table) → table_of h table ≡ table_of g table

-- where a graph grows, its signals keep their values
abbrev pub GrowthKeepsValues : Graph → Graph → Type 0
GrowthKeepsValues g h =
    IsOrdered g → IsClosed g → IsOrdered h → Extends g h → (X : List Frame) (c : ℕ → Stream) (s t : ℕ) → s < length g.signals
    → value h s X c t ≡ value g s X c t
