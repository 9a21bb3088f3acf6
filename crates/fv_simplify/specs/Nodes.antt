-- What a graph's signals are and read (this project's profile).
use Rattle.std.specs.Prelude.{ℕ, zero, suc, List, [], ◌∷◌, ℤ, Option, None, Some}
use Rattle.fv_signal.specs.declared.signal.Signal.{Signal}
use Rattle.fv_signal.specs.declared.signal.Signal.TheVariants.{Input, Const, Control, Point, Delay, Back, Member, Read, Write}
use Rattle.fv_signal.specs.headline.Value.{Graph}
pub use Rattle.fv_signal.specs.headline.Value.{node, StandsAt}

-- the number that a signal is at all times, where it is written there
abbrev pub number : Signal → Option ℤ
number (Input k) = None
number (Const n) = Some n
number (Control k) = None
number (Point op args) = None
number (Delay x d most) = None
number (Back group k) = None
number (Member group k) = None
number (Read table r) = None
number (Write table w x r) = None

-- the number that signal s is
abbrev pub number_at : Graph → ℕ → Option ℤ
number_at g s = number (node g s)

-- the number that the operand at place i is
abbrev pub known : Graph → List ℕ → ℕ → Option ℤ
known g [] i = None
known g (a ∷ rest) zero = number_at g a
known g (a ∷ rest) (suc i) = known g rest i

-- a number before others
abbrev pub before : Option ℤ → Option (List ℤ) → Option (List ℤ)
before None ns = None
before (Some n) None = None
before (Some n) (Some ns) = Some (n ∷ ns)

-- the numbers of signals that are all known
abbrev pub numbers : Graph → List ℕ → Option (List ℤ)
numbers g [] = Some []
numbers g (a ∷ rest) = before (number_at g a) (numbers g rest)
