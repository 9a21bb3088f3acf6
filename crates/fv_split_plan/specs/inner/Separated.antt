-- What no call says beside `headline/Separated`: which operands are below a number (this project's profile).
use Rattle.std.specs.Prelude.{ℕ, ◌<◌, All}
use Rattle.fv_signal.specs.declared.signal.Signal.{Signal}
use Rattle.fv_signal.specs.declared.signal.Signal.TheVariants.{Input, Const, Control, Point, Delay, Back, Member, Read, Write}

-- the operands of a node are below n
abbrev pub OperandsWithin : (n : ℕ) → Signal → Type 0
OperandsWithin n (Input i) = Unit {0}
OperandsWithin n (Const z) = Unit {0}
OperandsWithin n (Control k) = Unit {0}
OperandsWithin n (Point op args) = All (λ a. a < n) args
OperandsWithin n (Delay x d max) = (x < n) × (d < n)
OperandsWithin n (Back group i) = Unit {0}
OperandsWithin n (Member group i) = Unit {0}
OperandsWithin n (Read table r) = r < n
OperandsWithin n (Write table w x r) = (w < n) × (x < n) × (r < n)
