-- What no call says beside `headline/Stands`: what a signal reads, where a member stands for its definition (this project's profile).
use Rattle.std.specs.Prelude.{ℕ, ◌<◌, All}
use Rattle.fv_signal.specs.declared.signal.Signal.{Signal}
use Rattle.fv_signal.specs.declared.signal.Signal.TheVariants.{Input, Const, Control, Point, Delay, Back, Member, Read, Write}

-- the operands whose rates make a signal's are numbers below n
abbrev pub OperandsThere : ℕ → Signal → Type 0
OperandsThere n (Input i) = Unit {0}
OperandsThere n (Const z) = Unit {0}
OperandsThere n (Control k) = Unit {0}
OperandsThere n (Point op args) = All (λ a. a < n) args
OperandsThere n (Delay x d max) = Unit {0}
OperandsThere n (Back group i) = Unit {0}
OperandsThere n (Member group i) = Unit {0}
OperandsThere n (Read table r) = r < n
OperandsThere n (Write table w x r) = Unit {0}
