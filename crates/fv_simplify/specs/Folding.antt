-- Signals of a graph that stand for equal ones (this project's profile).
use Rattle.std.specs.Prelude.{◌≡◌, ℕ, ◌<◌, ◌≤◌, length, map}
use Rattle.fv_signal.specs.declared.signal.Signal.{Signal}
use Rattle.fv_signal.specs.declared.signal.Signal.TheVariants.{Input, Const, Control, Point, Delay, Back, Member, Read, Write}
use Rattle.fv_signal.specs.headline.Value.{Graph, definition}
use Rattle.fv_analysis.specs.headline.Stands.{node}

-- What a node reads, where image a is read in the place of each operand a. A Back and a Member read `named d`, for the
-- definition d that they name, which is written in the place of the member's number: whose member it is does not matter.
abbrev pub reading : Graph → (image named : ℕ → ℕ) → Signal → Signal
reading g image named (Input k) = Input k
reading g image named (Const n) = Const n
reading g image named (Control k) = Control k
reading g image named (Point op args) = Point op (map image args)
reading g image named (Delay x d most) = Delay (image x) (image d) most
reading g image named (Back group k) = Back 0 (named (definition g group k))
reading g image named (Member group k) = Member 0 (named (definition g group k))
reading g image named (Read table r) = Read table (image r)
reading g image named (Write table w x r) = Write table (image w) (image x) (image r)

-- each signal's image is that signal or an earlier one, and reads what the signal reads
pub record IsFolding (g : Graph) (image : ℕ → ℕ) : Type 0 where
  pub earlier : (s : ℕ) → s < length g.signals → image s ≤ s
  pub alike : (s : ℕ) → s < length g.signals → reading g image image (node g (image s)) ≡ reading g image image (node g s)
