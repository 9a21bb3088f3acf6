-- What a signal reads, where a member stands for its definition (this project's profile).
use Rattle.std.specs.Prelude.{ℕ, List, [], length, slice_index_or}
use Rattle.fv_signal.specs.declared.signal.Signal.{Signal}
use Rattle.fv_signal.specs.declared.signal.Signal.TheVariants.{Input, Const, Control, Point, Delay, Back, Member, Read, Write}
use Rattle.fv_signal.specs.headline.Grown.{grown}
use Rattle.fv_signal.specs.headline.Value.{Graph, definition}
pub use Rattle.fv_signal.specs.headline.Value.{node, StandsAt}

-- the signal at a place stands for itself, and a member for what its definition stands for
abbrev pub stand_in : Graph → List ℕ → Signal → ℕ
stand_in g now (Member group i) = slice_index_or now (definition g group i) 0
stand_in g now (Input i) = length now
stand_in g now (Const n) = length now
stand_in g now (Control k) = length now
stand_in g now (Point op args) = length now
stand_in g now (Delay x d max) = length now
stand_in g now (Back group i) = length now
stand_in g now (Read table r) = length now
stand_in g now (Write table w x r) = length now

-- what each signal stands for
abbrev pub stands_of : Graph → List ℕ
stands_of g = grown (stand_in g) [] g.signals

-- the signal that signal s stands for, which is no member
abbrev pub stand : Graph → ℕ → ℕ
stand g s = slice_index_or (stands_of g) s 0
