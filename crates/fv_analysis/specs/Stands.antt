-- What calls say beside `headline/Stands`: what a signal reads, where a member stands for its definition (this project's profile).
use Rattle.std.specs.Prelude.{◌≡◌, ℕ, ◌<◌, List, length}
use Rattle.fv_num.specs.headline.Frames.{Frame, Stream}
use Rattle.fv_signal.specs.declared.signal.Signal.{Signal}
use Rattle.fv_signal.specs.declared.signal.Signal.TheVariants.{Input, Const, Control, Point, Delay, Back, Member, Read, Write}
use Rattle.fv_signal.specs.declared.rate.Rate.TheVariants as rate
use Rattle.fv_signal.specs.headline.Value.{Graph, value, IsOrdered}
use Rattle.fv_signal.specs.headline.Rates.{rate_of}
use Rattle.fv_analysis.specs.headline.Stands.{node, stand}

-- what a member stands for has its values
abbrev pub StandsAlike : Graph → Type 0
StandsAlike g = IsOrdered g → (s : ℕ) → s < length g.signals → (X : List Frame) (c : ℕ → Stream) (t : ℕ) → value g (stand g s) X c t ≡ value g s X c t

-- a delay, a Back or a Member of a group, or a table that is written
abbrev pub IsDelayed : Signal → Type 0
IsDelayed (Input i) = ⊥
IsDelayed (Const n) = ⊥
IsDelayed (Control k) = ⊥
IsDelayed (Point op args) = ⊥
IsDelayed (Delay x d max) = Unit {0}
IsDelayed (Back group i) = Unit {0}
IsDelayed (Member group i) = Unit {0}
IsDelayed (Read table r) = ⊥
IsDelayed (Write table w x r) = Unit {0}

-- what passes through a delay, a group or a table that is written is of rate sample
abbrev pub DelaysAreSample : Graph → Type 0
DelaysAreSample g = (s : ℕ) → s < length g.signals → IsDelayed (node g s) → rate_of g s ≡ rate.Sample
