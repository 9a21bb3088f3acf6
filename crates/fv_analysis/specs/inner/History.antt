-- What no call says beside `headline/History`: how far back the signals of a graph are read (this project's profile).
use Rattle.std.specs.Prelude.{◌≡◌, ℕ, ◌<◌, List, length, take, max, Bool, false, ◌||◌, slice_index_or}
use Rattle.fv_signal.specs.declared.signal.Signal.{Signal}
use Rattle.fv_signal.specs.declared.signal.Signal.TheVariants.{Input, Const, Control, Point, Delay, Back, Member, Read, Write}
use Rattle.fv_signal.specs.headline.Value.{Graph}
use Rattle.fv_analysis.specs.headline.History.{delay_of, is_back_of, greatest_delay, is_fed_back}

-- a delay's first operand is a number below n
abbrev pub IsOver : ℕ → Signal → Type 0
IsOver n (Input i) = Unit {0}
IsOver n (Const z) = Unit {0}
IsOver n (Control k) = Unit {0}
IsOver n (Point op args) = Unit {0}
IsOver n (Delay x d most) = x < n
IsOver n (Back group i) = Unit {0}
IsOver n (Member group i) = Unit {0}
IsOver n (Read table r) = Unit {0}
IsOver n (Write table w x r) = Unit {0}

-- Tables of the greatest delay of each signal, and of whether a Back names it, as the first n signals say.
pub record Tell (g : Graph) (n : ℕ) (delays : List ℕ) (backs : List Bool) : Type 0 where
  pub delays_long : length delays ≡ length g.signals
  pub backs_long : length backs ≡ length g.signals
  pub delays_are : (r : ℕ) → r < length g.signals → slice_index_or delays r 0 ≡ greatest_delay g r (take n g.signals)
  pub backs_are : (r : ℕ) → r < length g.signals → slice_index_or backs r false ≡ is_fed_back g r (take n g.signals)

-- the tables with what one signal more says
pub record TellMore (g : Graph) (signal : Signal) (delays : List ℕ) (backs : List Bool) (delays' : List ℕ) (backs' : List Bool) : Type 0 where
  pub delays_long : length delays' ≡ length delays
  pub backs_long : length backs' ≡ length backs
  pub delays_are : (r : ℕ) → r < length delays → slice_index_or delays' r 0 ≡ max (slice_index_or delays r 0) (delay_of g r signal)
  pub backs_are : (r : ℕ) → r < length backs → slice_index_or backs' r false ≡ slice_index_or backs r false || is_back_of g r signal
