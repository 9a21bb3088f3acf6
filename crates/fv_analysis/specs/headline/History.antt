-- How far back the signals of a graph are read (this project's profile).
use Rattle.std.specs.Prelude.{ℕ, List, [], ◌∷◌, max, Bool, false, ◌||◌, nat_lt, nat_eq, if◌then◌else◌}
use Rattle.fv_signal.specs.declared.signal.Signal.{Signal}
use Rattle.fv_signal.specs.declared.signal.Signal.TheVariants.{Input, Const, Control, Point, Delay, Back, Member, Read, Write}
use Rattle.fv_signal.specs.headline.Value.{Graph, definition}
use Rattle.fv_analysis.specs.headline.Stands.{stand}

-- how far back a signal reads what signal r stands for
abbrev pub delay_of : Graph → (r : ℕ) → Signal → ℕ
delay_of g r (Input i) = 0
delay_of g r (Const n) = 0
delay_of g r (Control k) = 0
delay_of g r (Point op args) = 0
delay_of g r (Delay x d most) = if nat_eq (stand g x) r then most else 0
delay_of g r (Back group i) = 0
delay_of g r (Member group i) = 0
delay_of g r (Read table i) = 0
delay_of g r (Write table w x i) = 0

-- the signal is a Back of a member that stands for r
abbrev pub is_back_of : Graph → (r : ℕ) → Signal → Bool
is_back_of g r (Input i) = false
is_back_of g r (Const n) = false
is_back_of g r (Control k) = false
is_back_of g r (Point op args) = false
is_back_of g r (Delay x d most) = false
is_back_of g r (Back group i) = nat_eq (stand g (definition g group i)) r
is_back_of g r (Member group i) = false
is_back_of g r (Read table i) = false
is_back_of g r (Write table w x i) = false

-- the greatest of these signals' delays of r
abbrev pub greatest_delay : Graph → (r : ℕ) → List Signal → ℕ
greatest_delay g r [] = 0
greatest_delay g r (s ∷ ss) = max (delay_of g r s) (greatest_delay g r ss)

-- one of these signals is a Back of r
abbrev pub is_fed_back : Graph → (r : ℕ) → List Signal → Bool
is_fed_back g r [] = false
is_fed_back g r (s ∷ ss) = is_back_of g r s || is_fed_back g r ss

-- the history of a signal with this greatest delay, which a Back names or not
abbrev pub history_from : ℕ → Bool → ℕ
history_from m fed = if nat_lt 0 m then m else (if fed then 1 else 0)

-- How far back a signal is read, by its own name or through members that it stands for: its greatest delay, and 1 where
-- that is 0 and a Back names it.
abbrev pub history_of : Graph → ℕ → ℕ
history_of g s = history_from (greatest_delay g (stand g s) g.signals) (is_fed_back g (stand g s) g.signals)
