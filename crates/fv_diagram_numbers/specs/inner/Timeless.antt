-- What timeless diagrams give at a time, and the work that finds it: numbers stand side by side, and each piece of work takes
-- some of them and writes others (this project's profile).
use Rattle.std.specs.Prelude.{◌≡◌, ◌⊎◌, ℕ, ◌+◌, ◌*◌, ◌<◌, ◌≤◌, Bool, true, false, ◌&&◌, List, [], ◌∷◌, ◌++◌, length, take, drop, ℤ, pos}
use Rattle.fv_num.specs.headline.Words.{argument}
use Rattle.fv_num.specs.headline.Frames.{Frame, table}
use Rattle.fv_diagram.specs.headline.Diagram.{Diagram, Primitive, Constant, Par, Seq, Split, Merge, inputs, outputs, size}
use Rattle.fv_diagram.specs.Composed.{IsComposed}
use Rattle.fv_diagram.specs.headline.Streams.{primitive_at, dealt, merged}
use Rattle.fv_diagram.specs.Arena.{Arena, count_of, tree_of}
use Rattle.fv_diagram_numbers.specs.declared.timeless.Task.{Task}
use Rattle.fv_diagram_numbers.specs.declared.timeless.Task.TheVariants as task
use Rattle.fv_diagram_numbers.specs.headline.Numbers.{is_timeless}

-- what a timeless diagram gives at a time, from what it takes at that time (0 for the others, which nothing asks)
abbrev pub given : Diagram → Frame → Frame
given (Primitive p) x = primitive_at p (x ∷ []) 0
given (Constant n) x = n ∷ []
given (Par a b) x = given a (take (inputs a) x) ++ given b (drop (inputs a) x)
given (Seq a b) x = given b (given a x)
given (Split a b) x = given b (dealt (pos 0) (inputs b) (given a x))
given (Merge a b) x = given b (merged (inputs b) (given a x))
given d x = table (outputs d) (λ i. pos 0)

-- What a piece of work does: it takes numbers from one index on, and writes others from another index on.
pub record Action : Type 0 where
  pub from : ℕ
  pub takes : ℕ
  pub to : ℕ
  pub gives : ℕ
  pub turned : Frame → Frame

-- a diagram is done
abbrev pub whole : Diagram → (from to : ℕ) → Action
whole d from to = record { from = from; takes = inputs d; to = to; gives = outputs d; turned = given d }

-- numbers are dealt where they stand
abbrev pub dealing : (at count many : ℕ) → Action
dealing at count many = record { from = at; takes = count; to = at; gives = many; turned = dealt (pos 0) many }

-- numbers are added up where they stand
abbrev pub summing : (at count many : ℕ) → Action
summing at count many = record { from = at; takes = count; to = at; gives = many; turned = merged many }

-- what a task does
abbrev pub action : Arena → Task → Action
action a (task.Visit id from to) = whole (tree_of a id) from to
action a (task.Deal at count many) = dealing at count many
action a (task.Sum at count many) = summing at count many

-- From the numbers `old` to the numbers `new` an action was done, and those before place l that it does not write stayed.
pub record Does (l : ℕ) (x : Action) (old new : ℕ → ℤ) : Type 0 where
  pub written : (j : ℕ) → j < x.gives → new (x.to + j) ≡ argument (x.turned (table x.takes (λ i. old (x.from + i)))) j
  pub kept : (i : ℕ) → i < l → (i < x.to) ⊎ (x.to + x.gives ≤ i) → new i ≡ old i

-- the tasks, done one after another, lead to the number n in place 0
abbrev pub Leads : Arena → ℕ → List Task → (ℕ → ℤ) → ℤ → Type 0
Leads a l [] m n = m 0 ≡ n
Leads a l (t ∷ ts) m n = (m' : ℕ → ℤ) → Does l (action a t) m m' → Leads a l ts m' n

-- a task speaks of places before place l alone, and a diagram does not write what it takes
abbrev pub Fits : Arena → ℕ → Task → Type 0
Fits a l (task.Visit id from to) =
    (id < count_of a) × IsComposed (tree_of a id) × (from + inputs (tree_of a id) ≤ l) × (to + outputs (tree_of a id) ≤ l)
    × ((from + inputs (tree_of a id) ≤ to) ⊎ (to + outputs (tree_of a id) ≤ from))
Fits a l (task.Deal at count many) = (0 < count) × (count ≤ many) × (at + many ≤ l)
Fits a l (task.Sum at count many) = (0 < many) × (many ≤ count) × (at + count ≤ l)

-- each of them does
abbrev pub AllFit : Arena → ℕ → List Task → Type 0
AllFit a l [] = Unit {0}
AllFit a l (t ∷ ts) = Fits a l t × AllFit a l ts

-- what holds before each turn
abbrev pub IsReady : Arena → List Task → List ℤ → Type 0
IsReady a ts ns = AllFit a (length ns) ts

-- all diagrams that are still to be done are timeless
abbrev pub are_timeless : Arena → List Task → Bool
are_timeless a [] = true
are_timeless a (task.Visit id from to ∷ ts) = is_timeless (tree_of a id) && are_timeless a ts
are_timeless a (t ∷ ts) = are_timeless a ts

-- a bound on the number of turns that the tasks take
abbrev pub weight : Arena → List Task → ℕ
weight a [] = 0
weight a (task.Visit id from to ∷ ts) = 3 * size (tree_of a id) + weight a ts
weight a (t ∷ ts) = 1 + weight a ts

-- a turn leads from tasks and numbers to others
pub record Advances (a : Arena) (ts : List Task) (ns : List ℤ) (us : List Task) (ms : List ℤ) : Type 0 where
  pub ready : IsReady a us ms
  pub leads : (n : ℤ) → Leads a (length ns) ts (argument ns) n → Leads a (length ms) us (argument ms) n
  pub same : are_timeless a us ≡ are_timeless a ts
  pub smaller : weight a us < weight a ts
  pub grows : length ns ≤ length ms

-- it does, or it met what is not timeless
abbrev pub Turns : Bool → Arena → List Task → List ℤ → List Task → List ℤ → Type 0
Turns true a ts ns us ms = Advances a ts ns us ms
Turns false a ts ns us ms = are_timeless a ts ≡ false
