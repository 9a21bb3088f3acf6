-- What rules want at a position of their arguments (this project's profile).
use Rattle.std.specs.Prelude.{◌≡◌, ◌⊎◌, ℕ, ◌+◌, ◌<◌, ℤ, pos, neg_ℤ, unsigned_abs, Bool, true, nat_eq, List, [], ◌∷◌, filter, Option, Some, None, slice_get}
use Rattle.fv_diagram.specs.Words.{wrap}
use Rattle.fv_diagram.specs.headline.Diagram.{Diagram, Par, Seq, Split, Merge, Rec}
use Rattle.fv_rules.specs.Numbers.{number_of}
use Rattle.fv_parse_grammar.specs.headline.Tree.{Tree}
use Rattle.fv_parse_grammar.specs.headline.Tree as tree
use Rattle.fv_parse_grammar.specs.declared.form.Operator.{Operator}
use Rattle.fv_parse_grammar.specs.declared.form.Operator.TheVariants as operators
use Rattle.fv_eval_lookup.specs.declared.paths.Side.{Side}
use Rattle.fv_eval_lookup.specs.declared.paths.Side.TheVariants.{Left, Right}
use Rattle.fv_eval_lookup.specs.declared.paths.Path.{Path}
use Rattle.fv_eval_lookup.specs.declared.wants.Wanted.{Wanted}
use Rattle.fv_eval_patterns.specs.Bits.{has}
use Rattle.fv_rules.specs.headline.Values.{Rule, Value, Flat}
use Rattle.fv_rules.specs.headline.Matching.{and_then}

-- ---- parts

-- one of two parts
abbrev pub side_of : {A : Type 0} → Side → A → A → A
side_of Left x y = x
side_of Right x y = y

-- the part of a pattern to which sides lead
abbrev pub pattern_part : List Side → Tree → Option Tree
pattern_part [] x = Some x
pattern_part (s ∷ ss) (tree.Binary n o x y) = pattern_part ss (side_of s x y)
pattern_part (s ∷ ss) x = None

-- the parts of a diagram that is put as a composition
abbrev pub both_of : Diagram → Option (Diagram × Diagram)
both_of (Par x y) = Some (x, y)
both_of (Seq x y) = Some (x, y)
both_of (Split x y) = Some (x, y)
both_of (Merge x y) = Some (x, y)
both_of (Rec x y) = Some (x, y)
both_of d = None

-- the parts of a diagram without a number that is put as a composition
abbrev pub both_without : Option ℤ → Diagram → Option (Diagram × Diagram)
both_without (Some n) d = None
both_without None d = both_of d

-- the part of a diagram to which sides lead
abbrev pub diagram_part : List Side → Diagram → Option Diagram
diagram_part [] d = Some d
diagram_part (s ∷ ss) d = and_then (both_without (number_of d) d) (λ xy. diagram_part ss (side_of s xy.0 xy.1))

-- ---- keys

-- Compositions are kept apart by keys, and numbers by their sizes; what is neither has a key of its own.
abbrev pub operator_key : Operator → ℕ
operator_key operators.Recursion = 0
operator_key operators.Parallel = 1
operator_key operators.Sequence = 2
operator_key operators.Split = 3
operator_key operators.Merge = 4
operator_key (operators.Infix i) = 5

abbrev pub number_key : ℤ → ℕ
number_key n = unsigned_abs n + 6

-- the key of a diagram that has no number
abbrev pub composition_key : Diagram → ℕ
composition_key (Rec x y) = 0
composition_key (Par x y) = 1
composition_key (Seq x y) = 2
composition_key (Split x y) = 3
composition_key (Merge x y) = 4
composition_key d = 5

abbrev pub key_with : Option ℤ → Diagram → ℕ
key_with (Some n) d = number_key n
key_with None d = composition_key d

-- the key of a diagram
abbrev pub diagram_key : Diagram → ℕ
diagram_key d = key_with (number_of d) d

-- the key that a diagram must have for a pattern to match it, if there is one
abbrev pub wanted : Tree → Option ℕ
wanted (tree.Number s n) = Some (number_key (wrap (pos n)))
wanted (tree.Negative s n) = Some (number_key (wrap (neg_ℤ (pos n))))
wanted (tree.Binary s o x y) = Some (operator_key o)
wanted x = None

-- ---- at a position

-- what a rule wants there
abbrev pub want_at : Path → Rule → Option ℕ
want_at x r = and_then (slice_get r.patterns x.argument) (λ t. and_then (pattern_part x.sides.items t) wanted)

-- the key of the argument there
abbrev pub key_in : List Side → Option Value → Option ℕ
key_in ss (Some (Flat d)) = and_then (diagram_part ss d) (λ e. Some (diagram_key e))
key_in ss v = None

abbrev pub key_at : Path → List Value → Option ℕ
key_at x vs = key_in x.sides.items (slice_get vs x.argument)

-- this key is enough
abbrev pub permits : ℕ → Option ℕ → Bool
permits key None = true
permits key (Some k) = nat_eq k key

-- ---- what is kept of rules

-- it is for this key
abbrev pub is_for : ℕ → Wanted → Bool
is_for key w = nat_eq w.key key

-- a rule is among those of these wants
abbrev pub IsWanted : List Wanted → ℕ → Type 0
IsWanted [] j = ⊥
IsWanted (w ∷ ws) j = (j ≡ w.rule) ⊎ IsWanted ws j

-- The first count rules were looked at: those that want nothing there, and the others by what they want.
pub record Sorts (rules : List Rule) (x : Path) (count : ℕ) (free : List ℕ) (ws : List Wanted) : Type 0 where
  pub free_ones : (j : ℕ) (r : Rule) → j < count → slice_get rules j ≡ Some r → want_at x r ≡ None → has free j ≡ true
  pub others : (j k : ℕ) (r : Rule) → j < count → slice_get rules j ≡ Some r → want_at x r ≡ Some k → IsWanted (filter (is_for k) ws) j

-- those that want nothing, and those of these wants
pub record HasBoth (free : List ℕ) (ws : List Wanted) (bits : List ℕ) : Type 0 where
  pub free_ones : (j : ℕ) → has free j ≡ true → has bits j ≡ true
  pub others : (j : ℕ) → IsWanted ws j → has bits j ≡ true

-- the rules that an argument with this key leaves
abbrev pub Allows : List Rule → Path → ℕ → List ℕ → Type 0
Allows rules x key bits = (j : ℕ) (r : Rule) → slice_get rules j ≡ Some r → permits key (want_at x r) ≡ true → has bits j ≡ true
