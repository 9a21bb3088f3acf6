-- Rules that are left out since they do not match (this project's profile).
use Rattle.std.specs.Prelude.{◌≡◌, ℕ, List, [], length, filter, All, Option, Some, None, true, false, slice_get}
use Rattle.fv_parse.specs.Token.{Lexed}
use Rattle.fv_diagram.specs.Arena.{Arena}
use Rattle.fv_rules.specs.headline.Values.{Rule, Value}
use Rattle.fv_rules.specs.headline.Matching.{all_matched}
use Rattle.fv_eval_scopes.specs.declared.value.Value as code_value
use Rattle.fv_eval_scopes.specs.Shows.{World, ShowsValues}
use Rattle.fv_eval_lookup.specs.declared.positions.Position.{Position}
use Rattle.fv_eval_lookup.specs.declared.positions.Row.{Row}
use Rattle.fv_eval_lookup.specs.declared.index.RuleIndex.{RuleIndex}
use Rattle.fv_eval_patterns.specs.Bits.{has}
use Rattle.fv_eval_lookup.specs.Positions.{HasBoth, Sorts, is_for}

-- what a position keeps is true of rules
pub record Knows (rules : List Rule) (x : Position) : Type 0 where
  pub sorts : Sorts rules x.path (length rules) x.free x.wants
  pub rows : All (λ (r : Row). HasBoth x.free (filter (is_for r.key) x.wants) r.rules) x.rows.items

-- the patterns of a rule do not match values that these are
abbrev pub Fails : Rule → List code_value.Value → Arena → Type 0
Fails r us a = (l : Lexed) (w : World) (vs : List Value) → w.diagrams ≡ a → ShowsValues w us vs → all_matched l r.patterns vs [] ≡ None

-- each rule that is left out does not match
abbrev pub Narrows : List Rule → List code_value.Value → Arena → (old new : List ℕ) → Type 0
Narrows rules us a old new = (j : ℕ) (r : Rule) → slice_get rules j ≡ Some r → has old j ≡ true → has new j ≡ false → Fails r us a

-- an index is of these rules
pub record IsIndex (rules : List Rule) (x : RuleIndex) : Type 0 where
  pub every : (j : ℕ) (r : Rule) → slice_get rules j ≡ Some r → has x.every j ≡ true
  pub positions : All (Knows rules) x.positions.items

-- the others do not match
abbrev pub Leaves : List Rule → List code_value.Value → Arena → Option (List ℕ) → Type 0
Leaves rules us a None = Unit {0}
Leaves rules us a (Some bits) = (j : ℕ) (r : Rule) → slice_get rules j ≡ Some r → has bits j ≡ false → Fails r us a

-- a place is left out
abbrev pub IsOut : Option (List ℕ) → ℕ → Type 0
IsOut None j = ⊥
IsOut (Some bits) j = has bits j ≡ false
