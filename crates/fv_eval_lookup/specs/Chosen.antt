-- What choosing a rule answers (this project's profile).
use Rattle.std.specs.Prelude.{◌≡◌, ◌<◌, All, List, [], ◌∷◌, map, Option, Some, None}
use Rattle.fv_parse_grammar.specs.headline.Tree.{Tree}
use Rattle.fv_parse.specs.Trees.{Parsed, size_of, tree_in}
use Rattle.fv_parse.specs.TreeId.{TreeId}
use Rattle.fv_eval_lookup.specs.declared.by_name.Defined.{Defined}
use Rattle.fv_eval_lookup.specs.declared.first_rule.RuleAt.{RuleAt}
use Rattle.fv_eval_lookup.specs.declared.first_rule.Rules.{Rules}
use Rattle.fv_eval_lookup.specs.declared.first_rule.Rules.TheVariants as rules
use Rattle.fv_diagram.specs.Arena.{Arena}
use Rattle.fv_eval_scopes.specs.declared.value.Value as code_value
use Rattle.fv_eval_scopes.specs.declared.value.Binding as code_binding
use Rattle.fv_rules.specs.headline.Values.{Rule, Value, rule_of}
use Rattle.fv_rules.specs.headline.Matching.{Bindings, chosen}
use Rattle.fv_eval_scopes.specs.Shows.{World, ShowsTree, ShowsValues, ShowsBindings}
use Rattle.fv_eval_patterns.specs.Patterns.{with_diagrams}

-- a right side with bindings, or none
abbrev pub ShowsChoice : World → Option (TreeId × List code_binding.Binding) → Option (Tree × Bindings) → Type 0
ShowsChoice w (Some idb) (Some xb) = ShowsTree w idb.0 xb.0 × ShowsBindings w idb.1 xb.1
ShowsChoice w None None = Unit {0}
ShowsChoice w o p = ⊥

-- the nodes of the rules that stand at a place
abbrev pub nodes_of : Rules → List TreeId
nodes_of (rules.Case ids) = ids.now
nodes_of (rules.Definitions ds) = map (λ (d : Defined). d.node) ds.now

-- the patterns and the right side of the rule that a node is
pub record IsRuleAt (p : Parsed) (id : TreeId) (r : RuleAt) : Type 0 where
  pub patterns : map (tree_in p) r.patterns.now ≡ (rule_of (tree_in p id)).patterns
  pub body : tree_in p r.body ≡ (rule_of (tree_in p id)).body
  pub patterns_there : All (λ (i : TreeId). i < size_of p) r.patterns.now
  pub body_there : r.body < size_of p

-- the first of rules
abbrev pub IsFirstRule : Parsed → Option TreeId → List Rule → Type 0
IsFirstRule p None rs = rs ≡ []
IsFirstRule p (Some id) rs = (id < size_of p) × (more : List Rule) × (rs ≡ rule_of (tree_in p id) ∷ more)

-- the first of the rules at these nodes that matches arguments was chosen, and the arena has grown
abbrev pub Chooses : Parsed → List TreeId → List code_value.Value → Arena → Arena → Option (TreeId × List code_binding.Binding) → Type 0
Chooses p rules arguments old new o =
    (w : World) (vs : List Value) → w.tree ≡ p → w.diagrams ≡ old → ShowsValues w arguments vs
    → ShowsChoice (with_diagrams w new) o (chosen p.tokens (map (λ (id : TreeId). rule_of (tree_in p id)) rules) vs)
