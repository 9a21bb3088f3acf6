-- The parameters of abstractions and definitions by name (this project's profile).
use Rattle.std.specs.Prelude.{◌≡◌, ◌⊎◌, ℕ, ◌+◌, ◌<◌, ◌≤◌, List, length, Option, Some, slice_get}
use Rattle.fv_parse.specs.headline.Trees.{text_of}
use Rattle.fv_parse.specs.Trees.{Parsed, tree_in, first_named}
use Rattle.fv_rules.specs.headline.Values.{Name}
use Rattle.fv_eval_scopes.specs.declared.tries.Fork.{Fork}
use Rattle.fv_eval_scopes.specs.declared.value.Scope as code_scope
use Rattle.fv_eval_scopes.specs.declared.value.Scope.TheVariants as scope
use Rattle.fv_eval_scopes.specs.Shows.{parameters_in}
use Rattle.fv_eval_scopes.specs.Tries.{found, AreThere}
use Rattle.fv_eval_scopes.specs.declared.parameter_tries.TheConstants.{NAME_BITS}
use Rattle.fv_eval_scopes.specs.declared.parameter_tries.ParameterTries.{ParameterTries}

-- the names of a node's parameters
abbrev pub names_in : Parsed → (node : ℕ) → List Name
names_in p node = parameters_in p.tokens (tree_in p node)

-- the parameter at a place has the name with this number
abbrev pub HasName : Parsed → (node place name : ℕ) → Type 0
HasName p node place name =
    (x : Name) × (slice_get (names_in p node) place ≡ Some x) × (first_named p.tokens name ≡ name) × (text_of p.tokens name ≡ x)

-- each parameter of a node that has a name stands before this place
abbrev pub IsEnd : Parsed → (node name end : ℕ) → Type 0
IsEnd p node name end = (i : ℕ) → HasName p node i name → i < end

-- In the trie with this root, each name leads to a place after those of the first parameters of a node that have it.
pub record IsTrie (p : Parsed) (forks : List Fork) (node count root : ℕ) : Type 0 where
  pub there : AreThere forks NAME_BITS root
  pub ends : (name i : ℕ) → i < count → HasName p node i name → i < found forks NAME_BITS root name

-- the trie has all of them
abbrev pub IsTrieOf : Parsed → List Fork → (node root : ℕ) → Type 0
IsTrieOf p forks node root = IsTrie p forks node (length (names_in p node)) root

-- the roots are those of the nodes
abbrev pub AreTries : Parsed → List Fork → List (Option ℕ) → Type 0
AreTries p forks roots = (i r : ℕ) → slice_get roots i ≡ Some (Some r) → IsTrieOf p forks i r

-- the tries are those of a text
abbrev pub AreParameters : Parsed → ParameterTries → Type 0
AreParameters p x = AreTries p x.tries x.roots.items

-- From environment k of a kept scope of slots, the first of which is that of this parameter, no parameter stands before the end up to
-- another one of its environments, or up to the one around it.
abbrev pub IsPast : (k parameter end outer env at : ℕ) → Type 0
IsPast k parameter end outer env at =
    ((at ≡ outer) × (outer + k < env) × (end ≤ parameter))
    ⊎ ((m : ℕ) × (m ≤ k) × (at + k ≡ env + m) × (m < k → end ≤ parameter + m + 1))

-- from environment k of a kept scope up to another environment it has parameters, of which none has the name, or the two are the same
abbrev pub Passes : Parsed → code_scope.Scope → (name k env at : ℕ) → Type 0
Passes p (scope.Slots node parameter slot outer) name k env at =
    (env ≡ at) ⊎ ((end : ℕ) × IsEnd p node name end × IsPast k parameter end outer env at)
Passes p s name k env at = env ≡ at
