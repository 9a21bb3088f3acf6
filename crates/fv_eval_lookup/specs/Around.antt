-- The lists of definitions around environments, by the names that they have (this project's profile).
use Rattle.std.specs.Prelude.{◌≡◌, ◌⊎◌, ℕ, zero, suc, ◌+◌, ◌<◌, List, [], Option, Some, filter, slice_get}
use Rattle.fv_parse_grammar.specs.headline.Tree.{items}
use Rattle.fv_parse.specs.headline.Trees.{text_of}
use Rattle.fv_parse.specs.Trees.{Parsed, size_of, tree_in, first_named}
use Rattle.fv_rules.specs.headline.Values.{is_of}
use Rattle.fv_eval_scopes.specs.declared.tries.Fork.{Fork}
use Rattle.fv_eval_scopes.specs.declared.value.Scope as code_scope
use Rattle.fv_eval_scopes.specs.declared.scopes.TheConstants.{STRIDE}
use Rattle.fv_eval_scopes.specs.Environments.{first_number, scope_in}
use Rattle.fv_eval_scopes.specs.Tries.{found, AreThere}
use Rattle.fv_eval_scopes.specs.Ways.{PassesBy}
use Rattle.fv_eval_lookup.specs.declared.around.TheConstants.{NAME_BITS}
use Rattle.fv_eval_lookup.specs.declared.around.Nested.{Nested}
use Rattle.fv_eval_lookup.specs.declared.around.Around.{Around}
use Rattle.fv_eval_scopes.specs.Outward.{SkipsBy}

-- a list has no definition of a name
abbrev pub HasNone : Parsed → (list name : ℕ) → Type 0
HasNone p list name =
    (n : ℕ) → list < size_of p → first_named p.tokens n ≡ name → filter (is_of p.tokens (text_of p.tokens n)) (items (tree_in p list)) ≡ []

-- a scope is kept by the name, or by this list
abbrev pub StopsAt : (name list key : ℕ) → Type 0
StopsAt name list key = (key ≡ name) ⊎ (key ≡ list)

-- The list is the nearest one around an environment that may define a name. Outward from there, no scope has anything of the name
-- before the name is bound or the list is met.
abbrev pub IsNearest : Parsed → List code_scope.Scope → (name env list : ℕ) → Type 0
IsNearest p scopes name env list = (n at : ℕ) → PassesBy scopes (StopsAt name list) n env at → SkipsBy p scopes name n env at

-- the environment was made
abbrev pub WasMade : List code_scope.Scope → ℕ → Type 0
WasMade scopes zero = Unit {0}
WasMade scopes (suc i) = (s : code_scope.Scope) × (scope_in scopes (suc i) ≡ Some s)

-- In the trie with this root, each name leads to the nearest list around an environment that has it.
pub record IsRoot (p : Parsed) (scopes : List code_scope.Scope) (forks : List Fork) (env root : ℕ) : Type 0 where
  pub made : WasMade scopes env
  pub there : AreThere forks NAME_BITS root
  pub leads : (name : ℕ) → IsNearest p scopes name env (found forks NAME_BITS root name)

-- In the trie with this root, each name leads to the list, if that has a definition of it. Every other name leads to where it leads
-- in the trie of the lists around.
pub record IsNested (p : Parsed) (forks : List Fork) (list around root : ℕ) : Type 0 where
  pub outer : AreThere forks NAME_BITS around
  pub there : AreThere forks NAME_BITS root
  pub leads : (name : ℕ) → (found forks NAME_BITS root name ≡ list)
      ⊎ (HasNone p list name × (found forks NAME_BITS root name ≡ found forks NAME_BITS around name))

-- what is remembered of lists within others is true
abbrev pub AreNested : Parsed → List Fork → List (Option Nested) → Type 0
AreNested p forks nested = (i : ℕ) (x : Nested) → slice_get nested i ≡ Some (Some x) → IsNested p forks x.list x.around x.root

-- What is known of the lists around environments is true of a text and these scopes.
pub record AreAround (p : Parsed) (scopes : List code_scope.Scope) (a : Around) : Type 0 where
  pub roots : (i r k : ℕ) → k < STRIDE → slice_get a.roots.items i ≡ Some r → IsRoot p scopes a.tries (first_number i + k) r
  pub nested : AreNested p a.tries a.nested.items
