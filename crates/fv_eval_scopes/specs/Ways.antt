-- Ways outward over scopes that have nothing of a name (this project's profile).
use Rattle.std.specs.Prelude.{◌≡◌, ℕ, zero, suc, ◌<◌, List, length, slice_get, Option, Some, None}
use Rattle.fv_eval_scopes.specs.declared.ways.TheConstants.{LEVELS}
use Rattle.fv_eval_scopes.specs.declared.tries.Fork.{Fork}
use Rattle.fv_eval_scopes.specs.declared.ways.Way.{Way}
use Rattle.fv_eval_scopes.specs.declared.ways.Ways.{Ways}
use Rattle.fv_eval_scopes.specs.declared.value.Scope as code_scope
use Rattle.fv_eval_scopes.specs.declared.value.Scope.TheVariants as scope
use Rattle.fv_eval_scopes.specs.Environments.{first_number, scope_in, outer_number}
use Rattle.fv_eval_scopes.specs.Tries.{found, AreThere}

-- the key of a scope: the name that it binds, or its list of definitions; one of slots has none, so it is never passed
abbrev pub key_of : code_scope.Scope → Option ℕ
key_of (scope.Bound n u outer) = Some n
key_of (scope.Definitions id outer) = Some id
key_of (scope.Slots f k slot outer) = None

-- a scope that has none of these keys
abbrev pub IsOther : (ℕ → Type 0) → Option ℕ → Type 0
IsOther Keys None = ⊥
IsOther Keys (Some key) = Keys key → ⊥

-- the innermost scope of an environment has none of these keys, and this environment is around it
abbrev pub HasOther : List code_scope.Scope → (ℕ → Type 0) → (env outer : ℕ) → Type 0
HasOther scopes Keys env outer =
    (s : code_scope.Scope) × (scope_in scopes env ≡ Some s) × (outer_number s ≡ outer) × (outer < env) × IsOther Keys (key_of s)

-- This many scopes, from an environment outward to another one, have none of these keys.
abbrev pub PassesBy : List code_scope.Scope → (ℕ → Type 0) → (count env at : ℕ) → Type 0
PassesBy scopes Keys zero env at = env ≡ at
PassesBy scopes Keys (suc n) env at = (outer : ℕ) × HasOther scopes Keys env outer × PassesBy scopes Keys n outer at

-- from an environment outward to another one no scope has any of these keys
abbrev pub PassesTo : List code_scope.Scope → (ℕ → Type 0) → (env at : ℕ) → Type 0
PassesTo scopes Keys env at = (n : ℕ) × PassesBy scopes Keys n env at

-- what was found, or else the end
abbrev pub or_end : ℕ → ℕ → ℕ
or_end end zero = end
or_end end (suc n) = suc n

-- Where the way leads for a key, no scope on it has that key.
pub record IsWay (scopes : List code_scope.Scope) (forks : List Fork) (env : ℕ) (k : Way) : Type 0 where
  pub there : AreThere forks LEVELS k.root
  pub leads : (key : ℕ) → PassesTo scopes (λ m. m ≡ key) env (or_end k.end (found forks LEVELS k.root key))

-- each scope has its way
pub record AreWays (scopes : List code_scope.Scope) (w : Ways) : Type 0 where
  pub each : length w.ways.items ≡ length scopes
  pub are : (i : ℕ) (k : Way) → slice_get w.ways.items i ≡ Some k → IsWay scopes w.tries (first_number i) k
