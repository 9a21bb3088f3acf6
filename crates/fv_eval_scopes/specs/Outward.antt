-- Ways outward over scopes that have nothing of a name (this project's profile).
use Rattle.std.specs.Prelude.{◌≡◌, ℕ, zero, suc, ◌<◌, List, Some}
use Rattle.fv_parse.specs.Trees.{Parsed}
use Rattle.fv_eval_scopes.specs.declared.value.Scope as code_scope
use Rattle.fv_eval_scopes.specs.Environments.{scope_in, outer_number}
use Rattle.fv_eval_scopes.specs.Shows.{World, IsNamed, ShowsEnv}
use Rattle.fv_rules.specs.headline.Values.{Name, Env, Outermost, Bound, Scope, lookup}

-- the environment around the innermost scope
abbrev pub outer : Env → Env
outer Outermost = Outermost
outer (Bound x v E) = E
outer (Scope ds E) = E

-- a name stands for the same around the innermost scope of an environment
abbrev pub HasNothing : Parsed → (name env : ℕ) → code_scope.Scope → Type 0
HasNothing p name env s =
    (w : World) (x : Name) (E : Env) → w.tree ≡ p → scope_in w.scopes env ≡ Some s → IsNamed w name x → ShowsEnv w env E
    → lookup p.tokens E x ≡ lookup p.tokens (outer E) x

-- This many scopes, from an environment outward to another one, have nothing of a name.
abbrev pub SkipsBy : Parsed → List code_scope.Scope → (name count env at : ℕ) → Type 0
SkipsBy p scopes name zero env at = env ≡ at
SkipsBy p scopes name (suc n) env at =
    (s : code_scope.Scope) × (scope_in scopes env ≡ Some s) × (outer_number s < env) × HasNothing p name env s
    × SkipsBy p scopes name n (outer_number s) at

-- from an environment outward to another one no scope has anything of a name
abbrev pub SkipsTo : Parsed → List code_scope.Scope → (name env at : ℕ) → Type 0
SkipsTo p scopes name env at = (n : ℕ) × SkipsBy p scopes name n env at
