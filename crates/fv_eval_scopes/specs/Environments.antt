-- The lists of environments and of the arguments that rules have taken (this project's profile).
use Rattle.std.specs.Prelude.{ℕ, zero, suc, ◌+◌, ◌*◌, ◌/◌, ◌%◌, ◌<◌, ◌^◌, List, ◌∷◌, [], ◌++◌, length, Option, Some, None, slice_get}
use Rattle.fv_eval_scopes.specs.declared.value.Scope.{Scope}
use Rattle.fv_eval_scopes.specs.declared.value.Scope.TheVariants as scope
use Rattle.fv_eval_scopes.specs.declared.value.Argument.{Argument}
use Rattle.fv_eval_scopes.specs.declared.scopes.TheConstants.{STRIDE}

-- Scopes, each with the number of the environment around it, and arguments that were taken, each with that of the one before it.
pub record Environments : Type 0 where
  pub scopes : List Scope
  pub taken : List Argument

-- the number of the first environment of the scope that is kept at a place
abbrev pub first_number : ℕ → ℕ
first_number place = suc (place * STRIDE)

-- the number that the next scope gets
abbrev pub next_number : List Scope → ℕ
next_number scopes = first_number (length scopes)

-- The innermost scope of environment k of a kept scope, counted from 0, where `before` is the number of the environment before it.
-- Of parameters it is the one that is k further on; any other kept scope is the same in each of its environments.
abbrev pub nth_scope : (k before : ℕ) → Scope → Scope
nth_scope zero before s = s
nth_scope (suc k) before (scope.Slots f i slot outer) = scope.Slots f (i + suc k) (slot + suc k) before
nth_scope (suc k) before s = s

-- the innermost scope of environment k of a kept scope, where there is one
abbrev pub nth_of : (k before : ℕ) → Option Scope → Option Scope
nth_of k before None = None
nth_of k before (Some s) = Some (nth_scope k before s)

-- The innermost scope of an environment. Environment 0 is the outermost one, which has none; the others are numbered from 1 on,
-- as many for each kept scope as may be bound by one.
abbrev pub scope_in : List Scope → ℕ → Option Scope
scope_in scopes zero = None
scope_in scopes (suc i) = nth_of (i % STRIDE) i (slice_get scopes (i / STRIDE))

-- the numbers of all parameters and slots of a kept scope have room
abbrev pub HasRoom : Scope → Type 0
HasRoom (scope.Slots f i slot outer) = (i < 2 ^ 62) × (slot < 2 ^ 62)
HasRoom s = Unit {0}

-- one scope more
abbrev pub with_scope : Environments → Scope → Environments
with_scope e s = record e { scopes = e.scopes ++ s ∷ [] }

-- one argument more
abbrev pub with_argument : Environments → Argument → Environments
with_argument e a = record e { taken = e.taken ++ a ∷ [] }

-- the number of the environment around a scope
abbrev pub outer_number : Scope → ℕ
outer_number (scope.Bound n u i) = i
outer_number (scope.Definitions id i) = i
outer_number (scope.Slots f k slot i) = i
