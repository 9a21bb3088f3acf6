-- Ways outward over scopes that have nothing of a name: at their ends the name stands for the same.
use Rattle.std.proofs.Common.{◌≡◌, ℕ, zero, suc, ◌<◌, List, Some}
use Rattle.std.proofs.Common.{refl, sym, subst}
use Rattle.std.specs.Prelude.{slice_get}
use Rattle.fv_parse.specs.Trees.{Parsed}
use Rattle.fv_eval_scopes.specs.declared.value.Scope as code_scope
use Rattle.fv_eval_scopes.specs.Environments.{scope_in, outer_number}
use Rattle.fv_eval_lookup.specs.declared.shortcuts.Shortcuts.{Shortcuts}
use Rattle.fv_eval_lookup.specs.Shortcuts.{AreShortcuts}
use Rattle.fv_eval_scopes.specs.Outward.{HasNothing, SkipsTo, SkipsBy}
use Rattle.fv_eval_scopes.proofs.lemmas.Numbered.{scope_stays}
use Rattle.fv_eval_scopes.proofs.lemmas.Skips.{skips_none}
use Rattle.fv_eval_lookup.proofs.Lookups.{StillReaches, look_begins, look_further, look_goes_on}
use Rattle.fv_eval_lookup.proofs.Arounds.{around_grows}

-- one scope
pub skips_one : (p : Parsed) (scopes : List code_scope.Scope) (name env : ℕ) (s : code_scope.Scope) → scope_in scopes env ≡ Some s
    → outer_number s < env → HasNothing p name env s → SkipsTo p scopes name env (outer_number s)
skips_one p scopes name env s is l none = (1, (s, is, l, none, refl))

-- one way after another
skips_by_on : (p : Parsed) (scopes : List code_scope.Scope) (name n env mid at : ℕ) → SkipsBy p scopes name n env mid → SkipsTo p scopes name mid at
    → SkipsTo p scopes name env at
skips_by_on p scopes name zero env mid at h g = subst (λ e. SkipsTo p scopes name e at) (sym h) g
skips_by_on p scopes name (suc n) env mid at h g =
    let r = skips_by_on p scopes name n (outer_number h.0) mid at h.4 g in (suc r.0, (h.0, h.1, h.2, h.3, r.1))

pub skips_on : (p : Parsed) (scopes : List code_scope.Scope) (name env mid at : ℕ) → SkipsTo p scopes name env mid → SkipsTo p scopes name mid at
    → SkipsTo p scopes name env at
skips_on p scopes name env mid at h g = skips_by_on p scopes name h.0 env mid at h.1 g

-- at the end the name stands for the same
reached_by : (p : Parsed) (scopes : List code_scope.Scope) (name n env at : ℕ) → SkipsBy p scopes name n env at → StillReaches p scopes name env at
reached_by p scopes name zero env at h = subst (StillReaches p scopes name env) h (look_begins p scopes name env)
reached_by p scopes name (suc n) env at h =
    look_further (look_goes_on (look_begins p scopes name env) (sym h.1) h.3 refl) (reached_by p scopes name n (outer_number h.0) at h.4)

pub skips_reach : (p : Parsed) (scopes : List code_scope.Scope) (name env at : ℕ) → SkipsTo p scopes name env at → StillReaches p scopes name env at
skips_reach p scopes name env at h = reached_by p scopes name h.0 env at h.1

-- ---- scopes that have grown

module _ (p : Parsed) (old new : List code_scope.Scope)
    (same : (i : ℕ) (s : code_scope.Scope) → slice_get old i ≡ Some s → slice_get new i ≡ Some s) where
  skips_stay : (name n env at : ℕ) → SkipsBy p old name n env at → SkipsBy p new name n env at
  skips_stay name zero env at h = h
  skips_stay name (suc n) env at h = (h.0, scope_stays old new same env h.0 h.1, h.2, h.3, skips_stay name n (outer_number h.0) at h.4)

  -- what is remembered of them is still true
  pub shortcuts_grow : (xs : Shortcuts) → AreShortcuts p old xs → AreShortcuts p new xs
  shortcuts_grow xs h =
      (λ i x e. let k = h.0 i x e in (k.0, skips_stay x.name k.0 x.from x.to k.1), around_grows old new same p xs.around skips_stay h.1)

-- ---- a look-up

-- A look-up has come from an environment over a mark to another environment.
pub record HasCome (p : Parsed) (scopes : List code_scope.Scope) (xs : Shortcuts) (name env mark at : ℕ) : Type 0 where
  pub kept : AreShortcuts p scopes xs
  pub whole : SkipsTo p scopes name env at
  pub marked : SkipsTo p scopes name mark at

pub look_begins_here : (p : Parsed) (scopes : List code_scope.Scope) (xs : Shortcuts) (name env : ℕ) → AreShortcuts p scopes xs
    → HasCome p scopes xs name env env env
look_begins_here p scopes xs name env h = record { kept = h; whole = skips_none p scopes name env; marked = skips_none p scopes name env }

-- It goes on to a next environment and a next mark.
pub under_way_on : (p : Parsed) (scopes : List code_scope.Scope) (xs ys : Shortcuts) (name env mark at next last : ℕ)
    → HasCome p scopes xs name env mark at → SkipsTo p scopes name at next
    → (SkipsTo p scopes name mark next → SkipsTo p scopes name last next)
    → (AreShortcuts p scopes xs → SkipsTo p scopes name mark next → AreShortcuts p scopes ys) → HasCome p scopes ys name env last next
under_way_on p scopes xs ys name env mark at next last u h moves keeps =
    let marked = skips_on p scopes name mark at next u.marked h in
    record { kept = keeps u.kept marked; whole = skips_on p scopes name env at next u.whole h; marked = moves marked }
