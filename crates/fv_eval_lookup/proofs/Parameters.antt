-- Ways outward over parameters that have another name.
use Rattle.std.proofs.Common.{◌≡◌, inl, inr, ℕ, zero, suc, ◌+◌, ◌-◌, ◌*◌, ◌/◌, ◌%◌, ◌<◌, ◌≤◌, arith, List, Some, false, refl, sym, subst}
use Rattle.std.specs.Prelude.{slice_get}
use Rattle.std.proofs.Math.Nat.{div-add-mod, mod-lt}
use Rattle.fv_parse.specs.Trees.{Parsed}
use Rattle.fv_rules.specs.headline.Values.{lookup}
use Rattle.fv_eval_scopes.specs.declared.scopes.TheConstants.{STRIDE}
use Rattle.fv_eval_scopes.specs.declared.value.Scope as code_scope
use Rattle.fv_eval_scopes.specs.declared.value.Scope.TheVariants as scope
use Rattle.fv_eval_scopes.specs.Environments.{first_number, outer_number, scope_in}
use Rattle.fv_eval_scopes.specs.Outward.{HasNothing, SkipsBy, SkipsTo, outer}
use Rattle.fv_eval_scopes.specs.ParameterTries.{IsEnd, IsPast, Passes}
use Rattle.fv_eval_scopes.proofs.lemmas.Numbered.{scope_behind}
use Rattle.fv_eval_scopes.proofs.lemmas.Skips.{skips_none}
use Rattle.fv_eval_lookup.specs.inner.Lookup.{TellsParameter}
use Rattle.fv_eval_lookup.proofs.Lookups.{slot_passes}
use Rattle.fv_eval_lookup.proofs.lemmas.Skipped.{skips_on}

-- a parameter that does not stand before the end has another name
other_parameter : (p : Parsed) (node i name end : ℕ) → IsEnd p node name end → end ≤ i → TellsParameter p node i name false
other_parameter p node i name end is far x l at first = λ text. let m = is i (x, at, first, text) in absurd (omega (arith, m, far))

-- its scope has nothing of the name
nothing_there_of : (p : Parsed) (node i slot o name end env : ℕ) → IsEnd p node name end → end ≤ i → HasNothing p name env (scope.Slots node i slot o)
nothing_there_of p node i slot o name end env is far w x E same at named shown =
    let tells = subst (λ (q : Parsed). TellsParameter q node i name false) (sym same) (other_parameter p node i name end is far) in
    subst (λ (q : Parsed). lookup q.tokens E x ≡ lookup q.tokens (outer E) x) same (slot_passes w node i slot o env name x E at tells named shown)

-- a kept scope of slots, and a place after each of its node's parameters that has a name
pub record IsRow (p : Parsed) (scopes : List code_scope.Scope) (place node i slot around name end : ℕ) : Type 0 where
  pub kept : slice_get scopes place ≡ Some (scope.Slots node i slot around)
  pub after : IsEnd p node name end

module _ (p : Parsed) (scopes : List code_scope.Scope) (place node i slot around name end : ℕ) (row : IsRow p scopes place node i slot around name end) where
  -- over parameters that do not stand before the end
  down : (d n m : ℕ) → n ≡ m + d → n < STRIDE → (m < n → end ≤ i + m + 1) → SkipsBy p scopes name d (first_number place + n) (first_number place + m)
  down zero n m e l far = omega (arith, e)
  down (suc d) zero m e l far = absurd (omega (arith, e))
  down (suc d) (suc n) m e l far =
      let before = place * STRIDE + suc n in
      let most : end ≤ i + m + 1 = far (omega (arith, e)) in
      let rest : SkipsBy p scopes name d (first_number place + n) (first_number place + m) =
      down d n m (omega (arith, e)) (omega (arith, l)) (λ _. most) in
      let here : first_number place + n ≡ before = omega arith in (
        scope.Slots node (i + suc n) (slot + suc n) before,
        scope_behind scopes place (suc n) (scope.Slots node i slot around) l row.kept,
        omega arith,
        nothing_there_of p node (i + suc n) (slot + suc n) before name end (first_number place + suc n) row.after (omega (arith, e, most)),
        subst (λ k. SkipsBy p scopes name d k (first_number place + m)) here rest,
      )

  -- from the first one to the environment around it
  out : around < first_number place + 0 → end ≤ i → SkipsTo p scopes name (first_number place + 0) around
  out l far = (
    1,
    (
      scope.Slots node i slot around,
      scope_behind scopes place 0 (scope.Slots node i slot around) (omega arith) row.kept,
      l,
      nothing_there_of p node i slot around name end (first_number place + 0) row.after far,
      refl,
    ),
  )

  -- from one of its environments to where the code goes
  past : (k env at : ℕ) → env ≡ first_number place + k → k < STRIDE → IsPast k i end around env at → SkipsTo p scopes name env at
  past k env at e l (inl h) =
      let near : SkipsTo p scopes name (first_number place + k) (first_number place + 0) = (k, down k k 0 (omega arith) l (λ _. omega (arith, h.2))) in
      let far = out (omega (arith, h.1, e)) h.2 in
      subst (λ z. SkipsTo p scopes name env z) (sym h.0)
      (subst (λ z. SkipsTo p scopes name z around) (sym e)
      (skips_on p scopes name (first_number place + k) (first_number place + 0) around near far))
  past k env at e l (inr h) =
      let m = h.0 in
      let d = k - m in
      let near : SkipsTo p scopes name (first_number place + k) (first_number place + m) = (d, down d k m (omega (arith, h.1)) l h.3) in
      let there : first_number place + m ≡ at = omega (arith, h.2, e) in
      subst (λ z. SkipsTo p scopes name env z) there (subst (λ z. SkipsTo p scopes name z (first_number place + m)) (sym e) near)

-- from an environment of a kept scope to where the code goes
pub past_kept : (p : Parsed) (scopes : List code_scope.Scope) (place name k env at : ℕ) (s : code_scope.Scope) → slice_get scopes place ≡ Some s
    → env ≡ first_number place + k → k < STRIDE → Passes p s name k env at → SkipsTo p scopes name env at
past_kept p scopes place name k env at (scope.Bound n u o) kept e l same = subst (SkipsTo p scopes name env) same (skips_none p scopes name env)
past_kept p scopes place name k env at (scope.Definitions id o) kept e l same = subst (SkipsTo p scopes name env) same (skips_none p scopes name env)
past_kept p scopes place name k env at (scope.Slots node i slot around) kept e l (inl same) =
    subst (SkipsTo p scopes name env) same (skips_none p scopes name env)
past_kept p scopes place name k env at (scope.Slots node i slot around) kept e l (inr h) =
    past p scopes place node i slot around name h.0 (record { kept = kept; after = h.1 }) k env at e l h.2

-- an environment by the place of its kept scope, and its own place there
pub environment_at : (env : ℕ) → (env ≡ 0 → ⊥) → (env ≡ first_number ((env - 1) / STRIDE) + (env - 1) % STRIDE) × ((env - 1) % STRIDE < STRIDE)
environment_at env some =
    let n = env - 1 in
    let whole : STRIDE * (n / STRIDE) + n % STRIDE ≡ n = div-add-mod n STRIDE in
    (omega (arith, some, whole), mod-lt n (omega arith))
