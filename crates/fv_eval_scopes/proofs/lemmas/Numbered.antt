-- Scopes by the numbers of their environments.
use Rattle.std.proofs.Common.{◌≡◌, ℕ, zero, suc, ◌+◌, ◌*◌, ◌/◌, ◌%◌, ◌<◌, ◌≤◌, arith, List, length, Option, Some, None, refl, ap, subst, ◌∙◌}
use Rattle.std.proofs.Common.{mul-le-mul_right}
use Rattle.std.specs.Prelude.{slice_get}
use Rattle.std.proofs.Math.Nat.{lt-div-mul-add}
use Rattle.std.proofs.lemmas.Nat.{div-mul-add, mod-mul-add}
use Rattle.std.proofs.lemmas.Option.{none-some, slice_get_within}
use Rattle.fv_eval_scopes.specs.declared.value.Scope as code_scope
use Rattle.fv_eval_scopes.specs.declared.scopes.TheConstants.{STRIDE}
use Rattle.fv_eval_scopes.specs.Environments.{first_number, next_number, nth_of, nth_scope, scope_in}

-- the scope that is k environments after the first one of a kept scope
pub scope_behind : (scopes : List code_scope.Scope) (n k : ℕ) (s : code_scope.Scope) → k < STRIDE → slice_get scopes n ≡ Some s
    → scope_in scopes (first_number n + k) ≡ Some (nth_scope k (n * STRIDE + k) s)
scope_behind scopes n k s l e =
    let number : suc (n * STRIDE + k) ≡ first_number n + k = omega arith in
    subst (λ i. scope_in scopes i ≡ Some (nth_scope k (n * STRIDE + k) s)) number
    (ap (λ j. nth_of j (n * STRIDE + k) (slice_get scopes ((n * STRIDE + k) / STRIDE))) (mod-mul-add n STRIDE k l)
    ∙ ap (λ j. nth_of k (n * STRIDE + k) (slice_get scopes j)) (div-mul-add n STRIDE k l) ∙ ap (nth_of k (n * STRIDE + k)) e)

-- the scope that is kept
pub scope_first : (scopes : List code_scope.Scope) (n : ℕ) (s : code_scope.Scope) → slice_get scopes n ≡ Some s → scope_in scopes (first_number n) ≡ Some s
scope_first scopes n s e =
    let number : first_number n + 0 ≡ first_number n = omega arith in
    subst (λ i. scope_in scopes i ≡ Some s) number (scope_behind scopes n 0 s (omega arith) e)

-- what is kept at its place
pub record IsKeptAt (scopes : List code_scope.Scope) (i : ℕ) (s : code_scope.Scope) : Type 0 where
  pub kept : code_scope.Scope
  pub at : slice_get scopes (i / STRIDE) ≡ Some kept
  pub is : nth_scope (i % STRIDE) i kept ≡ s

pub kept_at : (scopes : List code_scope.Scope) (i : ℕ) (s : code_scope.Scope) → scope_in scopes (suc i) ≡ Some s → IsKeptAt scopes i s
kept_at scopes i s e = go (slice_get scopes (i / STRIDE)) refl e
  where
    go : (o : Option code_scope.Scope) → slice_get scopes (i / STRIDE) ≡ o → nth_of (i % STRIDE) i o ≡ Some s → IsKeptAt scopes i s
    go None at is = absurd (none-some s is)
    go (Some t) at is = record { kept = t; at = at; is = let h : nth_scope (i % STRIDE) i t ≡ s = cc in h }

-- lists in which what stands at a place stays there
pub scope_stays : (old new : List code_scope.Scope) → ((i : ℕ) (s : code_scope.Scope) → slice_get old i ≡ Some s → slice_get new i ≡ Some s)
    → (env : ℕ) (s : code_scope.Scope) → scope_in old env ≡ Some s → scope_in new env ≡ Some s
scope_stays old new same zero s e = absurd (none-some s e)
scope_stays old new same (suc i) s e =
    let k = kept_at old i s e in
    ap (nth_of (i % STRIDE) i) (same (i / STRIDE) k.kept k.at) ∙ ap Some k.is

-- a number below the end has its place in the list
pub place_below : (n i : ℕ) → i / STRIDE < n → i < n * STRIDE
place_below n i l =
    let some : zero < STRIDE = omega arith in
    let more : i < i / STRIDE * STRIDE + STRIDE = lt-div-mul-add some in
    let most : (i / STRIDE + 1) * STRIDE ≤ n * STRIDE = mul-le-mul_right STRIDE (omega (arith, l)) in
    let product : (i / STRIDE + 1) * STRIDE ≡ i / STRIDE * STRIDE + STRIDE = omega arith in
    omega (arith, more, most, product)

-- an environment with a scope has its number below the next one
pub scope_below : (scopes : List code_scope.Scope) (env : ℕ) (s : code_scope.Scope) → scope_in scopes env ≡ Some s → env < next_number scopes
scope_below scopes zero s e = absurd (none-some s e)
scope_below scopes (suc i) s e =
    let k = kept_at scopes i s e in
    let l = place_below (length scopes) i (slice_get_within scopes (i / STRIDE) k.kept k.at) in omega (arith, l)
