-- The ways outward that look-ups have gone, remembered.
use Rattle.std.proofs.Common.{◌≡◌, ◌⊎◌, inl, inr, ℕ, ◌+◌, ◌<◌, ◌≤◌, arith, List, [], ◌∷◌, ◌++◌, length, set, get_or, Some}
use Rattle.std.proofs.Common.{refl, sym, ap, subst, ◌∙◌}
use Rattle.std.specs.Prelude.{slice_get}
use Rattle.std.proofs.lemmas.Bool.{cases_eq, cases_lt}
use Rattle.std.proofs.lemmas.List.{get_or-set_other, get_or-set_same, get_or_append_left, get_or_push, length-append, length-set}
use Rattle.std.proofs.lemmas.Option.{slice_get_within, slice_get_read, get_or_from_slice_get}
use Rattle.fv_parse.specs.Trees.{Parsed}
use Rattle.fv_eval_scopes.specs.declared.value.Scope as code_scope
use Rattle.fv_eval_scopes.specs.declared.slots.Shortcut.{Shortcut}
use Rattle.fv_eval_scopes.specs.Slots.{AreSlots}
use Rattle.fv_eval_scopes.specs.Outward.{SkipsTo}

pub skips_none : (p : Parsed) (scopes : List code_scope.Scope) (name env : ℕ) → SkipsTo p scopes name env env
skips_none p scopes name env = (0, refl)

-- ---- what is remembered

-- one slot anew
pub shortcuts_set : (p : Parsed) (scopes : List code_scope.Scope) (xs : List Shortcut) (i : ℕ) (x : Shortcut) → i < length xs → AreSlots p scopes xs
    → SkipsTo p scopes x.name x.from x.to → AreSlots p scopes (set xs i x)
shortcuts_set p scopes xs i x l h way j y e = go (cases_eq j i)
  where
    within : j < length xs
    within = omega (arith, slice_get_within (set xs i x) j y e, length-set xs i x)

    at : y ≡ get_or (set xs i x) j y
    at = sym (get_or_from_slice_get (set xs i x) j y y e)

    go : (j ≡ i) ⊎ (j ≡ i → ⊥) → SkipsTo p scopes y.name y.from y.to
    go (inl same) =
        let is : y ≡ x = at ∙ ap (λ k. get_or (set xs i x) k y) same ∙ get_or-set_same xs i x y l in
        subst (λ (z : Shortcut). SkipsTo p scopes z.name z.from z.to) (sym is) way
    go (inr apart) =
        h j y (slice_get_read xs (length xs) j y refl within (at ∙ get_or-set_other xs i j x y apart))

-- one slot more
pub shortcuts_push : (p : Parsed) (scopes : List code_scope.Scope) (xs ys : List Shortcut) (x : Shortcut) → ys ≡ xs ++ x ∷ [] → AreSlots p scopes xs
    → SkipsTo p scopes x.name x.from x.to → AreSlots p scopes ys
shortcuts_push p scopes xs ys x pushed h way i y e = go (cases_lt i (length xs))
  where
    got : slice_get (xs ++ x ∷ []) i ≡ Some y
    got = ap (λ zs. slice_get zs i) (sym pushed) ∙ e

    within : i < length xs + 1
    within = omega (arith, slice_get_within (xs ++ x ∷ []) i y got, length-append xs (x ∷ []))

    at : y ≡ get_or (xs ++ x ∷ []) i y
    at = sym (get_or_from_slice_get (xs ++ x ∷ []) i y y got)

    go : (i < length xs) ⊎ (length xs ≤ i) → SkipsTo p scopes y.name y.from y.to
    go (inl l) = h i y (slice_get_read xs (length xs) i y refl l (at ∙ get_or_append_left xs (x ∷ []) y i l))
    go (inr g) =
        let is : y ≡ x = at ∙ get_or_push xs x y i (omega (arith, g, within)) in
        subst (λ (z : Shortcut). SkipsTo p scopes z.name z.from z.to) (sym is) way
