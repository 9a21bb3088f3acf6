-- Cells of one item.
use Rattle.std.proofs.Common.{◌≡◌, ℕ, ◌<◌, ℤ, pos, negsuc, [], ◌∷◌, refl, ap, ◌∙◌, subst, arith}
use Rattle.std.specs.Prelude.{slice_set}
use Rattle.fv_signal.specs.Words.{argument}
use Rattle.fv_signal.specs.Tables.{place, read_at, written}
use Rattle.fv_loopcode.specs.headline.State.{list_at}

-- each index means the one place
one_place : (z : ℤ) → place 1 z ≡ 0
one_place (pos i) = omega arith
one_place (negsuc i) = refl

-- the item of the one list of cells
pub item_is : (k : ℕ) (x r : ℤ) → k < 1 → read_at (list_at ((x ∷ []) ∷ []) k) r ≡ x
item_is k x r l =
    let z : 0 ≡ k = omega (arith, l) in
    subst (λ n. read_at (list_at ((x ∷ []) ∷ []) n) r ≡ x) z (ap (argument (x ∷ [])) (one_place r))

-- and that list, where x is written to it
pub list_is : (k : ℕ) (y w x : ℤ) → k < 1 → slice_set ((y ∷ []) ∷ []) k (written (list_at ((y ∷ []) ∷ []) k) w x) ≡ (x ∷ []) ∷ []
list_is k y w x l =
    let z : 0 ≡ k = omega (arith, l) in
    subst (λ n. slice_set ((y ∷ []) ∷ []) n (written (list_at ((y ∷ []) ∷ []) n) w x) ≡ (x ∷ []) ∷ []) z
    (ap (λ i. slice_set (y ∷ []) i x ∷ []) (one_place w))
