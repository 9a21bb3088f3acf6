-- Parts of a list, number by number.
use Rattle.std.proofs.Common.{◌≡◌, ℕ, zero, suc, ◌+◌, ◌<◌, ◌≤◌, List, [], ◌∷◌, ◌++◌, length, take, drop, get_or, ℤ, pos}
use Rattle.std.proofs.Common.{sym, ◌∙◌, ap, arith, refl, add-one}
use Rattle.std.proofs.lemmas.List.{take_more, get_or-drop, length-drop}
use Rattle.fv_num.specs.headline.Words.{argument}
use Rattle.fv_num.specs.headline.Frames.{table}

-- a part of a list is its numbers from a place on
pub part_is : (xs : List ℤ) (a n : ℕ) → a + n ≤ length xs → take n (drop a xs) ≡ table n (λ j. argument xs (a + j))
part_is xs a zero h = refl
part_is xs a (suc n) h =
    let within : n < length (drop a xs) = omega (arith, length-drop a xs) in
    ap (λ k. take k (drop a xs)) (sym (add-one n)) ∙ take_more (drop a xs) n (pos 0) within
    ∙ ap (λ w. w ++ get_or (drop a xs) n (pos 0) ∷ []) (part_is xs a n (omega arith))
    ∙ ap (λ x. table n (λ j. argument xs (a + j)) ++ x ∷ []) (get_or-drop a xs n (pos 0))
