-- Controls that are copied one after another.
use Rattle.std.proofs.Common.{◌≡◌, ℕ, ◌+◌, ◌<◌, List, [], ◌∷◌, ◌++◌, length, take, get_or, sym, ap₂, ◌∙◌}
use Rattle.std.proofs.lemmas.List.{take_more}

-- one item more is there
pub one_more : {A : Type 0} (xs all : List A) (n : ℕ) (item copy : A) → n < length xs → item ≡ get_or xs n item → copy ≡ item → all ≡ take n xs
    → all ++ copy ∷ [] ≡ take (n + 1) xs
one_more {A} xs all n item copy l is same so_far =
    ap₂ (λ (ys : List A) (x : A). ys ++ x ∷ []) so_far (same ∙ is) ∙ sym (take_more xs n item l)
