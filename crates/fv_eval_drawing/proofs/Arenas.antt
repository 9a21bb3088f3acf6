-- Diagrams that are added.
use Rattle.std.proofs.Common.{◌≡◌, ℕ, ◌<◌, List, [], ◌∷◌, refl, ap, ◌∙◌, arith}
use Rattle.std.proofs.lemmas.List.Elements.{All-head, All-tail, All-cons, All-nil}
use Rattle.fv_diagram.specs.Arena.{count_of, tree_of}
use Rattle.fv_eval_drawing.specs.Makes.{AreThere, Canvas, Extends, trees_of}

pub extends_on : (a b c : Canvas) → Extends a b → Extends b c → Extends a c
extends_on a b c g h = record {
  longer = omega (arith, g.longer, h.longer);
  trees = λ i l. h.trees i (omega (arith, l, g.longer)) ∙ g.trees i l;
}

pub extends_itself : (a : Canvas) → Extends a a
extends_itself a = record { longer = omega arith; trees = λ i l. refl }

-- diagrams that are there stay there
pub there_stays : (a b : Canvas) → Extends a b → (ids : List ℕ) → AreThere a.diagrams ids → AreThere b.diagrams ids
there_stays a b g [] h = All-nil (λ i. i < count_of b.diagrams)
there_stays a b g (i ∷ ids) h =
    let l = All-head (λ k. k < count_of a.diagrams) i ids h in
    All-cons (λ k. k < count_of b.diagrams) i ids (omega (arith, l, g.longer))
    (there_stays a b g ids (All-tail (λ k. k < count_of a.diagrams) i ids h))

pub trees_stay : (a b : Canvas) → Extends a b → (ids : List ℕ) → AreThere a.diagrams ids → trees_of b.diagrams ids ≡ trees_of a.diagrams ids
trees_stay a b g [] h = refl
trees_stay a b g (i ∷ ids) h =
    ap (λ d. d ∷ trees_of b.diagrams ids) (g.trees i (All-head (λ k. k < count_of a.diagrams) i ids h))
    ∙ ap (λ ds. tree_of a.diagrams i ∷ ds) (trees_stay a b g ids (All-tail (λ k. k < count_of a.diagrams) i ids h))
