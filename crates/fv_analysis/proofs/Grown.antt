-- A list that is made item by item, one item more.
use Rattle.std.proofs.Common.{◌≡◌, ℕ, ◌+◌, ◌<◌, List, [], ◌∷◌, ◌++◌, length, take, get_or, refl, ap, ◌∙◌}
use Rattle.std.proofs.lemmas.List.{take_more}
use Rattle.fv_signal.specs.headline.Grown.{grown}

module _ {A S : Type 0} (f : List A → S → A) where
  grown_push : (now : List A) (ss : List S) (s : S) → grown f now (ss ++ s ∷ []) ≡ grown f now ss ++ f (grown f now ss) s ∷ []
  grown_push now [] s = refl
  grown_push now (x ∷ ss) s = grown_push (now ++ f now x ∷ []) ss s

  pub grown_more : (ss : List S) (i : ℕ) (d : S) → i < length ss →
      grown f [] (take (i + 1) ss) ≡ grown f [] (take i ss) ++ f (grown f [] (take i ss)) (get_or ss i d) ∷ []
  grown_more ss i d l = ap (grown f []) (take_more ss i d l) ∙ grown_push [] (take i ss) (get_or ss i d)
