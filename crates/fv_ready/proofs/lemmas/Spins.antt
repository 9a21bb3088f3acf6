-- Turning brings each slot to the front, and back.
use Rattle.std.proofs.Common.{◌≡◌, ℕ, zero, suc, List, [], ◌∷◌, ◌++◌, length, refl, sym, ap, ◌∙◌, append_assoc, append-nil}
use Rattle.atomic_table.specs.Table.{turned}
use Rattle.fv_ready.specs.inner.Spun.{spun}

module _ {S : Type 0} where
  spun_first : (n : ℕ) (xs : List (ℕ × S)) → spun n (turned xs) ≡ turned (spun n xs)
  spun_first zero xs = refl
  spun_first (suc n) xs = ap turned (spun_first n xs)

  pub spun_split : (xs zs : List (ℕ × S)) → spun (length xs) (xs ++ zs) ≡ zs ++ xs
  spun_split [] zs = sym (append-nil zs)
  spun_split (x ∷ xs) zs = sym (spun_first (length xs) (x ∷ xs ++ zs)) ∙ ap (spun (length xs)) (append_assoc xs zs (x ∷ [])) ∙ spun_split
      xs (zs ++ x ∷ []) ∙ append_assoc zs (x ∷ []) xs

  pub spun_at : (n : ℕ) (xs zs : List (ℕ × S)) → n ≡ length xs → spun n (xs ++ zs) ≡ zs ++ xs
  spun_at n xs zs e = ap (λ k. spun k (xs ++ zs)) e ∙ spun_split xs zs
