-- A wire that counts, modulo a number.
use Rattle.std.proofs.Common.{◌≡◌, ℕ, zero, suc, ◌+◌, ◌%◌, ◌<◌, ◌≤◌, [], ◌∷◌, sym, ap, ◌∙◌, arith, pos, w32, FitsSigned}
use Rattle.std.proofs.lemmas.Int.{int_wrap_fits}
use Rattle.std.proofs.Math.Nat.{mod-lt, mod-add-mod, mod-eq_of_lt}
use Rattle.std.proofs.lemmas.Int.{ints}
use Rattle.std.proofs.lemmas.Bool.{cond-false}
use Rattle.std.specs.Prelude.{int_rem, false}
use Rattle.std.specs.Ordering.{int_eq}
use Rattle.fv_num.specs.declared.op.Op.TheVariants.{Add, Rem}
use Rattle.fv_num.specs.headline.Words.{apply_of, remainder, wrap}
use Rattle.fv_num.specs.headline.Frames.{Stream}
use Rattle.fv_num.specs.headline.Tables.{place}

-- an index within a list is its place
pub place_inside : (n i : ℕ) → i < n → place n (pos i) ≡ i
place_inside n i l = omega arith

-- the remainder of natural numbers
remainder_of : (a n : ℕ) → 1 ≤ n → remainder (pos a) (pos n) ≡ wrap (pos (a % n))
remainder_of a n some =
    let not_zero : int_eq (pos n) (pos 0) ≡ false = grind (arith, ints) in
    cond-false (int_eq (pos n) (pos 0)) (pos 0) (wrap (int_rem (pos a) (pos n))) not_zero

-- one more, modulo n
one_more : (n m : ℕ) → 1 ≤ n → FitsSigned w32 (pos n) → m < n → apply_of Rem (apply_of Add (pos m ∷ pos 1 ∷ []) ∷ pos n ∷ []) ≡ pos ((m + 1) % n)
one_more zero m some f l = absurd (omega arith)
one_more (suc k) m some f l =
    let n = suc k in
    let fits : FitsSigned w32 (pos (m + 1)) = record { sfits = omega (arith, f.sfits, l) } in
    let below : (m + 1) % n < n = mod-lt (m + 1) some in
    let given : FitsSigned w32 (pos ((m + 1) % n)) = record { sfits = omega (arith, f.sfits, below) } in
    ap (λ y. apply_of Rem (y ∷ pos n ∷ [])) (int_wrap_fits w32 (pos (m + 1)) fits) ∙ remainder_of (m + 1) n some
    ∙ int_wrap_fits w32 (pos ((m + 1) % n)) given

pub counts_on : (n : ℕ) (x : Stream) → 1 ≤ n → FitsSigned w32 (pos n) → x 0 ≡ pos 0
    → ((t : ℕ) → x (suc t) ≡ apply_of Rem (apply_of Add (x t ∷ pos 1 ∷ []) ∷ pos n ∷ [])) → (t : ℕ) → x t ≡ pos (t % n)
counts_on n x some f z s zero = let below : 0 < n = some in z ∙ ap pos (sym (mod-eq_of_lt below))
counts_on n x some f z s (suc t) =
    let below : t % n < n = mod-lt t some in
    let more : t + 1 ≡ suc t = omega arith in
    s t ∙ ap (λ y. apply_of Rem (apply_of Add (y ∷ pos 1 ∷ []) ∷ pos n ∷ [])) (counts_on n x some f z s t) ∙ one_more n (t % n) some f below
    ∙ ap pos (mod-add-mod t n 1) ∙ ap (λ k. pos (k % n)) more
