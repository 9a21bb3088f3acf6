-- The four widths of samples.
use Rattle.std.proofs.Common.{◌≡◌, ℕ, ◌<◌, ◌≤◌, true, sym, arith, subst, ⊎_elim, ◌⊎◌, inl, inr}
use Rattle.std.proofs.lemmas.Bool.{cases_eq, ne_eqb}
use Rattle.fv_num.specs.headline.Words.{is_sample_width}
use Rattle.fv_pcm.specs.headline.Sizes.{frame_size}

pub widths : (bits : ℕ) → is_sample_width bits ≡ true → (bits ≡ 8) ⊎ ((bits ≡ 16) ⊎ ((bits ≡ 24) ⊎ (bits ≡ 32)))
widths bits h =
    ⊎_elim (λ (e : bits ≡ 8). inl e) (λ a. ⊎_elim (λ (e : bits ≡ 16). inr (inl e)) (λ b. ⊎_elim (λ (e : bits ≡ 24). inr (inr (inl e)))
    (λ d. ⊎_elim (λ (e : bits ≡ 32). inr (inr (inr e)))
    (λ f. let w = ne_eqb bits 8 a in let x = ne_eqb bits 16 b in let y = ne_eqb bits 24 d in let z = ne_eqb bits 32 f in
    let k = rw (w, x, y, z) at h in absurd (cc))
    (cases_eq bits 32)) (cases_eq bits 24)) (cases_eq bits 16)) (cases_eq bits 8)

-- what holds at each width
pub at_width : (P : ℕ → Type 0) (bits : ℕ) → is_sample_width bits ≡ true → P 8 → P 16 → P 24 → P 32 → P bits
at_width P bits h a b c d =
    ⊎_elim (λ (e : bits ≡ 8). subst P (sym e) a) (λ w. ⊎_elim (λ (e : bits ≡ 16). subst P (sym e) b) (λ x. ⊎_elim (λ (e : bits ≡ 24). subst P (sym e) c)
    (λ (e : bits ≡ 32). subst P (sym e) d) x) w) (widths bits h)

-- a frame has a byte
pub some_frame : (channels bits : ℕ) → 1 ≤ channels → is_sample_width bits ≡ true → 0 < frame_size channels bits
some_frame channels bits l h = at_width (λ b. 0 < frame_size channels b) bits h (omega arith) (omega arith) (omega arith) (omega arith)
