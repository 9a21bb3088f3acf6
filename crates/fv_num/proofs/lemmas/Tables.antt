-- What was written last.
use Rattle.std.proofs.Common.{◌≡◌, ◌≢◌, ◌⊎◌, inl, inr, ℕ, zero, suc, ◌-◌, ◌<◌, ◌≤◌, List, length, refl, sym, ap, ◌∙◌, arith, ℤ, pos}
use Rattle.std.proofs.Common.{true, false, if◌then◌else◌, nat_eq, slice_set}
use Rattle.std.proofs.lemmas.Bool.{eq-eqb, ne_eqb}
use Rattle.std.proofs.lemmas.Bool.Decides.{eqb_tells}
use Rattle.std.proofs.Math.Dec.{eqb}
use Rattle.std.proofs.lemmas.List.{get_or-set_same, get_or-set_other, length-set}
use Rattle.fv_num.specs.headline.Words.{argument}
use Rattle.fv_num.specs.headline.Frames.{Stream}
use Rattle.fv_num.specs.headline.Tables.{place, last_written, after}
use Rattle.fv_num.specs.Tables.{IsLastWrite, GivesTheLast, KeepsTheRest, ListsTheLast}

-- only the times up to t count
pub last_written_same : (T : List ℤ) (w w' x x' : Stream) (i t : ℕ) → ((u : ℕ) → u ≤ t → w u ≡ w' u) → ((u : ℕ) → u ≤ t → x u ≡ x' u)
    → last_written T w x i t ≡ last_written T w' x' i t
last_written_same T w w' x x' i zero h g =
    ap (λ z. if nat_eq (place (length T) z) i then x 0 else argument T i) (h 0 (omega arith))
    ∙ ap (λ z. if nat_eq (place (length T) (w' 0)) i then z else argument T i) (g 0 (omega arith))
last_written_same T w w' x x' i (suc t) h g =
    ap (λ z. if nat_eq (place (length T) z) i then x (suc t) else last_written T w x i t) (h (suc t) (omega arith))
    ∙ ap (λ z. if nat_eq (place (length T) (w' (suc t))) i then z else last_written T w x i t) (g (suc t) (omega arith))
    ∙ ap (λ z. if nat_eq (place (length T) (w' (suc t))) i then x' (suc t) else z)
    (last_written_same T w w' x x' i t (λ u m. h u (omega arith)) (λ u m. g u (omega arith)))

-- what a test picks
picked : (n i : ℕ) (a b : ℤ) → n ≡ i → (if nat_eq n i then a else b) ≡ a
picked n i a b e = ap (λ t. if t then a else b) (eq-eqb n i e)

passed : (n i : ℕ) (a b : ℤ) → n ≢ i → (if nat_eq n i then a else b) ≡ b
passed n i a b e = ap (λ t. if t then a else b) (ne_eqb n i e)

-- two numbers are equal, or not
abbrev Decided : ℕ → ℕ → Type 0
Decided a b = ((eqb a b ≡ true) × (a ≡ b)) ⊎ ((eqb a b ≡ false) × (a ≢ b))

last_at : (T : List ℤ) (w x : Stream) (i t u : ℕ) → IsLastWrite w (length T) i (suc t) u
    → (IsLastWrite w (length T) i t u → last_written T w x i t ≡ x u) → Decided u (suc t) → last_written T w x i (suc t) ≡ x u
last_at T w x i t u h before (inl e) =
    picked (place (length T) (w (suc t))) i (x (suc t)) (last_written T w x i t) (ap (λ v. place (length T) (w v)) (sym e.1) ∙ h.there) ∙ ap x (sym e.1)
last_at T w x i t u h before (inr e) =
    let l : u < suc t = omega (arith, h.within, e.1) in
    passed (place (length T) (w (suc t))) i (x (suc t)) (last_written T w x i t) (h.none_after (suc t) l (omega arith))
    ∙ before (record { within = omega (arith, l); there = h.there; none_after = λ v a b. h.none_after v a (omega arith) })

pub gives_the_last : GivesTheLast
gives_the_last T w x i zero u h =
    let e : u ≡ 0 = omega (arith, h.within) in
    picked (place (length T) (w 0)) i (x 0) (argument T i) (ap (λ v. place (length T) (w v)) (sym e) ∙ h.there) ∙ ap x (sym e)
gives_the_last T w x i (suc t) u h = last_at T w x i t u h (gives_the_last T w x i t u) (eqb_tells u (suc t))

pub keeps_the_rest : KeepsTheRest
keeps_the_rest T w x i zero h = passed (place (length T) (w 0)) i (x 0) (argument T i) (h 0 (omega arith))
keeps_the_rest T w x i (suc t) h =
    passed (place (length T) (w (suc t))) i (x (suc t)) (last_written T w x i t) (h (suc t) (omega arith))
    ∙ keeps_the_rest T w x i t (λ u l. h u (omega arith))

length_after : (T : List ℤ) (w x : Stream) (t : ℕ) → length (after T w x t) ≡ length T
length_after T w x zero = refl
length_after T w x (suc t) = length-set (after T w x t) (place (length (after T w x t)) (w t)) (x t) ∙ length_after T w x t

-- the number at a place, in a list in which one number was set
set_there : (S : List ℤ) (k i : ℕ) (z : ℤ) → i < length S → k ≡ i → argument (slice_set S k z) i ≡ z
set_there S k i z l e = ap (λ j. argument (slice_set S j z) i) e ∙ get_or-set_same S i z (pos 0) l

set_elsewhere : (S : List ℤ) (k i : ℕ) (z : ℤ) → k ≢ i → argument (slice_set S k z) i ≡ argument S i
set_elsewhere S k i z n = get_or-set_other S k i z (pos 0) (λ e. n (sym e))

-- a list that was written once more
written_there : (T : List ℤ) (w x : Stream) (i t : ℕ) → i < length T → place (length T) (w t) ≡ i → argument (after T w x (suc t)) i ≡ x t
written_there T w x i t l e =
    set_there (after T w x t) (place (length (after T w x t)) (w t)) i (x t) (omega (arith, l, length_after T w x t))
    (ap (λ n. place n (w t)) (length_after T w x t) ∙ e)

written_elsewhere : (T : List ℤ) (w x : Stream) (i t : ℕ) → place (length T) (w t) ≢ i → argument (after T w x (suc t)) i ≡ argument (after T w x t) i
written_elsewhere T w x i t n =
    set_elsewhere (after T w x t) (place (length (after T w x t)) (w t)) i (x t) (λ f. n (sym (ap (λ n. place n (w t)) (length_after T w x t)) ∙ f))

first_listed : (T : List ℤ) (w x : Stream) (i : ℕ) → i < length T → Decided (place (length T) (w 0)) i
    → argument (after T w x 1) i ≡ last_written T w x i 0
first_listed T w x i l (inl e) = written_there T w x i 0 l e.1 ∙ sym (picked (place (length T) (w 0)) i (x 0) (argument T i) e.1)
first_listed T w x i l (inr e) = written_elsewhere T w x i 0 e.1 ∙ sym (passed (place (length T) (w 0)) i (x 0) (argument T i) e.1)

next_listed : (T : List ℤ) (w x : Stream) (i t : ℕ) → i < length T → argument (after T w x (suc t)) i ≡ last_written T w x i t
    → Decided (place (length T) (w (suc t))) i → argument (after T w x (suc (suc t))) i ≡ last_written T w x i (suc t)
next_listed T w x i t l before (inl e) =
    written_there T w x i (suc t) l e.1 ∙ sym (picked (place (length T) (w (suc t))) i (x (suc t)) (last_written T w x i t) e.1)
next_listed T w x i t l before (inr e) =
    written_elsewhere T w x i (suc t) e.1 ∙ before ∙ sym (passed (place (length T) (w (suc t))) i (x (suc t)) (last_written T w x i t) e.1)

pub lists_the_last : ListsTheLast
lists_the_last T w x i zero l = first_listed T w x i l (eqb_tells (place (length T) (w 0)) i)
lists_the_last T w x i (suc t) l = next_listed T w x i t l (lists_the_last T w x i t l) (eqb_tells (place (length T) (w (suc t))) i)
