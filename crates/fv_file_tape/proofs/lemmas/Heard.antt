-- Samples that were heard, and more after them.
use Rattle.std.proofs.Common.{◌≡◌, ℕ, zero, suc, ◌+◌, ◌-◌, ◌*◌, ◌/◌, ◌≤◌, List, [], ◌∷◌, ◌++◌, length, take, drop, refl, sym, ap, ap₂, subst, ◌∙◌, arith}
use Rattle.std.proofs.Common.{◌<◌, ◌^◌, append_assoc, length-append, length-drop, ℤ}
use Rattle.std.proofs.Math.Nat.{add-mul}
use Rattle.std.proofs.lemmas.List.{append-nil, drop-drop, drop_at, length-take-le, take-append-drop}
use Rattle.fv_base.proofs.lemmas.Lists.{table_same}
use Rattle.fv_pcm.specs.Frames.{table}
use Rattle.fv_pcm.specs.declared.coding.Coding.{Coding}
use Rattle.fv_pcm.specs.headline.Coded.{sample_of, sample_at}
use Rattle.fv_pcm.specs.Coded.{samples_in}
use Rattle.fv_file_tape.specs.Tapes.{AreTaken}

pub table_add : {A : Type 0} (n m : ℕ) (g : ℕ → A) → table (n + m) g ≡ table n g ++ table m (λ u. g (n + u))
table_add n zero g = let e : n + 0 ≡ n = omega arith in ap (λ k. table k g) e ∙ sym (append-nil (table n g))
table_add n (suc m) g =
    let e : n + suc m ≡ suc (n + m) = omega arith in
    ap (λ k. table k g) e ∙ ap (λ xs. xs ++ g (n + m) ∷ []) (table_add n m g) ∙ append_assoc (table n g) (table m (λ u. g (n + u))) (g (n + m) ∷ [])

-- a sample after others
sample_behind : (c : Coding) (bits a u : ℕ) (bytes : List ℕ) → sample_at c bits (drop (a * (bits / 8)) bytes) u ≡ sample_at c bits bytes (a + u)
unfolding sample_at
sample_behind c bits a u bytes =
    let at : a * (bits / 8) + u * (bits / 8) ≡ (a + u) * (bits / 8) = sym (add-mul a u (bits / 8)) in
    ap (sample_of c bits) (drop-drop (u * (bits / 8)) (a * (bits / 8)) bytes ∙ ap (λ (n : ℕ). drop n bytes) at)

-- the samples that were heard, and more after them
samples_more : (c : Coding) (bits n m : ℕ) (bytes : List ℕ)
    → samples_in c bits n bytes ++ samples_in c bits m (drop (n * (bits / 8)) bytes) ≡ samples_in c bits (n + m) bytes
samples_more c bits n m bytes =
    ap (λ xs. samples_in c bits n bytes ++ xs) (table_same m _ _ (λ u l. sample_behind c bits n u bytes))
    ∙ sym (table_add n m (sample_at c bits bytes))

-- more was heard
pub taken_more : {c : Coding} {bits : ℕ} {h piece : List ℤ} {before mid after : List ℕ} (taken : List ℕ) → AreTaken c bits h before mid
    → mid ≡ taken ++ after → length taken ≡ length piece * (bits / 8) → piece ≡ samples_in c bits (length piece) mid
    → AreTaken c bits (h ++ piece) before after
taken_more {c} {bits} {h} {piece} {before} {mid} {after} taken i split long are =
    let n = length h in let m = length piece in let s = bits / 8 in
    let all : length (h ++ piece) ≡ n + m = length-append h piece in
    let sum : (n + m) * s ≡ n * s + m * s = add-mul n m s in
    let rest = i.rest in
    let there = i.there in
    let left : length mid ≡ length before - n * s = ap length rest ∙ length-drop (n * s) before in
    let cut : length mid ≡ length taken + length after = ap length split ∙ length-append taken after in
    let tail : drop (m * s) mid ≡ after = ap (drop (m * s)) split ∙ drop_at taken after (m * s) long in
    record {
      are = ap₂ (λ (a b : List ℤ). a ++ b) i.are (are ∙ ap (samples_in c bits m) rest) ∙ samples_more c bits n m before
          ∙ ap (λ k. samples_in c bits k before) (sym all);
      there = subst (λ k. k * s ≤ length before) (sym all) (omega (arith, sum, left, cut, long, there));
      rest = sym tail ∙ ap (drop (m * s)) rest ∙ drop-drop (m * s) (n * s) before ∙ ap (λ k. drop k before) (sym sum)
          ∙ ap (λ k. drop (k * s) before) (sym all);
    }

-- the same from bytes that are at hand
pub taken_next : {c : Coding} {bits : ℕ} {h piece : List ℤ} {bytes : List ℕ} → AreTaken c bits h bytes (drop (length h * (bits / 8)) bytes)
    → length h * (bits / 8) + length piece * (bits / 8) ≤ length bytes → piece ≡ samples_in c bits (length piece) (drop (length h * (bits / 8)) bytes)
    → AreTaken c bits (h ++ piece) bytes (drop (length (h ++ piece) * (bits / 8)) bytes)
taken_next {c} {bits} {h} {piece} {bytes} i there are =
    let n = length h in let m = length piece in let s = bits / 8 in
    let mid = drop (n * s) bytes in
    let left : length mid ≡ length bytes - n * s = length-drop (n * s) bytes in
    let long : length (take (m * s) mid) ≡ m * s = length-take-le (m * s) mid (omega (arith, left, there)) in
    let more = taken_more (take (m * s) mid) i (sym (take-append-drop (m * s) mid)) long are in
    record { are = more.are; there = more.there; rest = refl }

-- nothing was
pub taken_nothing : (c : Coding) (bits : ℕ) (bytes after : List ℕ) → after ≡ bytes → AreTaken c bits [] bytes after
taken_nothing c bits bytes after same =
    let z : 0 * (bits / 8) ≡ 0 = omega arith in
    record { are = refl; there = omega (arith, z); rest = same ∙ ap (λ k. drop k bytes) (sym z) }

-- ---- numbers

pub rows_fit : (n m w : ℕ) → n ≤ m → n * w ≤ m * w
rows_fit n m w h = let e : n + (m - n) ≡ m = omega (arith, h) in subst (λ (x : ℕ). n * w ≤ x * w) e (omega arith)

-- The bytes of n frames fit into those of the most frames.
pub room_is : (n most w size long all : ℕ) → n ≤ most → long ≡ n * w → most * w * size ≤ all → long * size ≤ all
room_is n most w size long all few is room =
    let fit = rows_fit n most w few in
    let more = rows_fit long (most * w) size (omega (arith, is, fit)) in
    omega (arith, more, room)

pub no_samples : (xs : List ℤ) → length xs ≡ 0 → xs ≡ []
no_samples [] h = refl
no_samples (x ∷ xs) h = absurd (omega arith)
