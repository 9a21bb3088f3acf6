-- A file of which the first bytes were taken before.
use Rattle.std.proofs.Common.{◌≡◌, ℕ, ◌+◌, ◌-◌, ◌≤◌, ◌<◌, List, ◌++◌, length, take, drop, sym, ap, ◌∙◌, arith, refl, ⊎_elim, Ok, Err}
use Rattle.std.proofs.Common.{length-append, length-drop, zero-add}
use Rattle.std.specs.Prelude.{Result}
use Rattle.std.proofs.Math.Seq.{take-add}
use Rattle.std.proofs.lemmas.Bool.{cases_lt, le-leb, lt-leb}
use Rattle.std.proofs.lemmas.List.{drop_all, drop_at, take_at, drop-drop, append-nil}
use borrow.Rule.Slice.PartMut.{put_mid}
use Rattle.fv_wav.specs.headline.Reading.{Rest, rest_of, past, next}
use Rattle.fv_wav.specs.declared.refusal.WaveRefusal.{WaveRefusal}
use Rattle.fv_wav.specs.declared.refusal.WaveRefusal.TheVariants.{WaveTruncated}

-- when the next bytes are not there
next_err : (n : ℕ) (r : Rest) (e : WaveRefusal) → next n r ≡ Err e → (length r.bytes < n) × (e ≡ WaveTruncated (r.place + length r.bytes))
unfolding next past
next_err n r e h =
    ⊎_elim (λ (w : length r.bytes < n). let t = lt-leb n (length r.bytes) w in let k = rw t at h in (w, cc))
    (λ (w : n ≤ length r.bytes). let t = le-leb n (length r.bytes) w in let k = rw t at h in absurd (cc)) (cases_lt (length r.bytes) n)

-- the last part of a buffer was written
pub last_part : (n k : ℕ) (xs ys : List ℕ) → n ≤ length xs → k ≡ length xs - n → put_mid n k xs ys ≡ take n xs ++ ys
last_part n k xs ys h e =
    ap (λ (zs : List ℕ). take n xs ++ (ys ++ zs)) (drop_all k (drop n xs) (omega (arith, length-drop n xs)))
    ∙ ap (λ (zs : List ℕ). take n xs ++ zs) (append-nil ys)

-- those in front, and the first m after them
pub front_then : (xs ys : List ℕ) (n m : ℕ) → n ≡ length xs → take (n + m) (xs ++ ys) ≡ xs ++ take m ys
front_then xs ys n m e =
    take-add n m (xs ++ ys) ∙ ap (λ (zs : List ℕ). zs ++ take m (drop n (xs ++ ys))) (take_at xs ys n (sym e))
    ∙ ap (λ (zs : List ℕ). xs ++ take m zs) (drop_at xs ys n (sym e))

behind_front : (xs ys : List ℕ) (n m : ℕ) → n ≡ length xs → drop (n + m) (xs ++ ys) ≡ drop m ys
behind_front xs ys n m e = sym (drop-drop m n (xs ++ ys)) ∙ ap (drop m) (drop_at xs ys n (sym e))

-- with those in front
in_front : List ℕ → Result (List ℕ × Rest) WaveRefusal → Result (List ℕ × Rest) WaveRefusal
in_front xs (Ok x) = Ok (xs ++ x.0, x.1)
in_front xs (Err e) = Err e

-- the next bytes are those after them
pub next_behind : (begun left to left1 : List ℕ) (m p : ℕ) → next m (rest_of (length begun) left) ≡ Ok (to, rest_of p left1)
    → next (length begun + m) (rest_of 0 (begun ++ left)) ≡ Ok (begun ++ to, rest_of p left1)
unfolding next past in_front
next_behind begun left to left1 m p h =
    ⊎_elim (λ (w : length left < m). let t = lt-leb m (length left) w in let k = rw t at h in absurd (cc))
    (λ (w : m ≤ length left).
    let t = le-leb m (length left) w in
    let k = rw t at h in
    rw (
      le-leb (length begun + m) (length (begun ++ left)) (omega (arith, length-append begun left, w)),
      front_then begun left (length begun) m refl,
      behind_front begun left (length begun) m refl,
    ) (ap (λ (q : ℕ). Ok (begun ++ take m left, rest_of q (drop m left))) (zero-add (length begun + m)) ∙ ap (in_front begun) k))
    (cases_lt (length left) m)

-- or they are not there
pub none_behind : (begun left : List ℕ) (m : ℕ) (e : WaveRefusal) → next m (rest_of (length begun) left) ≡ Err e
    → next (length begun + m) (rest_of 0 (begun ++ left)) ≡ Err e
unfolding next past
none_behind begun left m e h =
    let n = next_err m (rest_of (length begun) left) e h in
    rw (lt-leb (length begun + m) (length (begun ++ left)) (omega (arith, length-append begun left, n.0)))
    (ap (λ (k : ℕ). Err (WaveTruncated k)) (zero-add (length (begun ++ left)) ∙ length-append begun left) ∙ ap (λ (x : WaveRefusal). Err x) (sym n.1))

-- A buffer of this size that begins with these bytes, and is filled up after them, holds both lists.
pub filled_behind : (size : ℕ) (begun front zeros to : List ℕ) → length begun ≤ size → front ≡ begun → length zeros ≡ size
    → put_mid (length begun) (size - length begun) (front ++ drop (length begun) zeros) to ≡ begun ++ to
filled_behind size begun front zeros to few is long =
    let same : length front ≡ length begun = ap length is in
    let all : length (front ++ drop (length begun) zeros) ≡ size =
    omega (arith, length-append front (drop (length begun) zeros), length-drop (length begun) zeros, same, long, few) in
    last_part (length begun) (size - length begun) (front ++ drop (length begun) zeros) to (omega (arith, all, few)) (omega (arith, all))
    ∙ ap (λ (zs : List ℕ). zs ++ to) (take_at front (drop (length begun) zeros) (length begun) same ∙ is)
