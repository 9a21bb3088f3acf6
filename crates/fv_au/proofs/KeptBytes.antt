-- Bytes that were kept, and those that are read after them.
use Rattle.std.proofs.Common.{◌≡◌, ℕ, ◌+◌, ◌-◌, ◌≤◌, ◌<◌, min, List, [], ◌++◌, length, take, drop, refl, sym, ap, ◌∙◌, arith}
use Rattle.std.proofs.Common.{append_assoc, take_all, length-take, length-take-le}
use Rattle.std.proofs.lemmas.List.{drop_all, drop_at, take-append-drop}
use borrow.Rule.Slice.PartMut.{put_mid}
use Rattle.fv_wav.proofs.lemmas.Begun.{last_part, front_then}

behind_part : (n : ℕ) (xs ys : List ℕ) → n ≤ length xs → drop n (put_mid n (length xs - n) xs ys) ≡ ys
behind_part n xs ys h = ap (drop n) (last_part n (length xs - n) xs ys h refl) ∙ drop_at (take n xs) ys n (length-take-le n xs h)

-- a reading of more bytes than are kept: those that are kept, and then those that are taken beneath
pub past : (kept front to0 to1 left0 left1 behind : List ℕ) (n m r : ℕ) → n ≡ length kept → r ≡ min (length kept) (length front) → length front ≡ n
    → n < length to0 → take r front ≡ take r kept → behind ≡ drop r kept → left0 ≡ take m to1 ++ left1
    → kept ++ left0 ≡ take (n + m) (front ++ drop n (put_mid n (length to0 - n) to0 to1)) ++ (behind ++ left1)
past kept front to0 to1 left0 left1 behind n m r few all long room given rest taken =
    let whole : r ≡ n = omega arith in
    let same : front ≡ kept = sym (take_all r front (omega arith)) ∙ given ∙ take_all r kept (omega arith) in
    let none : behind ≡ [] = rest ∙ drop_all r kept (omega arith) in
    ap (λ (zs : List ℕ). kept ++ zs) taken ∙ sym (append_assoc kept (take m to1) left1)
    ∙ ap (λ (zs : List ℕ). zs ++ left1) (sym (front_then kept to1 n m few))
    ∙ ap (λ (zs : List ℕ). take (n + m) (kept ++ zs) ++ left1) (sym (behind_part n to0 to1 (omega arith)))
    ∙ ap (λ (zs : List ℕ). take (n + m) (zs ++ drop n (put_mid n (length to0 - n) to0 to1)) ++ left1) (sym same)
    ∙ ap (λ (zs : List ℕ). take (n + m) (front ++ drop n (put_mid n (length to0 - n) to0 to1)) ++ (zs ++ left1)) (sym none)

-- a reading of no more than are kept: what is taken beneath is kept after the others
pub within : (kept next to left0 left1 rest more : List ℕ) (n r : ℕ) → take r to ≡ take r kept → rest ≡ drop r kept → more ≡ rest ++ take n next
    → left0 ≡ take n next ++ left1
    → kept ++ left0 ≡ take r to ++ (more ++ left1)
within kept next to left0 left1 rest more n r given behind longer taken =
    ap (λ (zs : List ℕ). kept ++ zs) taken
    ∙ ap (λ (zs : List ℕ). zs ++ (take n next ++ left1)) (sym (take-append-drop r kept))
    ∙ append_assoc (take r kept) (drop r kept) (take n next ++ left1)
    ∙ ap (λ (zs : List ℕ). take r kept ++ zs) (sym (append_assoc (drop r kept) (take n next) left1))
    ∙ ap (λ (zs : List ℕ). take r kept ++ ((zs ++ take n next) ++ left1)) (sym behind)
    ∙ ap (λ (zs : List ℕ). take r kept ++ (zs ++ left1)) (sym longer)
    ∙ ap (λ (zs : List ℕ). zs ++ (more ++ left1)) (sym given)

-- where fewer than n of the first n bytes are there, they are all, and none is left
pub all_taken : (n : ℕ) (bytes left behind : List ℕ) → bytes ≡ take n left → behind ≡ drop n left → length bytes < n → (bytes ≡ left) × (behind ≡ [])
all_taken n bytes left behind first rest few =
    let short : length left ≤ n = omega (arith, ap length first, length-take n left) in
    (first ∙ take_all n left short, rest ∙ drop_all n left short)
