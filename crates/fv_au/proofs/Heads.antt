-- The head stands in the first 24 bytes.
use Rattle.std.proofs.Common.{◌≡◌, ℕ, ◌+◌, ◌-◌, ◌≤◌, ◌<◌, List, ◌++◌, length, take, drop, refl, sym, ap, ◌∙◌, arith, Ok, Err, length-append}
use Rattle.std.specs.Prelude.{Result, nat_lt, if◌then◌else◌}
use Rattle.std.proofs.lemmas.Bool.{le-ltb, lt-ltb}
use Rattle.std.proofs.lemmas.List.{take_at, drop-take}
use Rattle.byteorder.specs.Endian.{big_number}
use Rattle.byteorder.specs.Numbers.{big_from-take}
use Rattle.fv_au.specs.headline.Reading.{field, bits_of, stated, is_encoding, is_channels, head_of, au, au_in}
use Rattle.fv_au.specs.declared.head.AuHead.{AuHead}
use Rattle.fv_au.specs.declared.refusal.AuRefusal.{AuRefusal}
use Rattle.fv_au.specs.declared.refusal.AuRefusal.TheVariants.{AuFormat, AuTruncated}

-- what the fields of a head say, where all are there
abbrev pub said : (offset size encoding rate channels : ℕ) → Result AuHead AuRefusal
said offset size encoding rate channels =
    if nat_lt offset 24 then Err (AuFormat 4) else
    (if is_encoding encoding then
    (if is_channels channels then
    Ok (record { channels = channels; rate = rate; bits = bits_of encoding; data_bytes = stated size; offset = offset }) else Err (AuFormat 20))
    else Err (AuFormat 12))

pub head_long : (xs : List ℕ) → 24 ≤ length xs → head_of xs ≡ said (field 4 xs) (field 8 xs) (field 12 xs) (field 16 xs) (field 20 xs)
head_long xs h = rw (le-ltb (length xs) 8 (omega arith), le-ltb (length xs) 16 (omega arith), le-ltb (length xs) 24 h) refl

field_first : (p : ℕ) (xs : List ℕ) → p + 4 ≤ 24 → field p (take 24 xs) ≡ field p xs
field_first p xs h =
    let parts : 24 ≡ p + (24 - p) = omega arith in
    ap (big_number 4) (ap (λ (n : ℕ). drop p (take n xs)) parts ∙ drop-take p (24 - p) xs) ∙ big_from-take 0 4 (24 - p) (drop p xs) (omega arith)

-- 24 bytes say what they say with all that stands after them
pub head_front : (xs ys : List ℕ) → length xs ≡ 24 → head_of (xs ++ ys) ≡ head_of xs
head_front xs ys h =
    let all = xs ++ ys in
    let front : take 24 all ≡ xs = take_at xs ys 24 h in
    let f : (p : ℕ) → p + 4 ≤ 24 → field p all ≡ field p xs = λ p l. sym (field_first p all l) ∙ ap (field p) front in
    head_long all (omega (arith, length-append xs ys, h))
    ∙ ap (λ o. said o (field 8 all) (field 12 all) (field 16 all) (field 20 all)) (f 4 (omega arith))
    ∙ ap (λ s. said (field 4 xs) s (field 12 all) (field 16 all) (field 20 all)) (f 8 (omega arith))
    ∙ ap (λ e. said (field 4 xs) (field 8 xs) e (field 16 all) (field 20 all)) (f 12 (omega arith))
    ∙ ap (λ r. said (field 4 xs) (field 8 xs) (field 12 xs) r (field 20 all)) (f 16 (omega arith))
    ∙ ap (λ c. said (field 4 xs) (field 8 xs) (field 12 xs) (field 16 xs) c) (f 20 (omega arith))
    ∙ sym (head_long xs (omega (arith, h)))

-- what a head comes to in its file
pub head_refused : (xs : List ℕ) (e : AuRefusal) → head_of xs ≡ Err e → au xs ≡ Err e
head_refused xs e h = ap (au_in xs) h

pub head_whole : (xs : List ℕ) (head : AuHead) → head_of xs ≡ Ok head → head.offset ≤ length xs → au xs ≡ Ok head
head_whole xs head h l = ap (au_in xs) h ∙ rw (le-ltb (length xs) head.offset l) refl

pub head_cut : (xs : List ℕ) (head : AuHead) → head_of xs ≡ Ok head → length xs < head.offset → au xs ≡ Err (AuTruncated (length xs))
head_cut xs head h l = ap (au_in xs) h ∙ rw (lt-ltb (length xs) head.offset l) refl

pub head_cut_at : (xs ys : List ℕ) (head : AuHead) (e : AuRefusal) → head_of xs ≡ Ok head → length xs ≡ 24 + length ys → 24 + length ys < head.offset
    → e ≡ AuTruncated (24 + length ys) → au xs ≡ Err e
head_cut_at xs ys head e h l c is =
    head_cut xs head h (omega (arith, l, c)) ∙ ap (λ (n : ℕ). Err (AuTruncated n)) l ∙ ap (λ (x : AuRefusal). Err x) (sym is)
