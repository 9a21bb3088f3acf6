-- The first line of a file.
use Rattle.std.proofs.Common.{◌≡◌, ℕ, suc, ◌+◌, ◌<◌, ◌≤◌, Bool, true, false, List, [], ◌∷◌, length, take, drop, refl, sym, ap, ◌∙◌, arith, Some, None, Option}
use Rattle.std.specs.Prelude.{position, slice_range, nat_lt, if◌then◌else◌, ◌-◌}
use Rattle.std.specs.List.{position_or_len, onto_first}
use Rattle.std.proofs.lemmas.Bool.{ltb-true, ltb-false}
use Rattle.std.proofs.lemmas.List.{take_all, drop_all, drop-drop}
use Rattle.std.proofs.Math.Seq.{take-add}
use Rattle.std.proofs.Common.{length-drop, length-take, ◌++◌}
use Rattle.fv_jobs.specs.headline.Jobs.{is_feed, lines_in}

-- the place of the first byte 10, of which there is one
some_place : (n m i : ℕ) (b : Bool) → nat_lt n m ≡ b → (if b then Some n else None) ≡ Some i → (n ≡ i) × (n < m)
some_place n m i true t e = (cc, ltb-true n m t)
some_place n m i false t e = absurd (cc)

no_place : (n m : ℕ) (b : Bool) → nat_lt n m ≡ b → (let o : Option ℕ = if b then Some n else None in o) ≡ None → m ≤ n
no_place n m true t e = absurd (cc)
no_place n m false t e = ltb-false n m t

-- up to the first byte 10 stands the first line
line_at : (x : ℕ) (xs : List ℕ) (b : Bool) → is_feed x ≡ b
    → (position_or_len is_feed xs < length xs
    → lines_in xs ≡ take (suc (position_or_len is_feed xs)) xs ∷ lines_in (drop (suc (position_or_len is_feed xs)) xs))
    → position_or_len is_feed (x ∷ xs) < suc (length xs)
    → lines_in (x ∷ xs) ≡ take (suc (position_or_len is_feed (x ∷ xs))) (x ∷ xs) ∷ lines_in (drop (suc (position_or_len is_feed (x ∷ xs))) (x ∷ xs))
line_at x xs true t ih h = rw t refl
line_at x xs false t ih h =
    let z = rw t at h in
    let one : suc (position_or_len is_feed xs) ≡ 1 + position_or_len is_feed xs = omega arith in
    rw t (ap (onto_first x) (ih (omega arith)) ∙ ap (λ (m : ℕ). (x ∷ take m xs) ∷ lines_in (drop m xs)) one)

line_to : (xs : List ℕ) → position_or_len is_feed xs < length xs
    → lines_in xs ≡ take (suc (position_or_len is_feed xs)) xs ∷ lines_in (drop (suc (position_or_len is_feed xs)) xs)
line_to [] h = absurd (omega arith)
line_to (x ∷ xs) h = line_at x xs (is_feed x) refl (line_to xs) h

-- without a byte 10 all is one line
last_at : (x : ℕ) (xs : List ℕ) (b : Bool) → is_feed x ≡ b → (length xs ≤ position_or_len is_feed xs → 0 < length xs → lines_in xs ≡ xs ∷ [])
    → suc (length xs) ≤ position_or_len is_feed (x ∷ xs) → lines_in (x ∷ xs) ≡ (x ∷ xs) ∷ []
last_at x xs true t ih h = let z = rw t at h in absurd (omega arith)
last_at x [] false t ih h = rw t refl
last_at x (y ∷ ys) false t ih h = let z = rw t at h in let r = ih (omega arith) (omega arith) in rw (t, r) refl

last_line : (xs : List ℕ) → length xs ≤ position_or_len is_feed xs → 0 < length xs → lines_in xs ≡ xs ∷ []
last_line [] h l = absurd (omega arith)
last_line (x ∷ xs) h l = last_at x xs (is_feed x) refl (last_line xs) h

-- the first line, where a byte 10 stands
pub first_some : (xs : List ℕ) (i : ℕ) → Some i ≡ position is_feed xs → lines_in xs ≡ take (i + 1) xs ∷ lines_in (drop (length (take (i + 1) xs)) xs)
first_some xs i e =
    let p = some_place (position_or_len is_feed xs) (length xs) i (nat_lt (position_or_len is_feed xs) (length xs)) refl (sym e) in
    let long : length (take (i + 1) xs) ≡ i + 1 = let w = p.1 in let q = p.0 in omega (arith, length-take (i + 1) xs) in
    let here : suc (position_or_len is_feed xs) ≡ i + 1 = let q = p.0 in omega arith in
    line_to xs p.1
    ∙ ap (λ (m : ℕ). take m xs ∷ lines_in (drop m xs)) here
    ∙ ap (λ (m : ℕ). take (i + 1) xs ∷ lines_in (drop m xs)) (sym long)

-- and where none does
pub first_none : (xs : List ℕ) → None ≡ position is_feed xs → 0 < length xs → lines_in xs ≡ xs ∷ lines_in (drop (length xs) xs)
first_none xs e h =
    last_line xs (no_place (position_or_len is_feed xs) (length xs) (nat_lt (position_or_len is_feed xs) (length xs)) refl (sym e)) h
    ∙ ap (λ (r : List ℕ). xs ∷ lines_in r) (sym (drop_all (length xs) xs (omega arith)))

-- what a file has from a place on
abbrev pub from_place : List ℕ → ℕ → List ℕ
from_place bytes at = take (length bytes - at) (drop at bytes)

pub all_from : (bytes : List ℕ) (at : ℕ) → from_place bytes at ≡ drop at bytes
all_from bytes at = take_all _ _ (omega (arith, length-drop at bytes))

-- a line that begins at a place, and the lines after it
pub lines_from : (bytes line : List ℕ) (at : ℕ) → lines_in (from_place bytes at) ≡ line ∷ lines_in (drop (length line) (from_place bytes at))
    → lines_in (drop at bytes) ≡ line ∷ lines_in (drop (at + length line) bytes)
lines_from bytes line at e =
    ap lines_in (sym (all_from bytes at)) ∙ e
    ∙ ap (λ (r : List ℕ). line ∷ lines_in (drop (length line) r)) (all_from bytes at)
    ∙ ap (λ (r : List ℕ). line ∷ lines_in r) (drop-drop (length line) at bytes)

-- it stands after what stands before it
pub longer_front : (bytes line : List ℕ) (start at : ℕ) → start ≤ at → line ≡ take (length line) (from_place bytes at)
    → slice_range bytes start at ++ line ≡ slice_range bytes start (at + length line)
longer_front bytes line start at h e =
    let n = length line in
    let far : start + (at - start) ≡ at = omega arith in
    let long : (at - start) + n ≡ (at + n) - start = omega arith in
    ap (λ (l : List ℕ). slice_range bytes start at ++ l)
    (e ∙ ap (take n) (all_from bytes at ∙ ap (λ (m : ℕ). drop m bytes) (sym far) ∙ sym (drop-drop (at - start) start bytes)))
    ∙ sym (take-add (at - start) n (drop start bytes))
    ∙ ap (λ (m : ℕ). take m (drop start bytes)) long
