-- What the step finds is a piece, and what it refuses is a fault.
use Rattle.std.proofs.Common.{◌≡◌, ℕ, zero, suc, ◌+◌, ◌<◌, ◌≤◌, Bool, true, false, cond, not, ◌&&◌, ◌||◌, List, [], ◌∷◌}
use Rattle.std.proofs.Common.{◌++◌, length, take, drop, Option, Some, None, refl, sym, ap, subst, ◌∙◌, arith, ◌⊎◌, inl, inr}
use Rattle.std.specs.Prelude.{nat_eq, nat_lt, is_some}
use Rattle.std.specs.List.{list_all, prefix_len}
use Rattle.std.specs.Option.{option_map}
use Rattle.std.proofs.lemmas.Bool.{ne_eqb, eqb-true, cond_both, ltb-true, ltb-false, and_parts, or_parts, or_cases}
use Rattle.std.proofs.lemmas.List.{take-append-drop, take_at, drop_at}
use Rattle.fv_lex.specs.declared.token.Kind.{Kind}
use Rattle.fv_lex.specs.declared.token.Kind.TheVariants.{Name, Integer, Text, Sign}
use Rattle.fv_lex.specs.declared.refusal.Fault.TheVariants.{BadByte, RealLiteral, LiteralTooLarge}
use Rattle.fv_lex.specs.declared.next.Next.{Next}
use Rattle.fv_lex.specs.declared.next.Next.TheVariants.{End, Found, Refused}
use Rattle.fv_lex.specs.headline.Bytes.{is_blank, is_letter, is_digit, is_underscore, is_name_byte, is_quote, is_in_line, begins}
use Rattle.fv_lex.specs.headline.Symbols.{at_byte, singles, double, value}
use Rattle.fv_lex.specs.headline.Pieces.{is_name, is_integer, closes, is_token, IsLongest, BeginsNoToken, is_real_tail, BeginsReal, fraction, real}
use Rattle.fv_lex.specs.headline.Pieces.{begins_comment, ends_line, has_close, IsPiece, blank_byte, line_comment, block_comment}
use Rattle.fv_lex.specs.headline.Pieces.{longest_token, IsFault, unclosed_text, unclosed_comment, real_literal, large_literal, bad_byte}
use Rattle.fv_lex.specs.inner.Steps.{to_quote, to_close, bare_underscores, found_or, number_next, slash_next, sign_next, first_next, next_piece}
use Rattle.fv_lex.proofs.lemmas.Runs.{Stops, prefix_len-cons, prefix_len-passes, list_all-prefix_len, run_stops, run_is, run_short, list_all_stops}
use Rattle.fv_lex.proofs.lemmas.Classes.{digit_range, letter_range, no_letter, no_digit, no_double}
use Rattle.fv_lex.proofs.lemmas.Classes.{no_double_high, no_name, no_integer, no_text, no_sign, name_stops}
use Rattle.fv_base.specs.declared.limits.TheConstants.{GREATEST_LITERAL}

-- the first n bytes of a text are a piece
pub record At (text : List ℕ) (n : ℕ) (kind : Option Kind) : Type 0 where
  pub piece : IsPiece (take n text) (drop n text) kind
  pub some : 0 < n
  pub fits : n ≤ length text

-- what the step says is so
abbrev pub Told : List ℕ → Next → Type 0
Told text End = text ≡ []
Told text (Found n kind) = At text n kind
Told text (Refused fault) = IsFault text fault

-- ---- real literals
real_tail_case : (v : Bool) (b : ℕ) (bs : List ℕ) → is_digit b ≡ v → is_real_tail (b ∷ bs) ≡ true → is_digit b ≡ false
real_tail_case false b bs d e = d
real_tail_case true b bs d e =
    let r = digit_range b d in
    let f : nat_eq b 46 ≡ false = ne_eqb b 46 (λ q. omega arith) in
    let g : nat_eq b 101 ≡ false = ne_eqb b 101 (λ q. omega arith) in
    let h : nat_eq b 69 ≡ false = ne_eqb b 69 (λ q. omega arith) in
    let i : nat_eq b 102 ≡ false = ne_eqb b 102 (λ q. omega arith) in
    let no : is_real_tail (b ∷ bs) ≡ false = rw (f, g, h, i) refl in
    absurd cc

pub real_tail_stops : (rest : List ℕ) → is_real_tail rest ≡ true → Stops is_digit rest
real_tail_stops [] e = tt
real_tail_stops (b ∷ bs) e = real_tail_case (is_digit b) b bs refl e

pub integer_all : (digits : List ℕ) → is_integer digits ≡ true → list_all is_digit digits ≡ true
integer_all [] e = refl
integer_all (d ∷ ds) e = e

pub tail_behind : (digits rest : List ℕ) → is_integer digits ≡ true → Stops is_digit rest → drop (prefix_len is_digit (digits ++ rest)) (digits ++ rest) ≡ rest
tail_behind digits rest e h = drop_at digits rest (prefix_len is_digit (digits ++ rest)) (sym (run_is is_digit digits rest (integer_all digits e) h))

pub front_before : (digits rest : List ℕ)
    → is_integer digits ≡ true → Stops is_digit rest → take (prefix_len is_digit (digits ++ rest)) (digits ++ rest) ≡ digits
front_before digits rest e h = take_at digits rest (prefix_len is_digit (digits ++ rest)) (sym (run_is is_digit digits rest (integer_all digits e) h))

-- a real literal begins with `.` and a digit, or with digits after which its tail stands
pub real_parts : (text : List ℕ) → BeginsReal text → ((d : ℕ) × (rest : List ℕ) × (text ≡ 46 ∷ d ∷ rest) × (is_digit d ≡ true))
    ⊎ ((begins is_digit text ≡ true) × (is_real_tail (drop (prefix_len is_digit text) text) ≡ true))
real_parts text (fraction {d} {rest} e) = inl (d, rest, refl, e)
real_parts text (real digits rest e t) = inr (first digits e, ap is_real_tail (tail_behind digits rest e (real_tail_stops rest t)) ∙ t)
  where
    first : (ds : List ℕ) → is_integer ds ≡ true → begins is_digit (ds ++ rest) ≡ true
    first [] h = absurd cc
    first (d ∷ ds) h = (and_parts (is_digit d) (list_all is_digit ds) h).0

pub no_real : (b : ℕ) (bs : List ℕ) → is_digit b ≡ false → (nat_eq b 46 && begins is_digit bs) ≡ false → BeginsReal (b ∷ bs) → ⊥
no_real b bs d dot h = go (real_parts (b ∷ bs) h)
  where
    go : (((e : ℕ) × (rest : List ℕ) × (b ∷ bs ≡ 46 ∷ e ∷ rest) × (is_digit e ≡ true))
        ⊎ ((begins is_digit (b ∷ bs) ≡ true) × (is_real_tail (drop (prefix_len is_digit (b ∷ bs)) (b ∷ bs)) ≡ true))) → ⊥
    go (inl (e, rest, same, is)) =
        let head : b ≡ 46 = cc in
        let tail : bs ≡ e ∷ rest = cc in
        let yes : (nat_eq b 46 && begins is_digit bs) ≡ true = rw (head, tail) is in
        cc
    go (inr (is, _)) = cc

pub no_comment : (b : ℕ) (bs : List ℕ) → nat_eq b 47 ≡ false → begins_comment (b ∷ bs) ≡ false
no_comment b bs e = rw e refl

pub no_dot : (b : ℕ) (bs : List ℕ) → nat_eq b 46 ≡ false → (nat_eq b 46 && begins is_digit bs) ≡ false
no_dot b bs e = rw e refl

-- ---- names
underscore_byte : (b : ℕ) → is_underscore b ≡ true → is_name_byte b ≡ true
underscore_byte b u = rw (eqb-true b 95 u) refl

letter_byte : (b : ℕ) → is_letter b ≡ true → is_name_byte b ≡ true
letter_byte b l = rw l refl

name_run_case : (v : Bool) (b : ℕ) (bs : List ℕ)
    → is_underscore b ≡ v → (begins is_letter (drop (prefix_len is_underscore bs) bs) ≡ true → is_name (take (prefix_len is_name_byte bs) bs) ≡ true)
    → begins is_letter (drop (cond v (suc (prefix_len is_underscore bs)) 0) (b ∷ bs)) ≡ true → is_name (take (prefix_len is_name_byte (b ∷ bs)) (b ∷ bs)) ≡ true
name_run_case true b bs u ih h = rw (prefix_len-passes is_name_byte b bs (underscore_byte b u), u) (ih h)
name_run_case false b bs u ih h = rw (prefix_len-passes is_name_byte b bs (letter_byte b h), u, h, list_all-prefix_len is_name_byte bs) refl

-- the longest run of name bytes is a name, where a letter comes first after its `_`
pub name_run : (text : List ℕ) → begins is_letter (drop (prefix_len is_underscore text) text) ≡ true → is_name (take (prefix_len is_name_byte text) text) ≡ true
name_run [] e = absurd cc
name_run (b ∷ bs) e =
    name_run_case (is_underscore b) b bs refl (name_run bs) (subst (λ n. begins is_letter (drop n (b ∷ bs)) ≡ true) (prefix_len-cons is_underscore b bs) e)

pub name_head : (b : ℕ) → (is_letter b || is_underscore b) ≡ true → (65 ≤ b) × (is_name_byte b ≡ true)
name_head b e = go (or_cases (is_letter b) (is_underscore b) e)
  where
    go : ((is_letter b ≡ true) ⊎ (is_underscore b ≡ true)) → (65 ≤ b) × (is_name_byte b ≡ true)
    go (inl l) = ((letter_range b l).0, letter_byte b l)
    go (inr u) = let is = eqb-true b 95 u in (omega arith, underscore_byte b u)

pub name_longest : (b : ℕ) (body rest : List ℕ) → 65 ≤ b → Stops is_name_byte rest → IsLongest (b ∷ body) rest
name_longest b body rest h stops Name c more tail e = name_stops (b ∷ body) c more (subst (λ r. Stops is_name_byte r) e stops)
name_longest b body rest h stops Integer c more tail e = no_integer b (body ++ c ∷ more) (no_digit b (omega arith))
name_longest b body rest h stops Text c more tail e = no_text b (body ++ c ∷ more) (ne_eqb b 34 (λ q. omega arith))
name_longest b body rest h stops Sign c more tail e = no_sign b body c more (λ d. no_double_high b d (omega arith))

name_at : (b : ℕ) (bs : List ℕ) → 65 ≤ b → is_name_byte b ≡ true
    → begins is_letter (drop (prefix_len is_underscore (b ∷ bs)) (b ∷ bs)) ≡ true → At (b ∷ bs) (suc (prefix_len is_name_byte bs)) (Some Name)
name_at b bs high byte letter =
    let n = prefix_len is_name_byte bs in
    let short = run_short is_name_byte bs in
    let counted : prefix_len is_name_byte (b ∷ bs) ≡ suc n = prefix_len-passes is_name_byte b bs byte in
    let name : is_name (b ∷ take n bs) ≡ true = ap (λ k. is_name (take k (b ∷ bs))) (sym counted) ∙ name_run (b ∷ bs) letter in
    record {
      piece =
          longest_token name (name_longest b (take n bs) (drop n bs) high (run_stops is_name_byte bs))
          (no_comment b (take n bs ++ drop n bs) (ne_eqb b 47 (λ q. omega arith)))
          (no_real b (take n bs ++ drop n bs) (no_digit b (omega arith)) (no_dot b (take n bs ++ drop n bs) (ne_eqb b 46 (λ q. omega arith)))) (λ e. absurd cc);
      some = omega arith;
      fits = omega arith;
    }

-- ---- `_` that no letter follows
prefix_case : (v : Bool) (b : ℕ) (bs ms : List ℕ)
    → is_underscore b ≡ v → (begins is_letter (drop (prefix_len is_underscore bs) bs) ≡ false → is_name ms ≡ false)
    → begins is_letter (drop (cond v (suc (prefix_len is_underscore bs)) 0) (b ∷ bs)) ≡ false → is_name (b ∷ ms) ≡ false
prefix_case true b bs ms u ih h = rw u (ih h)
prefix_case false b bs ms u ih h = rw (u, h) refl

-- no name begins with `_` that no letter follows
pub no_name_prefix : (text : List ℕ)
    → begins is_letter (drop (prefix_len is_underscore text) text) ≡ false → (more tail : List ℕ) → text ≡ more ++ tail → is_name more ≡ false
no_name_prefix text h [] tail e = refl
no_name_prefix [] h (m ∷ ms) tail e = absurd cc
no_name_prefix (b ∷ bs) h (m ∷ ms) tail e =
    let same : b ≡ m = cc in
    let behind : bs ≡ ms ++ tail = cc in
    subst (λ k. is_name (k ∷ ms) ≡ false) same (prefix_case (is_underscore b) b bs ms refl
    (λ f. no_name_prefix bs f ms tail behind) (subst (λ n. begins is_letter (drop n (b ∷ bs)) ≡ false) (prefix_len-cons is_underscore b bs) h))

pub wire_longest : (rest : List ℕ) → begins is_letter (drop (prefix_len is_underscore (95 ∷ rest)) (95 ∷ rest)) ≡ false → IsLongest (95 ∷ []) rest
wire_longest rest h Name c more tail e = no_name_prefix (95 ∷ rest) h (95 ∷ c ∷ more) tail (ap (λ r. 95 ∷ r) e)
wire_longest rest h Integer c more tail e = refl
wire_longest rest h Text c more tail e = refl
wire_longest rest h Sign c more tail e = no_sign 95 [] c more (λ d. refl)

-- the count is above 0 only where `_` stand that no letter follows
wires_case : (v : Bool) (n : ℕ) → nat_lt 0 (cond v 0 n) ≡ true → (v ≡ false) × (0 < n)
wires_case true n e = absurd cc
wires_case false n e = (refl, ltb-true 0 n e)

pub wires_some : (text : List ℕ)
    → nat_lt 0 (bare_underscores text) ≡ true → (begins is_letter (drop (prefix_len is_underscore text) text) ≡ false) × (0 < prefix_len is_underscore text)
wires_some text e = wires_case (begins is_letter (drop (prefix_len is_underscore text) text)) (prefix_len is_underscore text) e

head_case : (p : ℕ → Bool) (v : Bool) (b n : ℕ) → p b ≡ v → 0 < cond v (suc n) 0 → p b ≡ true
head_case p true b n e h = e
head_case p false b n e h = absurd (omega arith)

pub run_head : (p : ℕ → Bool) (b : ℕ) (bs : List ℕ) → 0 < prefix_len p (b ∷ bs) → p b ≡ true
run_head p b bs h = head_case p (p b) b (prefix_len p bs) refl (subst (λ n. 0 < n) (prefix_len-cons p b bs) h)

wire_at : (b : ℕ) (bs : List ℕ) → nat_lt 0 (bare_underscores (b ∷ bs)) ≡ true → At (b ∷ bs) 1 (Some Sign)
wire_at b bs e =
    let facts = wires_some (b ∷ bs) e in
    let is : b ≡ 95 = eqb-true b 95 (run_head is_underscore b bs facts.1) in
    let letter : begins is_letter (drop (prefix_len is_underscore (95 ∷ bs)) (95 ∷ bs)) ≡ false =
    subst (λ k. begins is_letter (drop (prefix_len is_underscore (k ∷ bs)) (k ∷ bs)) ≡ false) is facts.0 in
    subst (λ k. At (k ∷ bs) 1 (Some Sign)) (sym is)
    (record { piece = longest_token refl (wire_longest bs letter) refl (no_real 95 bs refl refl) (λ q. absurd cc); some = omega arith; fits = omega arith })

-- ---- integers
pub digits_longest : (b : ℕ) (body rest : List ℕ) → is_digit b ≡ true → Stops is_digit rest → IsLongest (b ∷ body) rest
digits_longest b body rest d stops Name c more tail e =
    let r = digit_range b d in no_name b (body ++ c ∷ more) (ne_eqb b 95 (λ q. omega arith)) (no_letter b (omega arith))
digits_longest b body rest d stops Integer c more tail e = list_all_stops is_digit (b ∷ body) c more (subst (λ r. Stops is_digit r) e stops)
digits_longest b body rest d stops Text c more tail e = let r = digit_range b d in no_text b (body ++ c ∷ more) (ne_eqb b 34 (λ q. omega arith))
digits_longest b body rest d stops Sign c more tail e = let r = digit_range b d in no_sign b body c more (λ k. no_double b k (omega arith) (omega arith))

-- no real literal begins where digits stand before what makes none of them
pub no_real_digits : (b : ℕ) (bs : List ℕ) → is_digit b ≡ true → is_real_tail (drop (prefix_len is_digit (b ∷ bs)) (b ∷ bs)) ≡ false → BeginsReal (b ∷ bs) → ⊥
no_real_digits b bs d tail h = go (real_parts (b ∷ bs) h)
  where
    go : (((e : ℕ) × (rest : List ℕ) × (b ∷ bs ≡ 46 ∷ e ∷ rest) × (is_digit e ≡ true))
        ⊎ ((begins is_digit (b ∷ bs) ≡ true) × (is_real_tail (drop (prefix_len is_digit (b ∷ bs)) (b ∷ bs)) ≡ true))) → ⊥
    go (inl (e, rest, same, is)) =
        let head : b ≡ 46 = cc in
        let r = digit_range b d in
        omega arith
    go (inr (_, is)) = cc

number_told : (b : ℕ) (bs : List ℕ) → is_digit b ≡ true → Told (b ∷ bs) (number_next (b ∷ bs))
number_told b bs d =
    let text : List ℕ = b ∷ bs in
    let n = prefix_len is_digit text in
    let counted : n ≡ suc (prefix_len is_digit bs) = prefix_len-passes is_digit b bs d in
    let short = run_short is_digit text in
    let all : is_integer (take n text) ≡ true = rw (counted, d, list_all-prefix_len is_digit bs) refl in
    let whole : take n text ++ drop n text ≡ text = take-append-drop n text in
    let longest : IsLongest (take n text) (drop n text) = subst (λ k. IsLongest (take k text) (drop n text))
    (sym counted) (digits_longest b (take (prefix_len is_digit bs) bs) (drop n text) d (run_stops is_digit text)) in
    cond_both (is_real_tail (drop n text)) _ _ (Told text)
    (λ yes. real_literal (subst (λ t. BeginsReal t) whole (real (take n text) (drop n text) all yes)))
    (λ no.
    let unreal : BeginsReal (take n text ++ drop n text) → ⊥ = λ h. no_real_digits b bs d no (subst (λ t. BeginsReal t) whole h) in
    cond_both (nat_lt GREATEST_LITERAL (value (take n text))) _ _ (Told text)
    (λ large. subst (λ t. IsFault t LiteralTooLarge) whole
    (large_literal (take n text) (drop n text) all longest unreal (ltb-true GREATEST_LITERAL (value (take n text)) large)))
    (λ small.
    let r = digit_range b d in
    record {
      piece = longest_token all longest (subst (λ t. begins_comment t ≡ false) (sym whole) (no_comment b bs (ne_eqb b 47 (λ q. omega arith)))) unreal
          (λ _. ltb-false GREATEST_LITERAL (value (take n text)) small);
      some = omega arith;
      fits = short;
    }))

-- ---- strings
pub record Closed (bs : List ℕ) (n : ℕ) : Type 0 where
  pub closed : closes (take n bs) ≡ true
  pub last : (c : ℕ) (more : List ℕ) → closes (take n bs ++ c ∷ more) ≡ false
  pub fits : n ≤ length bs

-- what the end of a string says, found or not
abbrev pub Quoted : List ℕ → Option ℕ → Type 0
Quoted bs None = list_all (λ b. not (is_quote b)) bs ≡ true
Quoted bs (Some n) = Closed bs n

quoted_more : (b : ℕ) (bs : List ℕ) (found : Option ℕ) → is_quote b ≡ false → Quoted bs found → Quoted (b ∷ bs) (option_map suc found)
quoted_more b bs None q h = rw q h
quoted_more b bs (Some n) q h = let fits = h.fits in record { closed = rw q h.closed; last = λ c more. rw q (h.last c more); fits = omega arith }

quoted_case : (v : Bool) (b : ℕ) (bs : List ℕ) → is_quote b ≡ v → Quoted bs (to_quote bs) → Quoted (b ∷ bs) (cond v (Some 1) (option_map suc (to_quote bs)))
quoted_case true b bs q h = record { closed = rw q refl; last = λ c more. rw q refl; fits = omega arith }
quoted_case false b bs q h = quoted_more b bs (to_quote bs) q h

pub quoted : (bs : List ℕ) → Quoted bs (to_quote bs)
quoted [] = refl
quoted (b ∷ bs) = quoted_case (is_quote b) b bs refl (quoted bs)

text_longest : (bs : List ℕ) (n : ℕ) (rest : List ℕ) → Closed bs n → IsLongest (34 ∷ take n bs) rest
text_longest bs n rest h Name c more tail e = refl
text_longest bs n rest h Integer c more tail e = refl
text_longest bs n rest h Text c more tail e = h.last c more
text_longest bs n rest h Sign c more tail e = no_sign 34 (take n bs) c more (λ d. refl)

text_told : (bs : List ℕ) (found : Option ℕ) → Quoted bs found → Told (34 ∷ bs) (found_or (λ n. Found (1 + n) (Some Text)) found)
text_told bs None h = unclosed_text h
text_told bs (Some n) h =
    let fits = h.fits in
    let one : 1 + n ≡ suc n = omega arith in
    subst (λ k. At (34 ∷ bs) k (Some Text)) (sym one)
    (record {
      piece = longest_token h.closed (text_longest bs n (drop n bs) h) refl (no_real 34 (take n bs ++ drop n bs) refl refl) (λ q. absurd cc);
      some = omega arith;
      fits = omega arith;
    })

-- ---- comments
pub record Ended (bs : List ℕ) (n : ℕ) : Type 0 where
  pub body : List ℕ
  pub inside : has_close body ≡ false
  pub is : take n bs ≡ body ++ 42 ∷ 47 ∷ []
  pub fits : n ≤ length bs

-- what the end of a comment says, found or not
abbrev pub Commented : List ℕ → Option ℕ → Type 0
Commented bs None = has_close bs ≡ false
Commented bs (Some n) = Ended bs n

is_slash : ℕ → Bool
is_slash c = nat_eq c 47

begins_same : (bs body : List ℕ) (n : ℕ) → take n bs ≡ body ++ 42 ∷ 47 ∷ [] → begins (λ c. nat_eq c 47) bs ≡ false → begins (λ c. nat_eq c 47) body ≡ false
begins_same bs [] n e h = refl
begins_same [] (x ∷ body) zero e h = absurd cc
begins_same [] (x ∷ body) (suc n) e h = absurd cc
begins_same (b ∷ bs) (x ∷ body) zero e h = absurd cc
begins_same (b ∷ bs) (x ∷ body) (suc n) e h = let same : b ≡ x = cc in subst (λ k. nat_eq k 47 ≡ false) same h

-- `*` before what begins with no `/`
star_same : (v : Bool) (bs body : List ℕ) (n : ℕ)
    → take n bs ≡ body ++ 42 ∷ 47 ∷ [] → (v && begins (λ c. nat_eq c 47) bs) ≡ false → (v && begins (λ c. nat_eq c 47) body) ≡ false
star_same true bs body n e h = begins_same bs body n e h
star_same false bs body n e h = refl

commented_more : (b : ℕ) (bs : List ℕ) (found : Option ℕ)
    → (nat_eq b 42 && begins (λ c. nat_eq c 47) bs) ≡ false → Commented bs found → Commented (b ∷ bs) (option_map suc found)
commented_more b bs None q h = rw q h
commented_more b bs (Some n) q h =
    let fits = h.fits in
    let star = star_same (nat_eq b 42) bs h.body n h.is q in
    record { body = b ∷ h.body; inside = rw (star, h.inside) refl; is = ap (λ l. b ∷ l) h.is; fits = omega arith }

commented_end : (b : ℕ) (bs : List ℕ) → nat_eq b 42 ≡ true → begins (λ c. nat_eq c 47) bs ≡ true → Ended (b ∷ bs) 2
commented_end b [] star slash = absurd cc
commented_end b (c ∷ cs) star slash = record { body = []; inside = refl; is = rw (eqb-true b 42 star, eqb-true c 47 slash) refl; fits = omega arith }

commented_case : (v : Bool) (b : ℕ) (bs : List ℕ)
    → (nat_eq b 42 && begins (λ c. nat_eq c 47) bs) ≡ v → Commented bs (to_close bs) → Commented (b ∷ bs) (cond v (Some 2) (option_map suc (to_close bs)))
commented_case true b bs q h = let both = and_parts (nat_eq b 42) (begins (λ c. nat_eq c 47) bs) q in commented_end b bs both.0 both.1
commented_case false b bs q h = commented_more b bs (to_close bs) q h

pub commented : (bs : List ℕ) → Commented bs (to_close bs)
commented [] = refl
commented (b ∷ bs) = commented_case (nat_eq b 42 && begins (λ c. nat_eq c 47) bs) b bs refl (commented bs)

block_told : (cs : List ℕ) (found : Option ℕ) → Commented cs found → Told (47 ∷ 42 ∷ cs) (found_or (λ n. Found (2 + n) None) found)
block_told cs None h = unclosed_comment h
block_told cs (Some n) h =
    let fits = h.fits in
    let two : 2 + n ≡ suc (suc n) = omega arith in
    let piece : IsPiece (47 ∷ 42 ∷ take n cs) (drop n cs) None =
    subst (λ l. IsPiece (47 ∷ 42 ∷ l) (drop n cs) None) (sym h.is) (block_comment h.body h.inside) in
    subst (λ k. At (47 ∷ 42 ∷ cs) k None) (sym two) (record { piece = piece; some = omega arith; fits = omega arith })

line_ends : (rest : List ℕ) → Stops is_in_line rest → ends_line rest ≡ true
line_ends [] h = refl
line_ends (b ∷ rest) h = go (nat_eq b 10) h
  where
    go : (v : Bool) → not v ≡ false → v ≡ true
    go true e = refl
    go false e = absurd cc

line_at : (cs : List ℕ) → At (47 ∷ 47 ∷ cs) (2 + prefix_len is_in_line cs) None
line_at cs =
    let n = prefix_len is_in_line cs in
    let short = run_short is_in_line cs in
    let two : 2 + n ≡ suc (suc n) = omega arith in
    subst (λ k. At (47 ∷ 47 ∷ cs) k None) (sym two)
    (record {
      piece = line_comment (list_all-prefix_len is_in_line cs) (line_ends (drop n cs) (run_stops is_in_line cs));
      some = omega arith;
      fits = omega arith;
    })

pub slash_longest : (rest : List ℕ) → IsLongest (47 ∷ []) rest
slash_longest rest Name c more tail e = refl
slash_longest rest Integer c more tail e = refl
slash_longest rest Text c more tail e = refl
slash_longest rest Sign c more tail e = no_sign 47 [] c more (λ d. refl)

slash_at : (bs : List ℕ) → begins_comment (47 ∷ bs) ≡ false → At (47 ∷ bs) 1 (Some Sign)
slash_at bs e = record { piece = longest_token refl (slash_longest bs) e (no_real 47 bs refl refl) (λ q. absurd cc); some = omega arith; fits = omega arith }

slash_told : (bs : List ℕ) → Told (47 ∷ bs) (slash_next bs)
slash_told [] = slash_at [] refl
slash_told (c ∷ cs) =
    cond_both (nat_eq c 47) _ _ (Told (47 ∷ c ∷ cs))
    (λ yes. subst (λ k. At (47 ∷ k ∷ cs) (2 + prefix_len is_in_line cs) None) (sym (eqb-true c 47 yes)) (line_at cs))
    (λ no. cond_both (nat_eq c 42) _ _ (Told (47 ∷ c ∷ cs))
    (λ yes. subst (λ k. Told (47 ∷ k ∷ cs) (found_or (λ n. Found (2 + n) None) (to_close cs)))
    (sym (eqb-true c 42 yes)) (block_told cs (to_close cs) (commented cs)))
    (λ none. slash_at (c ∷ cs) (rw (no, none) refl)))

-- ---- signs
-- what is known of a byte that begins no name, number, string or comment, and no real literal
pub record Bare (b : ℕ) (bs : List ℕ) : Type 0 where
  pub blank : is_blank b ≡ false
  pub letter : is_letter b ≡ false
  pub underscore : is_underscore b ≡ false
  pub digit : is_digit b ≡ false
  pub quote : is_quote b ≡ false
  pub slash : nat_eq b 47 ≡ false
  pub dot : (nat_eq b 46 && begins is_digit bs) ≡ false

bare_real : (b : ℕ) (bs : List ℕ) → Bare b bs → BeginsReal (b ∷ bs) → ⊥
bare_real b bs h = no_real b bs h.digit h.dot

double_longest : (b c : ℕ) (bs rest : List ℕ) → Bare b bs → IsLongest (b ∷ c ∷ []) rest
double_longest b c bs rest h Name d more tail e = no_name b (c ∷ d ∷ more) h.underscore h.letter
double_longest b c bs rest h Integer d more tail e = no_integer b (c ∷ d ∷ more) h.digit
double_longest b c bs rest h Text d more tail e = no_text b (c ∷ d ∷ more) h.quote
double_longest b c bs rest h Sign d more tail e = refl

single_sign : (b c : ℕ) (more cs tail : List ℕ) → is_some (double b c) ≡ false → is_token Sign (b ∷ c ∷ more) ≡ false
single_sign b c [] cs tail none = none
single_sign b c (d ∷ more) cs tail none = refl

single_longest : (b : ℕ) (rest : List ℕ) → Bare b rest → ((c : ℕ) (cs : List ℕ) → rest ≡ c ∷ cs → is_some (double b c) ≡ false) → IsLongest (b ∷ []) rest
single_longest b rest h none Name c more tail e = no_name b (c ∷ more) h.underscore h.letter
single_longest b rest h none Integer c more tail e = no_integer b (c ∷ more) h.digit
single_longest b rest h none Text c more tail e = no_text b (c ∷ more) h.quote
single_longest b rest h none Sign c more tail e = single_sign b c more tail tail (none c (more ++ tail) e)

no_token : (b : ℕ) (rest : List ℕ)
    → Bare b rest → is_some (at_byte singles b) ≡ false → ((c : ℕ) (cs : List ℕ) → rest ≡ c ∷ cs → is_some (double b c) ≡ false) → BeginsNoToken (b ∷ rest)
no_token b rest h single none Name [] tail e = refl
no_token b rest h single none Integer [] tail e = refl
no_token b rest h single none Text [] tail e = refl
no_token b rest h single none Sign [] tail e = refl
no_token b rest h single none Name (x ∷ more) tail e =
    let same : b ≡ x = cc in subst (λ k. is_token Name (k ∷ more) ≡ false) same (no_name b more h.underscore h.letter)
no_token b rest h single none Integer (x ∷ more) tail e =
    let same : b ≡ x = cc in subst (λ k. is_token Integer (k ∷ more) ≡ false) same (no_integer b more h.digit)
no_token b rest h single none Text (x ∷ more) tail e = let same : b ≡ x = cc in subst (λ k. is_token Text (k ∷ more) ≡ false) same (no_text b more h.quote)
no_token b rest h single none Sign (x ∷ []) tail e = let same : b ≡ x = cc in subst (λ k. is_token Sign (k ∷ []) ≡ false) same single
no_token b rest h single none Sign (x ∷ c ∷ more) tail e =
    let same : b ≡ x = cc in
    let behind : rest ≡ c ∷ (more ++ tail) = cc in
    subst (λ k. is_token Sign (k ∷ c ∷ more) ≡ false) same (single_sign b c more tail tail (none c (more ++ tail) behind))

single_told : (b : ℕ) (rest : List ℕ) → Bare b rest → ((c : ℕ) (cs : List ℕ) → rest ≡ c ∷ cs → is_some (double b c) ≡ false)
    → Told (b ∷ rest) (cond (is_some (at_byte singles b)) (Found 1 (Some Sign)) (Refused BadByte))
single_told b rest h none = cond_both (is_some (at_byte singles b)) _ _ (Told (b ∷ rest))
    (λ yes. record {
      piece = longest_token yes (single_longest b rest h none) (no_comment b rest h.slash) (bare_real b rest h) (λ q. absurd cc);
      some = omega arith;
      fits = omega arith;
    })
    (λ no. bad_byte h.blank h.quote (no_token b rest h no none))

sign_told : (b : ℕ) (bs : List ℕ) → Bare b bs → Told (b ∷ bs) (sign_next b bs)
sign_told b [] h = single_told b [] h (λ c cs e. absurd cc)
sign_told b (c ∷ cs) h = cond_both (is_some (double b c)) _ _ (Told (b ∷ c ∷ cs))
    (λ yes. record {
      piece = longest_token yes (double_longest b c (c ∷ cs) cs h) (no_comment b (c ∷ cs) h.slash) (bare_real b (c ∷ cs) h) (λ q. absurd cc);
      some = omega arith;
      fits = omega arith;
    })
    (λ no. single_told b (c ∷ cs) h (λ d ds e. let same : c ≡ d = cc in subst (λ k. is_some (double b k) ≡ false) same no))

-- ---- all of it
dot_told : (b : ℕ) (bs : List ℕ) → nat_eq b 46 ≡ true → begins is_digit bs ≡ true → IsFault (b ∷ bs) RealLiteral
dot_told b [] dot digit = absurd cc
dot_told b (d ∷ ds) dot digit = subst (λ k. IsFault (k ∷ d ∷ ds) RealLiteral) (sym (eqb-true b 46 dot)) (real_literal (fraction digit))

letter_left : (b : ℕ) → (is_letter b || is_underscore b) ≡ true → is_underscore b ≡ false → is_letter b ≡ true
letter_left b head u = go (or_cases (is_letter b) (is_underscore b) head)
  where
    go : ((is_letter b ≡ true) ⊎ (is_underscore b ≡ true)) → is_letter b ≡ true
    go (inl l) = l
    go (inr v) = absurd cc

begins_from : (w : Bool) (n : ℕ) → cond w 0 n ≤ 0 → 0 < n → w ≡ true
begins_from true n few some = refl
begins_from false n few some = absurd (omega arith)

-- where a letter or `_` stands, and no `_` that no letter follows, a letter follows
letter_comes : (b : ℕ) (bs : List ℕ) → (is_letter b || is_underscore b) ≡ true
    → nat_lt 0 (bare_underscores (b ∷ bs)) ≡ false → begins is_letter (drop (prefix_len is_underscore (b ∷ bs)) (b ∷ bs)) ≡ true
letter_comes b bs head none = go (is_underscore b) refl (ltb-false 0 (bare_underscores (b ∷ bs)) none)
  where
    go : (v : Bool) → is_underscore b ≡ v → bare_underscores (b ∷ bs) ≤ 0 → begins is_letter (drop (prefix_len is_underscore (b ∷ bs)) (b ∷ bs)) ≡ true
    go true u few =
        let counted : prefix_len is_underscore (b ∷ bs) ≡ suc (prefix_len is_underscore bs) = prefix_len-passes is_underscore b bs u in
        let some : 0 < prefix_len is_underscore (b ∷ bs) = omega arith in
        begins_from (begins is_letter (drop (prefix_len is_underscore (b ∷ bs)) (b ∷ bs))) (prefix_len is_underscore (b ∷ bs)) few some
    go false u few = rw u (letter_left b head u)

first_told : (b : ℕ) (bs : List ℕ) → nat_lt 0 (bare_underscores (b ∷ bs)) ≡ false → Told (b ∷ bs) (first_next b bs)
first_told b bs none =
    let Q : Next → Type 0 = Told (b ∷ bs) in
    cond_both (is_blank b) _ _ Q (λ yes. record { piece = blank_byte yes; some = omega arith; fits = omega arith })
    (λ blank. cond_both (is_letter b || is_underscore b) _ _ Q
    (λ yes. let head = name_head b yes in name_at b bs head.0 head.1 (letter_comes b bs yes none))
    (λ neither. let no = or_parts (is_letter b) (is_underscore b) neither in cond_both (is_digit b) _ _ Q (λ yes. number_told b bs yes)
    (λ digit. cond_both (is_quote b) _ _ Q (λ yes. subst
    (λ k. Told (k ∷ bs) (found_or (λ n. Found (1 + n) (Some Text)) (to_quote bs))) (sym (eqb-true b 34 yes)) (text_told bs (to_quote bs) (quoted bs)))
    (λ quote. cond_both (nat_eq b 47) _ _ Q (λ yes. subst (λ k. Told (k ∷ bs) (slash_next bs)) (sym (eqb-true b 47 yes)) (slash_told bs))
    (λ slash. cond_both (nat_eq b 46 && begins is_digit bs) _ _ Q
    (λ yes. let both = and_parts (nat_eq b 46) (begins is_digit bs) yes in dot_told b bs both.0 both.1)
    (λ dot. sign_told b bs (record { blank = blank; letter = no.0; underscore = no.1; digit = digit; quote = quote; slash = slash; dot = dot })))))))

-- what the step says of a text is so
pub sound : (text : List ℕ) → Told text (next_piece text)
sound [] = refl
sound (b ∷ bs) = cond_both (nat_lt 0 (bare_underscores (b ∷ bs))) _ _ (Told (b ∷ bs)) (λ yes. wire_at b bs yes) (λ no. first_told b bs no)
