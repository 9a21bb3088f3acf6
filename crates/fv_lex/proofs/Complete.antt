-- Each piece is what the step finds, and each fault is what it refuses.
use Rattle.std.proofs.Common.{◌≡◌, ℕ, suc, ◌+◌, ◌≤◌, Bool, true, false, cond, not, ◌&&◌, ◌||◌, List, [], ◌∷◌, ◌++◌}
use Rattle.std.proofs.Common.{length, take, drop, Option, Some, None, refl, sym, ap, subst, ◌∙◌, arith, ◌⊎◌, inl, inr}
use Rattle.std.specs.Prelude.{nat_eq, nat_lt, is_some}
use Rattle.std.specs.List.{list_all, prefix_len}
use Rattle.std.specs.Option.{option_map}
use Rattle.std.proofs.lemmas.Bool.{ne_eqb, eqb-true, cond_both, lt-ltb, le-ltb, and_parts, or_parts, or_left, or_right, not-true}
use Rattle.std.proofs.lemmas.Bool.Decides.{nat_tests}
use Rattle.std.proofs.lemmas.List.{take-append-drop}
use Rattle.fv_lex.specs.declared.token.Kind.{Kind}
use Rattle.fv_lex.specs.declared.token.Kind.TheVariants.{Name, Integer, Text, Sign}
use Rattle.fv_lex.specs.declared.token.Symbol.{Symbol}
use Rattle.fv_lex.specs.declared.refusal.Fault.{Fault}
use Rattle.fv_lex.specs.declared.refusal.Fault.TheVariants.{BadByte, RealLiteral, LiteralTooLarge}
use Rattle.fv_lex.specs.declared.next.Next.TheVariants.{Found, Refused}
use Rattle.fv_lex.specs.headline.Bytes.{is_blank, is_letter, is_digit, is_underscore, is_name_byte, is_quote, is_in_line, begins}
use Rattle.fv_lex.specs.headline.Symbols.{at_byte, singles, double, value}
use Rattle.fv_lex.specs.headline.Pieces.{is_name, is_integer, is_nothing, closes, is_token, IsLongest, BeginsNoToken, is_real_tail, BeginsReal, fraction}
use Rattle.fv_lex.specs.headline.Pieces.{real, begins_comment, ends_line, has_close, IsPiece, blank_byte, line_comment, block_comment}
use Rattle.fv_lex.specs.headline.Pieces.{longest_token, IsFault, unclosed_text, unclosed_comment, real_literal, large_literal, bad_byte}
use Rattle.fv_lex.specs.inner.Steps.{to_quote, to_close, bare_underscores, number_next, slash_next, sign_next, first_next, next_piece}
use Rattle.fv_lex.proofs.lemmas.Runs.{Stops, prefix_len-passes, run_is, list_all_more}
use Rattle.fv_lex.proofs.lemmas.Classes.{digit_range, no_letter, no_blank}
use Rattle.fv_lex.proofs.lemmas.Sound.{real_parts, tail_behind, front_before, integer_all, name_run, name_head, Bare}
use Rattle.fv_base.specs.declared.limits.TheConstants.{GREATEST_LITERAL}

-- ---- the first byte
no_count : (v : Bool) → nat_lt 0 (cond v 0 0) ≡ false
no_count true = refl
no_count false = refl

first_is : (b : ℕ) (bs : List ℕ) → is_underscore b ≡ false → next_piece (b ∷ bs) ≡ first_next b bs
first_is b bs u = let none : nat_lt 0 (bare_underscores (b ∷ bs)) ≡ false = rw u (no_count (is_letter b)) in rw none refl

digit_is : (b : ℕ) (bs : List ℕ) → is_digit b ≡ true → next_piece (b ∷ bs) ≡ number_next (b ∷ bs)
digit_is b bs d =
    let r = digit_range b d in
    let under : is_underscore b ≡ false = ne_eqb b 95 (λ q. omega arith) in
    let blank = no_blank b (omega arith) in
    let letter = no_letter b (omega arith) in
    first_is b bs under ∙ rw (blank, letter, under, d) refl

-- ---- blanks and comments
blank_found : (b : ℕ) (rest : List ℕ) → is_blank b ≡ true → next_piece (b ∷ rest) ≡ Found 1 None
blank_found b rest e =
    let low : b ≤ 32 = grind (arith, nat_tests) in
    let under : is_underscore b ≡ false = ne_eqb b 95 (λ q. omega arith) in
    first_is b rest under ∙ rw e refl

line_stops : (rest : List ℕ) → ends_line rest ≡ true → Stops is_in_line rest
line_stops [] e = tt
line_stops (b ∷ bs) e = rw e refl

line_found : (body rest : List ℕ)
    → list_all is_in_line body ≡ true → ends_line rest ≡ true → next_piece (47 ∷ 47 ∷ (body ++ rest)) ≡ Found (suc (suc (length body))) None
line_found body rest e h =
    let n = run_is is_in_line body rest e (line_stops rest h) in
    let two : 2 + prefix_len is_in_line (body ++ rest) ≡ suc (suc (length body)) = omega arith in
    ap (λ k. Found k None) two

star_ahead : (v : Bool) (body rest : List ℕ)
    → (v && begins (λ c. nat_eq c 47) body) ≡ false → (v && begins (λ c. nat_eq c 47) ((body ++ 42 ∷ 47 ∷ []) ++ rest)) ≡ false
star_ahead false body rest e = refl
star_ahead true [] rest e = refl
star_ahead true (x ∷ body) rest e = e

close_is : (body rest : List ℕ) → has_close body ≡ false → to_close ((body ++ 42 ∷ 47 ∷ []) ++ rest) ≡ Some (length (body ++ 42 ∷ 47 ∷ []))
close_is [] rest e = refl
close_is (b ∷ body) rest e =
    let parts = or_parts (nat_eq b 42 && begins (λ c. nat_eq c 47) body) (has_close body) e in
    rw (star_ahead (nat_eq b 42) body rest parts.0) (ap (option_map suc) (close_is body rest parts.1))

block_found : (body rest : List ℕ)
    → has_close body ≡ false → next_piece (47 ∷ 42 ∷ ((body ++ 42 ∷ 47 ∷ []) ++ rest)) ≡ Found (suc (suc (length (body ++ 42 ∷ 47 ∷ [])))) None
block_found body rest e =
    let two : 2 + length (body ++ 42 ∷ 47 ∷ []) ≡ suc (suc (length (body ++ 42 ∷ 47 ∷ []))) = omega arith in
    rw (close_is body rest e) (ap (λ k. Found k None) two)

-- ---- names
name_all_case : (v : Bool) (b : ℕ) (bs : List ℕ) → is_underscore b ≡ v → (is_name bs ≡ true → list_all is_name_byte bs ≡ true)
    → cond v (is_name bs) (is_letter b && list_all is_name_byte bs) ≡ true → list_all is_name_byte (b ∷ bs) ≡ true
name_all_case true b bs u ih h = rw (eqb-true b 95 u, ih h) refl
name_all_case false b bs u ih h = let both = and_parts (is_letter b) (list_all is_name_byte bs) h in rw (both.0, both.1) refl

name_all : (bytes : List ℕ) → is_name bytes ≡ true → list_all is_name_byte bytes ≡ true
name_all [] e = refl
name_all (b ∷ bs) e = name_all_case (is_underscore b) b bs refl (name_all bs) e

name_more_case : (v : Bool) (b : ℕ) (bs : List ℕ) (c : ℕ) → is_underscore b ≡ v → is_name_byte c ≡ true → (is_name bs ≡ true → is_name (bs ++ c ∷ []) ≡ true)
    → cond v (is_name bs) (is_letter b && list_all is_name_byte bs) ≡ true → is_name (b ∷ (bs ++ c ∷ [])) ≡ true
name_more_case true b bs c u e ih h = rw u (ih h)
name_more_case false b bs c u e ih h =
    let both = and_parts (is_letter b) (list_all is_name_byte bs) h in rw (u, both.0) (list_all_more is_name_byte bs c both.1 e)

name_more : (bytes : List ℕ) (c : ℕ) → is_name_byte c ≡ true → is_name bytes ≡ true → is_name (bytes ++ c ∷ []) ≡ true
name_more [] c e h = absurd cc
name_more (b ∷ bs) c e h = name_more_case (is_underscore b) b bs c refl e (name_more bs c e) h

name_begins_case : (v : Bool) (b : ℕ) (bs rest : List ℕ)
    → is_underscore b ≡ v → (is_name bs ≡ true → begins is_letter (drop (prefix_len is_underscore (bs ++ rest)) (bs ++ rest)) ≡ true)
    → cond v (is_name bs) (is_letter b && list_all is_name_byte bs) ≡ true
    → begins is_letter (drop (prefix_len is_underscore (b ∷ (bs ++ rest))) (b ∷ (bs ++ rest))) ≡ true
name_begins_case true b bs rest u ih h = rw (prefix_len-passes is_underscore b (bs ++ rest) u) (ih h)
name_begins_case false b bs rest u ih h = rw u (and_parts (is_letter b) (list_all is_name_byte bs) h).0

name_begins : (bytes rest : List ℕ) → is_name bytes ≡ true → begins is_letter (drop (prefix_len is_underscore (bytes ++ rest)) (bytes ++ rest)) ≡ true
name_begins [] rest e = absurd cc
name_begins (b ∷ bs) rest e = name_begins_case (is_underscore b) b bs rest refl (name_begins bs rest) e

head_of_case : (v : Bool) (b : ℕ) (bs : List ℕ)
    → is_underscore b ≡ v → cond v (is_name bs) (is_letter b && list_all is_name_byte bs) ≡ true → (is_letter b || is_underscore b) ≡ true
head_of_case true b bs u h = or_right (is_letter b) (is_underscore b) u
head_of_case false b bs u h = or_left (is_letter b) (is_underscore b) (and_parts (is_letter b) (list_all is_name_byte bs) h).0

-- what would make a token longer does not come
stops_from : (p : ℕ → Bool) (rest : List ℕ) → ((c : ℕ) (cs : List ℕ) → rest ≡ c ∷ cs → p c ≡ true → ⊥) → Stops p rest
stops_from p [] never = tt
stops_from p (c ∷ cs) never = go (p c) refl
  where
    go : (v : Bool) → p c ≡ v → p c ≡ false
    go false e = e
    go true e = absurd (never c cs refl e)

name_found : (b : ℕ) (body rest : List ℕ)
    → is_name (b ∷ body) ≡ true → IsLongest (b ∷ body) rest → next_piece (b ∷ (body ++ rest)) ≡ Found (suc (length body)) (Some Name)
name_found b body rest e longest =
    let stops = stops_from is_name_byte rest (λ c cs is byte. let no = longest Name c [] cs is in let yes = name_more (b ∷ body) c byte e in cc) in
    let head = head_of_case (is_underscore b) b body refl e in
    let high = (name_head b head).0 in
    let letter : begins is_letter (drop (prefix_len is_underscore (b ∷ (body ++ rest))) (b ∷ (body ++ rest))) ≡ true = name_begins (b ∷ body) rest e in
    let all = and_parts (is_name_byte b) (list_all is_name_byte body) (name_all (b ∷ body) e) in
    let none : nat_lt 0 (bare_underscores (b ∷ (body ++ rest))) ≡ false = rw letter refl in
    let blank = no_blank b (omega arith) in
    rw (none, blank, head, run_is is_name_byte body rest all.1 stops) refl

-- ---- integers
integer_stops : (bytes rest : List ℕ) → is_integer bytes ≡ true → IsLongest bytes rest → Stops is_digit rest
integer_stops [] rest e longest = absurd cc
integer_stops (b ∷ body) rest e longest =
    stops_from is_digit rest (λ c cs is digit. let no = longest Integer c [] cs is in let yes = list_all_more is_digit (b ∷ body) c e digit in cc)

unreal_tail : (bytes rest : List ℕ) → is_integer bytes ≡ true → (BeginsReal (bytes ++ rest) → ⊥) → is_real_tail rest ≡ false
unreal_tail bytes rest e unreal = go (is_real_tail rest) refl
  where
    go : (v : Bool) → is_real_tail rest ≡ v → is_real_tail rest ≡ false
    go false q = q
    go true q = absurd (unreal (real bytes rest e q))

-- the number of a longest run of digits that is no real literal
number_is : (bytes rest : List ℕ) → is_integer bytes ≡ true → IsLongest bytes rest → (BeginsReal (bytes ++ rest) → ⊥)
    → number_next (bytes ++ rest) ≡ cond (nat_lt GREATEST_LITERAL (value bytes)) (Refused LiteralTooLarge) (Found (length bytes) (Some Integer))
number_is bytes rest e longest unreal =
    let stops = integer_stops bytes rest e longest in
    let tail : is_real_tail (drop (prefix_len is_digit (bytes ++ rest)) (bytes ++ rest)) ≡ false =
    ap is_real_tail (tail_behind bytes rest e stops) ∙ unreal_tail bytes rest e unreal in
    let counted = run_is is_digit bytes rest (integer_all bytes e) stops in
    let front = front_before bytes rest e stops in
    rw (tail, front, counted) refl

integer_next : (bytes rest : List ℕ) → is_integer bytes ≡ true → next_piece (bytes ++ rest) ≡ number_next (bytes ++ rest)
integer_next [] rest e = absurd cc
integer_next (b ∷ bs) rest e = digit_is b (bs ++ rest) (and_parts (is_digit b) (list_all is_digit bs) e).0

-- ---- strings
quote_case : (v : Bool) (b : ℕ) (bs rest : List ℕ) → is_quote b ≡ v → (closes bs ≡ true → to_quote (bs ++ rest) ≡ Some (length bs))
    → cond v (is_nothing bs) (closes bs) ≡ true → to_quote (b ∷ (bs ++ rest)) ≡ Some (suc (length bs))
quote_case true b [] rest q ih h = rw q refl
quote_case true b (c ∷ bs) rest q ih h = absurd cc
quote_case false b bs rest q ih h = rw q (ap (option_map suc) (ih h))

quote_is : (body rest : List ℕ) → closes body ≡ true → to_quote (body ++ rest) ≡ Some (length body)
quote_is [] rest e = absurd cc
quote_is (b ∷ bs) rest e = quote_case (is_quote b) b bs rest refl (quote_is bs rest) e

no_quote_case : (b : ℕ) (bs : List ℕ) → is_quote b ≡ false → to_quote bs ≡ None → to_quote (b ∷ bs) ≡ None
no_quote_case b bs q ih = rw q (ap (option_map suc) ih)

no_quote : (body : List ℕ) → list_all (λ b. not (is_quote b)) body ≡ true → to_quote body ≡ None
no_quote [] e = refl
no_quote (b ∷ bs) e =
    let both = and_parts (not (is_quote b)) (list_all (λ c. not (is_quote c)) bs) e in
    no_quote_case b bs (not-true (is_quote b) both.0) (no_quote bs both.1)

no_close : (body : List ℕ) → has_close body ≡ false → to_close body ≡ None
no_close [] e = refl
no_close (b ∷ bs) e =
    let parts = or_parts (nat_eq b 42 && begins (λ c. nat_eq c 47) bs) (has_close bs) e in
    rw parts.0 (ap (option_map suc) (no_close bs parts.1))

text_found : (b : ℕ) (body rest : List ℕ) → is_token Text (b ∷ body) ≡ true → next_piece (b ∷ (body ++ rest)) ≡ Found (suc (length body)) (Some Text)
text_found b body rest e =
    let both = and_parts (is_quote b) (closes body) e in
    let one : 1 + length body ≡ suc (length body) = omega arith in
    subst (λ k. next_piece (k ∷ (body ++ rest)) ≡ Found (suc (length body)) (Some Text))
    (sym (eqb-true b 34 both.0)) (rw (quote_is body rest both.1) (ap (λ k. Found k (Some Text)) one))

-- ---- signs
-- a byte that begins no blank, name, number or string
abbrev is_plain : ℕ → Bool
is_plain b = not (is_blank b) && (not (is_letter b) && (not (is_digit b) && not (is_quote b)))

passes_case : (p : ℕ → Bool) (v : Bool) (b k : ℕ) (symbol : Symbol) (found : Option Symbol)
    → nat_eq b k ≡ v → p k ≡ true → (is_some found ≡ true → p b ≡ true) → is_some (cond v (Some symbol) found) ≡ true → p b ≡ true
passes_case p true b k symbol found q e ih h = ap p (eqb-true b k q) ∙ e
passes_case p false b k symbol found q e ih h = ih h

-- what every byte of a table passes, a byte that is found there passes
at_byte_passes : (p : ℕ → Bool) (table : List (ℕ × Symbol)) (b : ℕ) → list_all (λ e. p e.0) table ≡ true → is_some (at_byte table b) ≡ true → p b ≡ true
at_byte_passes p [] b all some = absurd cc
at_byte_passes p (e ∷ es) b all some =
    let parts = and_parts (p e.0) (list_all (λ q. p q.0) es) all in
    passes_case p (nat_eq b e.0) b e.0 e.1 (at_byte es b) refl parts.0 (at_byte_passes p es b parts.1) some

-- a byte that begins a sign, and no `_`, comment or real literal
plain_bare : (b : ℕ) (bs : List ℕ) → is_plain b ≡ true → is_underscore b ≡ false → nat_eq b 47 ≡ false → (nat_eq b 46 && begins is_digit bs) ≡ false → Bare b bs
plain_bare b bs e u slash dot =
    let first = and_parts (not (is_blank b)) (not (is_letter b) && (not (is_digit b) && not (is_quote b))) e in
    let second = and_parts (not (is_letter b)) (not (is_digit b) && not (is_quote b)) first.1 in
    let third = and_parts (not (is_digit b)) (not (is_quote b)) second.1 in
    record {
      blank = not-true (is_blank b) first.0;
      letter = not-true (is_letter b) second.0;
      underscore = u;
      digit = not-true (is_digit b) third.0;
      quote = not-true (is_quote b) third.1;
      slash = slash;
      dot = dot;
    }

bare_next : (b : ℕ) (bs : List ℕ) → Bare b bs → next_piece (b ∷ bs) ≡ sign_next b bs
bare_next b bs h = first_is b bs h.underscore ∙ rw (h.blank, h.letter, h.underscore, h.digit, h.quote, h.slash, h.dot) refl

double_bare : (b c : ℕ) (bs : List ℕ) → is_some (double b c) ≡ true → Bare b bs
double_bare b c bs e =
    let Q : Option Symbol → Type 0 = λ o. is_some o ≡ true → Bare b bs in
    let known : (k : ℕ) → is_plain k ≡ true → is_underscore k ≡ false → nat_eq k 47 ≡ false → nat_eq k 46 ≡ false → nat_eq b k ≡ true → Bare b bs =
    λ k plain u slash dot is. subst (λ j. Bare j bs) (sym (eqb-true b k is)) (plain_bare k bs plain u slash (rw dot refl)) in
    cond_both (nat_eq b 60) _ _ Q (λ is _. known 60 refl refl refl refl is)
    (λ _. cond_both (nat_eq b 62) _ _ Q (λ is _. known 62 refl refl refl refl is)
    (λ _. cond_both (nat_eq b 61) _ _ Q (λ is _. known 61 refl refl refl refl is)
    (λ _. cond_both (nat_eq b 58) _ _ Q (λ is _. known 58 refl refl refl refl is)
    (λ _. cond_both (nat_eq b 33) _ _ Q (λ is _. known 33 refl refl refl refl is)
    (λ _ h. absurd cc))))) e

-- `_` alone is a longest token only where no letter follows its run
wire_found : (rest : List ℕ) → IsLongest (95 ∷ []) rest → next_piece (95 ∷ rest) ≡ Found 1 (Some Sign)
wire_found rest longest = go (begins is_letter (drop (prefix_len is_underscore rest) rest)) refl
  where
    longer : (front tail : List ℕ) → rest ≡ front ++ tail → is_name (95 ∷ front) ≡ true → ⊥
    longer [] tail e name = cc
    longer (c ∷ more) tail e name = let never = longest Name c more tail e in cc

    go : (v : Bool) → begins is_letter (drop (prefix_len is_underscore rest) rest) ≡ v → next_piece (95 ∷ rest) ≡ Found 1 (Some Sign)
    go true e =
        absurd (longer (take (prefix_len is_name_byte rest) rest)
        (drop (prefix_len is_name_byte rest) rest) (sym (take-append-drop (prefix_len is_name_byte rest) rest))
        (subst (λ n. is_name (take n (95 ∷ rest)) ≡ true) (prefix_len-passes is_name_byte 95 rest refl)
        (name_run (95 ∷ rest) (subst (λ n. begins is_letter (drop n (95 ∷ rest)) ≡ true) (sym (prefix_len-passes is_underscore 95 rest refl)) e))))
    go false e =
        let some : nat_lt 0 (suc (prefix_len is_underscore rest)) ≡ true = lt-ltb 0 (suc (prefix_len is_underscore rest)) (omega arith) in
        rw (prefix_len-passes is_underscore 95 rest refl, e, some) refl

slash_found : (rest : List ℕ) → begins_comment (47 ∷ rest) ≡ false → slash_next rest ≡ Found 1 (Some Sign)
slash_found [] e = refl
slash_found (c ∷ cs) e = let parts = or_parts (nat_eq c 47) (nat_eq c 42) e in rw (parts.0, parts.1) refl

single_next : (b : ℕ) (rest : List ℕ) → is_some (at_byte singles b) ≡ true → IsLongest (b ∷ []) rest → sign_next b rest ≡ Found 1 (Some Sign)
single_next b [] e longest = rw e refl
single_next b (c ∷ cs) e longest = let never : is_some (double b c) ≡ false = longest Sign c [] cs refl in rw (never, e) refl

no_fraction : (b : ℕ) (rest : List ℕ) → (BeginsReal (b ∷ rest) → ⊥) → (nat_eq b 46 && begins is_digit rest) ≡ false
no_fraction b [] unreal = go (nat_eq b 46)
  where
    go : (v : Bool) → (v && false) ≡ false
    go true = refl
    go false = refl
no_fraction b (d ∷ ds) unreal = go (nat_eq b 46) (is_digit d) refl refl
  where
    go : (v w : Bool) → nat_eq b 46 ≡ v → is_digit d ≡ w → (v && w) ≡ false
    go false w e f = refl
    go true false e f = refl
    go true true e f = absurd (unreal (subst (λ k. BeginsReal (k ∷ d ∷ ds)) (sym (eqb-true b 46 e)) (fraction f)))

single_found : (b : ℕ) (rest : List ℕ) → is_some (at_byte singles b) ≡ true
    → IsLongest (b ∷ []) rest → begins_comment (b ∷ rest) ≡ false → (BeginsReal (b ∷ rest) → ⊥) → next_piece (b ∷ rest) ≡ Found 1 (Some Sign)
single_found b rest e longest comment unreal = go (is_underscore b) (nat_eq b 47) refl refl
  where
    plain : is_plain b ≡ true
    plain = at_byte_passes is_plain singles b refl e

    goal : ℕ → Type 0
    goal k = next_piece (k ∷ rest) ≡ Found 1 (Some Sign)

    go : (v w : Bool) → is_underscore b ≡ v → nat_eq b 47 ≡ w → next_piece (b ∷ rest) ≡ Found 1 (Some Sign)
    go true w u slash =
        let is = eqb-true b 95 u in
        subst (λ k. next_piece (k ∷ rest) ≡ Found 1 (Some Sign)) (sym is) (wire_found rest (subst (λ k. IsLongest (k ∷ []) rest) is longest))
    go false true u slash =
        let is = eqb-true b 47 slash in
        subst (λ k. next_piece (k ∷ rest) ≡ Found 1 (Some Sign)) (sym is) (slash_found rest (subst (λ k. begins_comment (k ∷ rest) ≡ false) is comment))
    go false false u slash = bare_next b rest (plain_bare b rest plain u slash (no_fraction b rest unreal)) ∙ single_next b rest e longest

double_found : (b c : ℕ) (rest : List ℕ) → is_some (double b c) ≡ true → next_piece (b ∷ c ∷ rest) ≡ Found 2 (Some Sign)
double_found b c rest e = bare_next b (c ∷ rest) (double_bare b c (c ∷ rest) e) ∙ rw e refl

-- ---- all tokens, and all pieces
token_found : (kind : Kind) (bytes rest : List ℕ) → is_token kind bytes ≡ true
    → IsLongest bytes rest → begins_comment (bytes ++ rest) ≡ false → (BeginsReal (bytes ++ rest) → ⊥) → (kind ≡ Integer → value bytes ≤ GREATEST_LITERAL)
    → next_piece (bytes ++ rest) ≡ Found (length bytes) (Some kind)
token_found Name [] rest e longest comment unreal small = absurd cc
token_found Name (b ∷ body) rest e longest comment unreal small = name_found b body rest e longest
token_found Integer bytes rest e longest comment unreal small =
    let fits : nat_lt GREATEST_LITERAL (value bytes) ≡ false = le-ltb GREATEST_LITERAL (value bytes) (small refl) in
    integer_next bytes rest e ∙ number_is bytes rest e longest unreal ∙ rw fits refl
token_found Text [] rest e longest comment unreal small = absurd cc
token_found Text (b ∷ body) rest e longest comment unreal small = text_found b body rest e
token_found Sign [] rest e longest comment unreal small = absurd cc
token_found Sign (b ∷ []) rest e longest comment unreal small = single_found b rest e longest comment unreal
token_found Sign (b ∷ c ∷ []) rest e longest comment unreal small = double_found b c rest e
token_found Sign (b ∷ c ∷ d ∷ bytes) rest e longest comment unreal small = absurd cc

pub piece_found : (bytes rest : List ℕ) (kind : Option Kind) → IsPiece bytes rest kind → next_piece (bytes ++ rest) ≡ Found (length bytes) kind
piece_found bytes rest kind (blank_byte {b} e) = blank_found b rest e
piece_found bytes rest kind (line_comment {body} e h) = line_found body rest e h
piece_found bytes rest kind (block_comment body e) = block_found body rest e
piece_found bytes rest kind (longest_token {kind = k} e longest comment unreal small) = token_found k bytes rest e longest comment unreal small

-- ---- faults
real_refused : (text : List ℕ) → BeginsReal text → next_piece text ≡ Refused RealLiteral
real_refused text h = go (real_parts text h)
  where
    digits : (t : List ℕ) → begins is_digit t ≡ true → is_real_tail (drop (prefix_len is_digit t) t) ≡ true → next_piece t ≡ Refused RealLiteral
    digits [] d e = absurd cc
    digits (b ∷ bs) d e = digit_is b bs d ∙ rw e refl

    go : (((d : ℕ) × (rest : List ℕ) × (text ≡ 46 ∷ d ∷ rest) × (is_digit d ≡ true))
        ⊎ ((begins is_digit text ≡ true) × (is_real_tail (drop (prefix_len is_digit text) text) ≡ true))) → next_piece text ≡ Refused RealLiteral
    go (inl (d, rest, is, digit)) = subst (λ t. next_piece t ≡ Refused RealLiteral) (sym is) (rw digit refl)
    go (inr (d, e)) = digits text d e

-- what is no token begins no token of one byte
not_one : (b : ℕ) (bs : List ℕ) (kind : Kind) → BeginsNoToken (b ∷ bs) → is_token kind (b ∷ []) ≡ false
not_one b bs kind none = none kind (b ∷ []) bs refl

bad_bare : (b : ℕ) (bs : List ℕ) → is_blank b ≡ false → is_quote b ≡ false → BeginsNoToken (b ∷ bs) → Bare b bs
bad_bare b bs blank quote none =
    let single : is_some (at_byte singles b) ≡ false = not_one b bs Sign none in
    let name : is_name (b ∷ []) ≡ false = not_one b bs Name none in
    let digit : (is_digit b && true) ≡ false = not_one b bs Integer none in
    let differs : (k : ℕ) → is_some (at_byte singles k) ≡ true → nat_eq b k ≡ false =
    λ k yes. ne_eqb b k (λ is. let same : is_some (at_byte singles b) ≡ true = rw is yes in cc) in
    let under : is_underscore b ≡ false = differs 95 refl in
    let letter : (is_letter b && true) ≡ false = rw under at name in
    record {
      blank = blank;
      letter = left_false (is_letter b) letter;
      underscore = under;
      digit = left_false (is_digit b) digit;
      quote = quote;
      slash = differs 47 refl;
      dot = rw (differs 46 refl) refl;
    }
  where
    left_false : (v : Bool) → (v && true) ≡ false → v ≡ false
    left_false true e = e
    left_false false e = refl

bad_next : (b : ℕ) (bs : List ℕ) → BeginsNoToken (b ∷ bs) → sign_next b bs ≡ Refused BadByte
bad_next b [] none = let single : is_some (at_byte singles b) ≡ false = not_one b [] Sign none in rw single refl
bad_next b (c ∷ cs) none =
    let single : is_some (at_byte singles b) ≡ false = not_one b (c ∷ cs) Sign none in
    let two : is_some (double b c) ≡ false = none Sign (b ∷ c ∷ []) cs refl in
    rw (two, single) refl

pub fault_refused : (text : List ℕ) (fault : Fault) → IsFault text fault → next_piece text ≡ Refused fault
fault_refused text fault (unclosed_text {body} e) = rw (no_quote body e) refl
fault_refused text fault (unclosed_comment {body} e) = rw (no_close body e) refl
fault_refused text fault (real_literal h) = real_refused text h
fault_refused text fault (large_literal bytes rest e longest unreal large) =
    let over : nat_lt GREATEST_LITERAL (value bytes) ≡ true = lt-ltb GREATEST_LITERAL (value bytes) large in
    integer_next bytes rest e ∙ number_is bytes rest e longest unreal ∙ rw over refl
fault_refused text fault (bad_byte {b} {bs} blank quote none) = bare_next b bs (bad_bare b bs blank quote none) ∙ bad_next b bs none
