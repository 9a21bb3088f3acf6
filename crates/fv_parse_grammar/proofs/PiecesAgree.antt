-- Single tokens, names, and what stands in brackets, in two lists that are the same up to and with a token.
use Rattle.fv_parse_grammar.specs.Symbol.TheVariants.{Integer}
use Rattle.fv_parse_grammar.specs.Symbol.TheVariants as symbols
use Rattle.fv_parse_grammar.specs.declared.form.Literal.{Literal}
use Rattle.fv_parse_grammar.specs.declared.form.Literal.TheVariants as literal
use Rattle.fv_parse_grammar.specs.Descent.{◌>>=◌, a_value, a_literal, literal_list}
use Rattle.std.proofs.Common.{◌≡◌, ℕ, zero, suc, ◌≤◌, ◌<◌, Bool, true, false, cond, List, [], ◌∷◌, length, drop, Ok, Err, refl, sym, subst, ap, ◌∙◌, arith}
use Rattle.fv_parse_grammar.specs.Symbol.{Symbol}
use Rattle.fv_parse_grammar.specs.Symbol.TheVariants.{Name, Text, Comma}
use Rattle.fv_parse_grammar.specs.declared.symbol.Mark.{Mark}
use Rattle.fv_parse_grammar.specs.declared.symbol.Mark.TheVariants as marks
use Rattle.fv_parse_grammar.specs.Symbols.{is_mark}
use Rattle.fv_parse_grammar.specs.inner.Symbols.{sign}
use Rattle.fv_parse_grammar.proofs.lemmas.Tokens.{is_mark_sign}
use Rattle.fv_parse_grammar.specs.declared.symbol.Inside.{Inside}
use Rattle.fv_parse_grammar.specs.declared.symbol.Inside.TheVariants as insides
use Rattle.fv_parse_grammar.specs.Descent.{Step, Reader, expect, a_name, a_text, at_comma, all_separated, name_list, enclosed, argument, label}
use Rattle.fv_parse_grammar.proofs.lemmas.Loops.{separated_step, separated_end, separated_stop, with_first}
use Rattle.fv_parse_grammar.proofs.Agreement.{Fork, Same, remains, BothPass, BothRead, also, given, halted, Looks, takes, stays_at, looked}
use Rattle.fv_parse_grammar.proofs.Agreement.{looked_among, opens, opens_brace, closes, closes_brace, no_bracket, AgreesInside, of_test, of_equal}

-- ---- single tokens
-- what a mark does to the depth of brackets
pub data Deepens : Mark → ℕ → ℕ → Type 0 where
  by_open : {d : ℕ} → Deepens marks.Open d (suc d)
  by_close : {d : ℕ} → Deepens marks.Close (suc d) d
  by_open_brace : {d : ℕ} → Deepens marks.OpenBrace d (suc d)
  by_close_brace : {d : ℕ} → Deepens marks.CloseBrace (suc d) d
  by_comma : {d : ℕ} → Deepens marks.Comma d d
  by_equals : {d : ℕ} → Deepens marks.Equals d d
  by_arrow : {d : ℕ} → Deepens marks.Arrow d d
  by_semicolon : {d : ℕ} → Deepens marks.Semicolon d d
  by_dot : {d : ℕ} → Deepens marks.Dot d d

sign_look : {k : Fork} {m : Mark} {d e : ℕ} → Deepens m d e → (ts us : List Symbol) → Looks k d e (λ rest. rest) (sign m) ts us (Ok ts) (Ok us)
sign_look by_open ts us = takes _ opens given
sign_look by_close ts us = takes _ closes given
sign_look by_open_brace ts us = takes _ opens_brace given
sign_look by_close_brace ts us = takes _ closes_brace given
sign_look by_comma ts us = takes _ (no_bracket (λ p n. n)) given
sign_look by_equals ts us = takes _ (no_bracket (λ p n. n)) given
sign_look by_arrow ts us = takes _ (no_bracket (λ p n. n)) given
sign_look by_semicolon ts us = takes _ (no_bracket (λ p n. n)) given
sign_look by_dot ts us = takes _ (no_bracket (λ p n. n)) given

expect_look : {k : Fork} (m : Mark) {d e : ℕ}
    → Deepens m d e → (t : Symbol) (ts us : List Symbol) → Looks k d e (λ rest. rest) t ts us (expect m (t ∷ ts)) (expect m (t ∷ us))
expect_look {k = k} m {d = d} {e = e} deepens t ts us = go (is_mark m t) refl
  where
    go : (b : Bool) → is_mark m t ≡ b → Looks k d e (λ rest. rest) t ts us (cond b (Ok ts) (Err (t ∷ ts))) (cond b (Ok us) (Err (t ∷ us)))
    go true is = subst (λ s. Looks k d e (λ rest. rest) s ts us (Ok ts) (Ok us)) (sym (is_mark_sign m t is)) (sign_look deepens ts us)
    go false is = stays_at halted

pub expect_both : {k : Fork} {m : Mark} {d e : ℕ} {ts us : List Symbol} → Deepens m d e → Same k d ts us → BothPass k e ts (expect m ts) (expect m us)
expect_both {m = m} deepens same = looked (expect m) (expect m) refl (expect_look m deepens) same

a_name_look : {k : Fork} {d : ℕ} (t : Symbol) (ts us : List Symbol) → Looks k d d (λ x. x.1) t ts us (a_name (t ∷ ts)) (a_name (t ∷ us))
a_name_look (Name n) ts us = takes _ (no_bracket (λ p n. n)) given
a_name_look t ts us = stays_at halted

pub a_name_both : {k : Fork} {d : ℕ} {ts us : List Symbol} → Same k d ts us → BothRead k d ts (a_name ts) (a_name us)
a_name_both same = looked a_name a_name refl a_name_look same

a_text_look : {k : Fork} {d : ℕ} (t : Symbol) (ts us : List Symbol) → Looks k d d (λ x. x.1) t ts us (a_text (t ∷ ts)) (a_text (t ∷ us))
a_text_look (Text n) ts us = takes _ (no_bracket (λ p n. n)) given
a_text_look t ts us = stays_at halted

pub a_text_both : {k : Fork} {d : ℕ} {ts us : List Symbol} → Same k d ts us → BothRead k d ts (a_text ts) (a_text us)
a_text_both same = looked a_text a_text refl a_text_look same

-- "(" string ","
pub label_both : {k : Fork} {d : ℕ} {ts us : List Symbol} → Same k d ts us → BothRead k (suc d) ts (label ts) (label us)
unfolding label
label_both same =
    also (expect_both by_open same) (λ opened opened' s. also (a_text_both s) (λ text text' s. also (expect_both by_comma s) (λ rest rest' s. given s)))

-- ---- what commas separate
pub drop_fewer : (ts : List Symbol) → length (drop 1 ts) ≤ length ts
drop_fewer [] = omega arith
drop_fewer (t ∷ ts) = omega arith

module _ {A : Type 0} (item : List Symbol → Step A) where
  -- what follows an item
  abbrev pub behind_item : A → List Symbol → Step (List A)
  behind_item x ts = cond (at_comma ts) (with_first x (all_separated item (drop 1 ts))) (Ok (x ∷ [], ts))

  -- an item, as it is read, and then what follows it
  pub item_law : (x : A) (all ts : List Symbol) → item all ≡ Ok (x, ts) → length ts < length all → all_separated item all ≡ behind_item x ts
  item_law x all ts e fewer = of_test (at_comma ts)
      (λ on. let f = drop_fewer ts in separated_step item all x ts e on (omega arith) ∙ rw on refl)
      (λ off. separated_end item all x ts e off ∙ rw off refl)

  -- in lists of fewer than n tokens
  abbrev pub SeparatedAgree : Fork → ℕ → ℕ → Type 0
  SeparatedAgree k d n = (ts us : List Symbol) → length ts < n → Same k d ts us → BothRead k d ts (all_separated item ts) (all_separated item us)

  behind_look : {k : Fork} {d : ℕ} (n : ℕ) (x : A) → SeparatedAgree k d n
      → (t : Symbol) (ts us : List Symbol) → length (t ∷ ts) ≤ n → Looks k d d (λ y. y.1) t ts us (behind_item x (t ∷ ts)) (behind_item x (t ∷ us))
  behind_look n x go Comma ts us few = takes _ (no_bracket (λ p n. n)) (λ s. also (go _ _ (omega arith) s) (λ y z s. given s))
  behind_look n x go t ts us few = stays_at given

  pub behind_both : {k : Fork} {d : ℕ} (n : ℕ) (x : A) → SeparatedAgree k d n
      → {ts us : List Symbol} → length ts ≤ n → Same k d ts us → BothRead k d ts (behind_item x ts) (behind_item x us)
  behind_both n x go few s = looked_among n (behind_item x) (behind_item x) refl (behind_look n x go) few s

  -- by the first token of an item
  pub separated_among : (k : Fork) (d : ℕ) → item [] ≡ Err []
      → ((n : ℕ) → SeparatedAgree k d n → (t : Symbol) (ts us : List Symbol) → length (t ∷ ts) ≤ n
      → Looks k d d (λ x. x.1) t ts us (all_separated item (t ∷ ts)) (all_separated item (t ∷ us)))
      → (n : ℕ) → SeparatedAgree k d n
  separated_among k d none look zero ts us few same = absurd (omega arith)
  separated_among k d none look (suc n) ts us few same =
      looked_among n (all_separated item) (all_separated item) (ap (λ r. remains (λ x. x.1) r) (separated_stop item [] [] none))
      (look n (separated_among k d none look n)) (omega arith) same

names_look : {k : Fork} {d : ℕ} (n : ℕ) → SeparatedAgree a_name k d n
    → (t : Symbol) (ts us : List Symbol) → length (t ∷ ts) ≤ n → Looks k d d (λ x. x.1) t ts us (name_list (t ∷ ts)) (name_list (t ∷ us))
names_look n go (Name m) ts us few =
    takes _ (no_bracket (λ p n. n))
    (λ s. of_equal (item_law a_name m (Name m ∷ ts) ts refl (omega arith)) (item_law a_name m (Name m ∷ us) us refl (omega arith))
    (behind_both a_name n m go (omega arith) s))
names_look n go t ts us few =
    stays_at (λ s. of_equal (separated_stop a_name (t ∷ ts) (t ∷ ts) refl) (separated_stop a_name (t ∷ us) (t ∷ us) refl) (halted s))

pub name_list_both : {k : Fork} {d : ℕ} {ts us : List Symbol} → Same k d ts us → BothRead k d ts (name_list ts) (name_list us)
name_list_both {k} {d} {ts = ts} same = separated_among a_name k d refl names_look (suc (length ts)) _ _ (omega arith) same

-- ---- numbers
-- after a sign
abbrev behind_sign : (ℕ → Literal) → List Symbol → Step (List Literal)
behind_sign f (Integer n ∷ ts) = behind_item a_literal (f n) ts
behind_sign f ts = Err ts

sign_law : (t : Symbol) (f : ℕ → Literal) → ((ts : List Symbol) → a_literal (t ∷ ts) ≡ (a_value ts >>= λ n. Ok (f n.0, n.1)))
    → (ts : List Symbol) → literal_list (t ∷ ts) ≡ behind_sign f ts
sign_law t f is (Integer n ∷ ts) = item_law a_literal (f n) (t ∷ Integer n ∷ ts) ts (is (Integer n ∷ ts)) (omega arith)
sign_law t f is [] = separated_stop a_literal (t ∷ []) [] (is [])
sign_law t f is (u ∷ ts) = separated_stop a_literal (t ∷ u ∷ ts) (u ∷ ts) (is (u ∷ ts))

behind_sign_look : {k : Fork} {d : ℕ} (n : ℕ) (f : ℕ → Literal) → SeparatedAgree a_literal k d n
    → (t : Symbol) (ts us : List Symbol) → length (t ∷ ts) ≤ n → Looks k d d (λ x. x.1) t ts us (behind_sign f (t ∷ ts)) (behind_sign f (t ∷ us))
behind_sign_look n f go (Integer m) ts us few = takes _ (no_bracket (λ p n. n)) (λ s. behind_both a_literal n (f m) go (omega arith) s)
behind_sign_look n f go t ts us few = stays_at halted

behind_sign_both : {k : Fork} {d : ℕ} (t : Symbol) (f : ℕ → Literal) → ((ts : List Symbol) → a_literal (t ∷ ts) ≡ (a_value ts >>= λ n. Ok (f n.0, n.1)))
    → (n : ℕ) → SeparatedAgree a_literal k d n → (ts us : List Symbol) → length ts ≤ n → Same k d ts us
    → BothRead k d ts (literal_list (t ∷ ts)) (literal_list (t ∷ us))
behind_sign_both t f is n go ts us few s = of_equal (sign_law t f is ts) (sign_law t f is us)
    (looked_among n (behind_sign f) (behind_sign f) refl (behind_sign_look n f go) few s)

literals_look : {k : Fork} {d : ℕ} (n : ℕ) → SeparatedAgree a_literal k d n
    → (t : Symbol) (ts us : List Symbol) → length (t ∷ ts) ≤ n → Looks k d d (λ x. x.1) t ts us (literal_list (t ∷ ts)) (literal_list (t ∷ us))
literals_look n go (Integer m) ts us few =
    takes _ (no_bracket (λ p n. n))
    (λ s. of_equal (item_law a_literal (literal.Plain m) (Integer m ∷ ts) ts refl (omega arith))
    (item_law a_literal (literal.Plain m) (Integer m ∷ us) us refl (omega arith))
    (behind_both a_literal n (literal.Plain m) go (omega arith) s))
literals_look n go symbols.Plus ts us few =
    takes _ (no_bracket (λ p n. n)) (λ s. behind_sign_both symbols.Plus (λ m. literal.Plain m) (λ l. refl) n go ts us (omega arith) s)
literals_look n go symbols.Minus ts us few =
    takes _ (no_bracket (λ p n. n)) (λ s. behind_sign_both symbols.Minus (λ m. literal.Negative m) (λ l. refl) n go ts us (omega arith) s)
literals_look n go t ts us few =
    stays_at (λ s. of_equal (separated_stop a_literal (t ∷ ts) (t ∷ ts) refl) (separated_stop a_literal (t ∷ us) (t ∷ us) refl) (halted s))

pub literal_list_both : {k : Fork} {d : ℕ} {ts us : List Symbol} → Same k d ts us → BothRead k d ts (literal_list ts) (literal_list us)
literal_list_both {k} {d} {ts = ts} same = separated_among a_literal k d refl literals_look (suc (length ts)) _ _ (omega arith) same

-- ---- in brackets
module _ {k : Fork} {d : ℕ} {inner inner' : Reader} (inside : AgreesInside k (suc d) inner inner') where
  pub enclosed_both : (what : Inside) {ts us : List Symbol} → Same k (suc d) ts us → BothRead k d ts (enclosed inner what ts) (enclosed inner' what us)
  enclosed_both what same = also (inside.agree what same) (λ x y s. also (expect_both by_close s) (λ rest rest' s. given s))

  pub argument_both : {ts us : List Symbol} → Same k (suc d) ts us → BothRead k (suc d) ts (argument inner ts) (argument inner' us)
  argument_both same = also (inside.agree insides.Argument same) (λ x y s. also (expect_both by_comma s) (λ rest rest' s. given s))
