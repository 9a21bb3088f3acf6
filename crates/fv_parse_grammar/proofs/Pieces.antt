-- Single tokens, names, and what stands in brackets.
use Rattle.std.proofs.Common.{◌≡◌, ℕ, zero, suc, Bool, true, false, cond, List, [], ◌∷◌, length, drop, Ok, Err, refl, sym, subst}
use Rattle.std.specs.Prelude.{nat_lt}
use Rattle.fv_parse_grammar.specs.Symbol.{Symbol}
use Rattle.fv_parse_grammar.specs.Symbol.TheVariants.{Name, Text, Comma, Open, Close}
use Rattle.fv_parse_grammar.specs.declared.symbol.Mark.{Mark}
use Rattle.fv_parse_grammar.specs.declared.symbol.Mark.TheVariants as marks
use Rattle.fv_parse_grammar.specs.Symbols.{is_mark}
use Rattle.fv_parse_grammar.specs.inner.Symbols.{sign}
use Rattle.fv_parse_grammar.proofs.lemmas.Tokens.{is_mark_sign}
use Rattle.fv_parse_grammar.specs.declared.symbol.Inside.{Inside}
use Rattle.fv_parse_grammar.specs.declared.symbol.Inside.TheVariants as insides
use Rattle.fv_parse_grammar.specs.Symbol.TheVariants.{Integer}
use Rattle.fv_parse_grammar.specs.Symbol.TheVariants as symbols
use Rattle.fv_parse_grammar.specs.declared.form.Literal.{Literal}
use Rattle.fv_parse_grammar.specs.declared.form.Literal.TheVariants as literal
use Rattle.fv_parse_grammar.specs.headline.Grammar.{SpellsNumber, unsigned, with_plus, with_minus, one_number, more_numbers, one_name, more_names}
use Rattle.fv_parse_grammar.specs.Descent.{◌>>=◌, a_value, a_literal, literal_list}
use Rattle.fv_parse_grammar.proofs.Plans.{stuck, counted, CountedAll, counted_all, ALiteral, LiteralList}
use Rattle.fv_parse_grammar.specs.Descent.{Step, Reader, expect, a_name, a_text, at_comma, separated, name_list, enclosed, argument, label}
use Rattle.fv_parse_grammar.proofs.Plans.{Plan, called, worded, CalledAll, called_all, both, this, that, nought, signed, Nothing, Sign, AName, AText, NameList}
use Rattle.fv_parse_grammar.proofs.Plans.{Inner, Then, Or, Spans, Takes, took, behind, next, made, done, as_plan, unread, one_taken, by_test, Passes, Reads}

-- ---- single tokens
pub expect_passes : (m : Mark) (ts : List Symbol) → Passes (Sign (sign m)) ts (expect m ts)
expect_passes m [] = unread (Sign (sign m))
expect_passes m (t ∷ ts) = go (is_mark m t) refl
  where
    go : (b : Bool) → is_mark m t ≡ b → Passes (Sign (sign m)) (t ∷ ts) (cond b (Ok ts) (Err (t ∷ ts)))
    go true is = subst (λ s. Passes (Sign (sign m)) (s ∷ ts) (Ok ts)) (sym (is_mark_sign m t is)) (took (one_taken (sign m) ts))
    go false is = unread (Sign (sign m))

name_taken : (n : ℕ) (ts : List Symbol) → Takes (Spans AName) (Name n ∷ ts) ts
name_taken n ts = record { used = Name n ∷ []; whole = refl; spans = λ tail. called }

text_taken : (n : ℕ) (ts : List Symbol) → Takes (Spans AText) (Text n ∷ ts) ts
text_taken n ts = record { used = Text n ∷ []; whole = refl; spans = λ tail. worded }

pub a_name_reads : (ts : List Symbol) → Reads AName ts (a_name ts)
a_name_reads (Name n ∷ ts) = took (name_taken n ts)
a_name_reads [] = unread AName
a_name_reads (t ∷ ts) = unread AName

pub a_text_reads : (ts : List Symbol) → Reads AText ts (a_text ts)
a_text_reads (Text n ∷ ts) = took (text_taken n ts)
a_text_reads [] = unread AText
a_text_reads (t ∷ ts) = unread AText

-- "(" string ","
pub label_reads : (ts : List Symbol) → Reads (Then (Sign Open) (Then AText (Sign Comma))) ts (label ts)
unfolding label
label_reads ts = next (expect_passes marks.Open ts) (λ opened. next (a_text_reads opened) (λ text. made (expect_passes marks.Comma text.1) (λ rest. done)))

-- ---- what commas separate
-- a token that stands there
pub comma_taken : (ts : List Symbol) → at_comma ts ≡ true → Takes (Spans (Sign Comma)) ts (drop 1 ts)
comma_taken (Comma ∷ ts) e = one_taken Comma ts
comma_taken [] e = absurd cc
comma_taken (t ∷ ts) e = absurd cc

-- after an item: a comma and others, or nothing
abbrev Others : Plan → Plan
Others all = Or (Then (Sign Comma) all) Nothing

-- the plan of an item, and that of all
module _ {A : Type 0} (item : List Symbol → Step A) (one all : Plan) (reads : (ts : List Symbol) → Reads one ts (item ts))
    (are : (a b : List Symbol) → Spans (Then one (Others all)) a b → Spans all a b) where
  pub separated_reads : (k : ℕ) (ts : List Symbol) → Reads all ts (separated item k ts)
  unfolding separated
  separated_reads zero ts = unread all
  separated_reads (suc k) ts = by_test (nat_lt (length ts) k)
      (λ _. separated_reads k ts)
      (λ _. as_plan all (next (reads ts) (λ x. by_test (at_comma x.1)
      (λ on. as_plan (Others all)
      (made (behind (Sign Comma) (comma_taken x.1 on) (separated_reads k (drop 1 x.1))) (λ xs. done)) (λ a b s. this s))
      (λ off. as_plan (Others all) done (λ a b s. that s)))) are)

are_names : (a b : List Symbol) → Spans (Then AName (Others NameList)) a b → CalledAll a b
are_names a b (both called (this (both signed (called_all s)))) = called_all (more_names s)
are_names a b (both called (that nought)) = called_all one_name

pub name_list_reads : (ts : List Symbol) → Reads NameList ts (name_list ts)
name_list_reads ts = separated_reads a_name AName NameList a_name_reads are_names (suc (length ts)) ts

-- ---- numbers
-- a number after a sign
signed_reads : (t : Symbol) (f : ℕ → Literal) → ((n : ℕ) (tail : List Symbol) → SpellsNumber (t ∷ Integer n ∷ tail) (f n) tail)
    → (ts : List Symbol) → Reads ALiteral (t ∷ ts) (a_value ts >>= λ n. Ok (f n.0, n.1))
signed_reads t f s (Integer n ∷ ts) = took (record { used = t ∷ Integer n ∷ []; whole = refl; spans = λ tail. counted (s n tail) })
signed_reads t f s [] = stuck (record { used = t ∷ []; whole = refl; completed = λ tail. (Integer 0 ∷ tail, counted (s 0 tail)) })
signed_reads t f s (u ∷ ts) = stuck (record { used = t ∷ []; whole = refl; completed = λ tail. (Integer 0 ∷ tail, counted (s 0 tail)) })

a_literal_reads : (ts : List Symbol) → Reads ALiteral ts (a_literal ts)
a_literal_reads (Integer n ∷ ts) = took (record { used = Integer n ∷ []; whole = refl; spans = λ tail. counted unsigned })
a_literal_reads (symbols.Plus ∷ ts) = signed_reads symbols.Plus (λ n. literal.Plain n) (λ n tail. with_plus) ts
a_literal_reads (symbols.Minus ∷ ts) = signed_reads symbols.Minus (λ n. literal.Negative n) (λ n tail. with_minus) ts
a_literal_reads [] = unread ALiteral
a_literal_reads (t ∷ ts) = unread ALiteral

are_literals : (a b : List Symbol) → Spans (Then ALiteral (Others LiteralList)) a b → CountedAll a b
are_literals a b (both (counted x) (this (both signed (counted_all s)))) = counted_all (more_numbers x s)
are_literals a b (both (counted x) (that nought)) = counted_all (one_number x)

pub literal_list_reads : (ts : List Symbol) → Reads LiteralList ts (literal_list ts)
literal_list_reads ts = separated_reads a_literal ALiteral LiteralList a_literal_reads are_literals (suc (length ts)) ts

-- ---- in brackets
-- the inside of brackets is read
abbrev pub ReadsInside : Reader → Type 0
ReadsInside inner = (what : Inside) (ts : List Symbol) → Reads (Inner what) ts (inner what ts)

-- by a reader that reads inside brackets
module _ (inner : Reader) (reads : ReadsInside inner) where
  pub enclosed_reads : (what : Inside) (ts : List Symbol) → Reads (Then (Inner what) (Sign Close)) ts (enclosed inner what ts)
  enclosed_reads what ts = next (reads what ts) (λ x. made (expect_passes marks.Close x.1) (λ rest. done))

  pub argument_reads : (ts : List Symbol) → Reads (Then (Inner insides.Argument) (Sign Comma)) ts (argument inner ts)
  argument_reads ts = next (reads insides.Argument ts) (λ x. made (expect_passes marks.Comma x.1) (λ rest. done))
