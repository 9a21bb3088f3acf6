-- Which tokens stand where single ones are read.
use Rattle.std.proofs.Common.{◌≡◌, ℕ, Bool, true, false, cond, List, [], ◌∷◌, drop, Result, Ok, Err, refl, ap, ap₂}
use Rattle.fv_lex.specs.declared.token.Symbol.{Symbol}
use Rattle.fv_lex.specs.declared.token.Symbol.TheVariants.{Name, Text, Comma}
use Rattle.fv_lex.specs.declared.token.Symbol.TheVariants as symbols
use Rattle.fv_parse_grammar.specs.declared.symbol.Mark.{Mark}
use Rattle.fv_parse_grammar.specs.declared.symbol.Mark.TheVariants as marks
use Rattle.fv_parse_grammar.specs.Symbols.{is_mark}
use Rattle.fv_parse_grammar.specs.inner.Symbols.{sign}
use Rattle.fv_parse_grammar.specs.headline.Tree.{Tree}
use Rattle.fv_parse_grammar.specs.Descent.{Step, ◌>>=◌, Next, turn, expect, a_name, a_text, at_comma}

-- ---- tools
pub bind_ok : {A B : Type 0} (r : Result A (List Symbol)) (f : A → Result B (List Symbol)) (y : B) → (r >>= f) ≡ Ok y → (x : A) × (r ≡ Ok x) × (f x ≡ Ok y)
bind_ok (Ok x) f y e = (x, refl, e)
bind_ok (Err d) f y e = absurd cc

pub turn_next : (r : Step Tree) (f : Tree → Tree) (y : Tree) (rest : List Symbol) → turn r f ≡ Next y rest → (z : Tree) × (r ≡ Ok (z, rest)) × (f z ≡ y)
turn_next (Ok z) f y rest e =
    let first : f z.0 ≡ y = cc in
    let second : z.1 ≡ rest = cc in
    (z.0, ap (λ t. Ok (z.0, t)) second, first)
turn_next (Err d) f y rest e = absurd cc

abbrev pub took : {A : Type 0} → A → List Symbol → Step A
took x ts = Ok (x, ts)

pub read_as : {A : Type 0} (x y : A) (a b : List Symbol) → took x a ≡ took y b → (x ≡ y) × (a ≡ b)
read_as {A = A} x y a b e = let p : ◌≡◌ {A = A × List Symbol} (x, a) (y, b) = cc in (ap (λ q. q.0) p, ap (λ q. q.1) p)

-- ---- single tokens
pub is_mark_sign : (m : Mark) (t : Symbol) → is_mark m t ≡ true → t ≡ sign m
is_mark_sign marks.Open symbols.Open e = refl
is_mark_sign marks.Close symbols.Close e = refl
is_mark_sign marks.OpenBrace symbols.OpenBrace e = refl
is_mark_sign marks.CloseBrace symbols.CloseBrace e = refl
is_mark_sign marks.Comma symbols.Comma e = refl
is_mark_sign marks.Equals symbols.Equals e = refl
is_mark_sign marks.Arrow symbols.Arrow e = refl
is_mark_sign marks.Semicolon symbols.Semicolon e = refl
is_mark_sign marks.Dot symbols.Dot e = refl
is_mark_sign m t e = absurd cc

-- a mark is what it is
pub expect_ok : (m : Mark) (ts rest : List Symbol) → expect m ts ≡ Ok rest → ts ≡ sign m ∷ rest
expect_ok m [] rest e = absurd cc
expect_ok m (t ∷ ts) rest e = go (is_mark m t) refl e
  where
    go : (b : Bool) → is_mark m t ≡ b → cond b (Ok ts) (Err (t ∷ ts)) ≡ Ok rest → t ∷ ts ≡ sign m ∷ rest
    go true is e = let p : ts ≡ rest = cc in ap₂ ◌∷◌ (is_mark_sign m t is) p
    go false is e = absurd cc

pub a_name_ok : (ts : List Symbol) (n : ℕ) (rest : List Symbol) → a_name ts ≡ Ok (n, rest) → ts ≡ Name n ∷ rest
a_name_ok (Name m ∷ ts) n rest e = let p = read_as m n ts rest e in cc (p.0, p.1)
a_name_ok [] n rest e = absurd cc
a_name_ok (t ∷ ts) n rest e = absurd cc

pub a_text_ok : (ts : List Symbol) (n : ℕ) (rest : List Symbol) → a_text ts ≡ Ok (n, rest) → ts ≡ Text n ∷ rest
a_text_ok (Text m ∷ ts) n rest e = let p = read_as m n ts rest e in cc (p.0, p.1)
a_text_ok [] n rest e = absurd cc
a_text_ok (t ∷ ts) n rest e = absurd cc

pub at_comma_is : (ts : List Symbol) → at_comma ts ≡ true → ts ≡ Comma ∷ drop 1 ts
at_comma_is (Comma ∷ ts) e = refl
at_comma_is [] e = absurd cc
at_comma_is (t ∷ ts) e = absurd cc
