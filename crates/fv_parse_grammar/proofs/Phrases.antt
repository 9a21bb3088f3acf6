-- Postfixes, patterns, operators and expressions.
use Rattle.std.proofs.Common.{◌≡◌, ℕ, zero, suc, ◌<◌, true, false, List, [], ◌∷◌, length, drop, Err, refl, arith}
use Rattle.std.specs.Prelude.{nat_lt, nat_eq}
use Rattle.std.proofs.lemmas.Bool.{eqb-true}
use Rattle.fv_parse_grammar.specs.Symbol.{Symbol}
use Rattle.fv_parse_grammar.specs.Symbol.TheVariants.{Name, Integer, Open, Close, OpenBrace, CloseBrace, With, Tick}
use Rattle.fv_parse_grammar.specs.Symbol.TheVariants as symbols
use Rattle.fv_parse_grammar.specs.declared.symbol.Inside.TheVariants as insides
use Rattle.fv_parse_grammar.specs.headline.Symbols.{power, is_left}
use Rattle.fv_parse_grammar.specs.headline.Tree.{Tree}
use Rattle.fv_parse_grammar.specs.headline.Grammar.{Expression, Phrase, Postfix, Atom, plain, qualified, tighter, leftward, rightward, operand, pattern_operand}
use Rattle.fv_parse_grammar.specs.headline.Grammar.{bare, delayed, applied, atom_number, atom_plus_number, atom_minus_number, atom_name, atom_grouped}
use Rattle.fv_parse_grammar.specs.Descent as descent
use Rattle.fv_parse_grammar.specs.declared.symbol.Mark.TheVariants as marks
use Rattle.fv_parse_grammar.specs.Descent.{Step, ◌>>=◌, Reader, power_at, postfix, postfix_turn, atom_by_first}
use Rattle.fv_parse_grammar.specs.Descent.{atom, rights, chain, phrase, left_turn, expression, with_turn}
use Rattle.fv_parse_grammar.proofs.Plans.{both, nought, signed, Onward, stay, onward, Spelled, spelled, Nothing, Sign, Inner}
use Rattle.fv_parse_grammar.proofs.Plans.{Joined, APostfix, APrimary, AnAtom, GoesOn, Then, Spans, Takes, stuck, behind, next}
use Rattle.fv_parse_grammar.proofs.Plans.{made, done, joins, as_takes, as_plan, onward_from, unread, one_taken, by_test, Reads}
use Rattle.fv_parse_grammar.proofs.Pieces.{expect_passes, ReadsInside, enclosed_reads}
use Rattle.fv_parse_grammar.proofs.OperandBeginnings.{headed, leaf, pair, primary_reads}
use Rattle.fv_parse_grammar.proofs.Turns.{Turns, no_turn, one_turn, turn_of, turn_by_test, run_reads}
use Rattle.fv_parse_grammar.specs.declared.symbol.Operands.{Operands}
use Rattle.fv_parse_grammar.specs.declared.symbol.Commas.{Commas}
use Rattle.fv_parse_grammar.specs.declared.symbol.Operands.TheVariants as operands
use Rattle.fv_parse_grammar.specs.declared.symbol.Commas.TheVariants as commas

-- ---- postfix
is_delayed : (a b : List Symbol) → Spans (Then APostfix (Sign Tick)) a b → Spelled Postfix a b
is_delayed a b (both (spelled x) signed) = spelled (delayed x)

is_applied : (a b : List Symbol) → Spans (Then APostfix (Then (Sign Open) (Then (Inner insides.Arguments) (Sign Close)))) a b → Spelled Postfix a b
is_applied a b (both (spelled x) (both signed (both (spelled y) signed))) = spelled (applied x y)

is_bare : (a b : List Symbol) → Spans APrimary a b → Spelled Postfix a b
is_bare a b (spelled x) = spelled (bare x)

-- by a reader that reads inside brackets
module _ (inner : Reader) (reads : ReadsInside inner) where
  postfix_turns : (start : ℕ) (all : List Symbol) (x : Tree) (ts : List Symbol)
      → Takes (Spans APostfix) all ts → Turns APostfix all (postfix_turn inner start x ts)
  postfix_turns start all x [] s = no_turn
  postfix_turns start all x (Tick ∷ ts) s = one_turn (as_takes (joins s (one_taken Tick ts)) is_delayed)
  postfix_turns start all x (Open ∷ ts) s =
      turn_of _ (as_plan APostfix (behind APostfix s (headed Open ts (enclosed_reads inner reads insides.Arguments ts))) is_applied)
  postfix_turns start all x (t ∷ ts) s = no_turn

  postfix_reads : (ts : List Symbol) → Reads APostfix ts (postfix inner ts)
  unfolding postfix
  postfix_reads ts = onward_from (as_plan APostfix (primary_reads inner reads ts) is_bare)
      (λ x s. run_reads APostfix ts (postfix_turn inner (length ts)) (postfix_turns (length ts) ts) x.0 x.1 s)

-- ---- patterns
-- a sign, and no number after it
sign_alone : (t : Symbol) (ts : List Symbol) → ((tail : List Symbol) → Spelled Atom (t ∷ Integer 0 ∷ tail) tail) → Reads {A = Tree} AnAtom (t ∷ ts) (Err ts)
sign_alone t ts f = stuck (record { used = t ∷ []; whole = refl; completed = λ tail. (Integer 0 ∷ tail, f tail) })

plus_number_reads : (start : ℕ) (ts : List Symbol) → Reads AnAtom (symbols.Plus ∷ ts) (descent.plus_number start ts)
plus_number_reads start (Integer n ∷ ts) = pair AnAtom symbols.Plus (Integer n) ts (λ tail. spelled atom_plus_number)
plus_number_reads start [] = sign_alone symbols.Plus [] (λ tail. spelled atom_plus_number)
plus_number_reads start (t ∷ ts) = sign_alone symbols.Plus (t ∷ ts) (λ tail. spelled atom_plus_number)

minus_number_reads : (start : ℕ) (ts : List Symbol) → Reads AnAtom (symbols.Minus ∷ ts) (descent.minus_number start ts)
minus_number_reads start (Integer n ∷ ts) = pair AnAtom symbols.Minus (Integer n) ts (λ tail. spelled atom_minus_number)
minus_number_reads start [] = sign_alone symbols.Minus [] (λ tail. spelled atom_minus_number)
minus_number_reads start (t ∷ ts) = sign_alone symbols.Minus (t ∷ ts) (λ tail. spelled atom_minus_number)

is_atom_group : (a b : List Symbol) → Spans (Then (Sign Open) (Then (Inner insides.Pattern) (Sign Close))) a b → Spelled Atom a b
is_atom_group a b (both signed (both (spelled x) signed)) = spelled (atom_grouped x)

-- by a reader that reads inside brackets
module _ (inner : Reader) (reads : ReadsInside inner) where
  atom_by_first_reads : (t : Symbol) (ts : List Symbol) → Reads AnAtom (t ∷ ts) (atom_by_first inner t (t ∷ ts) ts)
  atom_by_first_reads (Integer n) ts = leaf AnAtom (Integer n) ts (λ tail. spelled atom_number)
  atom_by_first_reads (Name n) ts = leaf AnAtom (Name n) ts (λ tail. spelled atom_name)
  atom_by_first_reads symbols.Plus ts = plus_number_reads _ ts
  atom_by_first_reads symbols.Minus ts = minus_number_reads _ ts
  atom_by_first_reads Open ts = as_plan AnAtom (headed Open ts (enclosed_reads inner reads insides.Pattern ts)) is_atom_group
  atom_by_first_reads t ts = unread AnAtom

  atom_reads : (ts : List Symbol) → Reads AnAtom ts (atom inner ts)
  atom_reads [] = unread AnAtom
  atom_reads (t ∷ ts) = atom_by_first_reads t ts

is_operand : (comma : Commas) (a b : List Symbol) → Spans APostfix a b → Spelled (Phrase operands.Expressions comma zero) a b
is_operand comma a b (spelled x) = spelled (operand x)

is_pattern_operand : (comma : Commas) (a b : List Symbol) → Spans AnAtom a b → Spelled (Phrase operands.Patterns comma zero) a b
is_pattern_operand comma a b (spelled x) = spelled (pattern_operand x)

operand_reads : (inner : Reader)
    → ReadsInside inner → (kind : Operands) (comma : Commas) (ts : List Symbol) → Reads (Joined kind comma zero) ts (descent.operand inner kind ts)
operand_reads inner reads operands.Patterns comma ts = as_plan (Joined operands.Patterns comma zero) (atom_reads inner reads ts) (is_pattern_operand comma)
operand_reads inner reads operands.Expressions comma ts = as_plan (Joined operands.Expressions comma zero) (postfix_reads inner reads ts) (is_operand comma)

-- ---- operators
operator_power : (kind : Operands) (comma : Commas) (h : ℕ) (ts : List Symbol)
    → h < 8 → nat_eq (power_at kind comma ts) (suc (suc h)) ≡ true → (t : Symbol) × (ts ≡ t ∷ drop 1 ts) × (power kind comma t ≡ suc (suc h))
operator_power kind comma h [] small e = let p : power_at kind comma [] ≡ suc (suc h) = eqb-true (power_at kind comma []) (suc (suc h)) e in
    absurd (omega arith)
operator_power kind comma h (t ∷ ts) small e = (t, refl, eqb-true (power kind comma t) (suc (suc h)) e)

sign_taken : (t : Symbol) (ts : List Symbol) → ts ≡ t ∷ drop 1 ts → Takes (Spans (Sign t)) ts (drop 1 ts)
sign_taken t ts e = record { used = t ∷ []; whole = e; spans = λ tail. signed }

is_tighter : (kind : Operands) (comma : Commas) (h : ℕ) (a b : List Symbol) → Spelled (Phrase kind comma h) a b → Spelled (Phrase kind comma (suc h)) a b
is_tighter kind comma h a b (spelled x) = spelled (tighter x)

is_leftward : (kind : Operands) (comma : Commas) (h : ℕ) (t : Symbol) → h < 8 → is_left (suc h) ≡ true → power kind comma t ≡ suc (suc h)
    → (a b : List Symbol) → Spans (Then (Joined kind comma (suc h)) (Then (Sign t) (Joined kind comma h))) a b → Spelled (Phrase kind comma (suc h)) a b
is_leftward kind comma h t small left powered a b (both (spelled x) (both signed (spelled y))) = spelled (leftward t small left powered x y)

left_turns : (part : List Symbol → Step Tree) (kind : Operands) (comma : Commas) (h : ℕ)
    → h < 8 → is_left (suc h) ≡ true → ((ts : List Symbol) → Reads (Joined kind comma h) ts (part ts))
    → (start : ℕ) (all : List Symbol) (x : Tree) (ts : List Symbol)
    → Takes (Spans (Joined kind comma (suc h))) all ts → Turns (Joined kind comma (suc h)) all (left_turn part kind comma (suc (suc h)) start x ts)
left_turns part kind comma h small left reads start all x ts s = turn_by_test (nat_eq (power_at kind comma ts) (suc (suc h)))
    (λ on. let (t, is, powered) = operator_power kind comma h ts small on in
    turn_of _ (as_plan (Joined kind comma (suc h))
    (behind (Joined kind comma (suc h)) s (behind (Sign t) (sign_taken t ts is) (reads (drop 1 ts)))) (is_leftward kind comma h t small left powered)))
    (λ off. no_turn)

is_rightward : (kind : Operands) (comma : Commas) (h : ℕ) → h < 8
    → is_left (suc h) ≡ false → (a b : List Symbol) → Spans (Then (Joined kind comma h) (GoesOn kind comma h)) a b → Spelled (Phrase kind comma (suc h)) a b
is_rightward kind comma h small right a b (both (spelled x) stay) = spelled (tighter x)
is_rightward kind comma h small right a b (both (spelled x) (onward t powered (spelled y))) = spelled (rightward t small right powered x y)

goes_on : (kind : Operands) (comma : Commas) (h : ℕ) (t : Symbol)
    → power kind comma t ≡ suc (suc h) → (a b : List Symbol) → Spans (Then (Sign t) (Joined kind comma (suc h))) a b → Onward kind comma h a b
goes_on kind comma h t powered a b (both signed y) = onward t powered y

stays_there : (kind : Operands) (comma : Commas) (h : ℕ) (a b : List Symbol) → Spans Nothing a b → Onward kind comma h a b
stays_there kind comma h a b nought = stay

rights_read : (part : List Symbol → Step Tree) (kind : Operands) (comma : Commas) (h : ℕ)
    → h < 8 → is_left (suc h) ≡ false → ((ts : List Symbol) → Reads (Joined kind comma h) ts (part ts))
    → (k : ℕ) (ts : List Symbol) → Reads (Joined kind comma (suc h)) ts (rights k part kind comma (suc (suc h)) ts)
unfolding rights
rights_read part kind comma h small right reads zero ts = unread (Joined kind comma (suc h))
rights_read part kind comma h small right reads (suc k) ts = by_test (nat_lt (length ts) k)
    (λ _. rights_read part kind comma h small right reads k ts)
    (λ _. as_plan (Joined kind comma (suc h)) (next (reads ts) (λ x. by_test (nat_eq (power_at kind comma x.1) (suc (suc h)))
    (λ on. let (t, is, powered) = operator_power kind comma h x.1 small on in
    as_plan (GoesOn kind comma h) (made (behind (Sign t) (sign_taken t x.1 is) (rights_read part kind comma h small right reads k (drop 1 x.1))) (λ y. done))
    (goes_on kind comma h t powered))
    (λ off. as_plan (GoesOn kind comma h) done (stays_there kind comma h)))) (is_rightward kind comma h small right))

pub phrase_reads : (inner : Reader) → ReadsInside inner
    → (kind : Operands) (comma : Commas) (h : ℕ) → h < 9 → (ts : List Symbol) → Reads (Joined kind comma h) ts (phrase inner kind comma h ts)
unfolding phrase chain
phrase_reads inner reads kind comma zero small ts = operand_reads inner reads kind comma ts
phrase_reads inner reads kind comma (suc h) small ts = by_test (is_left (suc h))
    (λ left. onward_from (as_plan (Joined kind comma (suc h)) (phrase_reads inner reads kind comma h (omega arith) ts) (is_tighter kind comma h))
    (λ x s. run_reads (Joined kind comma (suc h)) ts (left_turn (phrase inner kind comma h) kind comma (suc (suc h)) (length ts))
    (left_turns (phrase inner kind comma h) kind comma h (omega arith) left (phrase_reads inner reads kind comma h (omega arith)) (length ts) ts) x.0 x.1 s))
    (λ right. rights_read (phrase inner kind comma h) kind comma h
    (omega arith) right (phrase_reads inner reads kind comma h (omega arith)) (suc (length ts)) ts)

-- ---- expression
is_plain : (a b : List Symbol) → Spans (Joined operands.Expressions commas.Join 8) a b → Spelled Expression a b
is_plain a b (spelled x) = spelled (plain x)

is_qualified : (a b : List Symbol)
    → Spans (Then (Inner insides.Expression) (Then (Sign With) (Then (Sign OpenBrace) (Then (Inner insides.Definitions) (Sign CloseBrace))))) a b
    → Spelled Expression a b
is_qualified a b (both (spelled x) (both signed (both signed (both (spelled y) signed)))) = spelled (qualified x y)

-- by a reader that reads inside brackets
module _ (inner : Reader) (reads : ReadsInside inner) where
  with_turns : (start : ℕ) (all : List Symbol) (x : Tree) (ts : List Symbol)
      → Takes (Spans (Inner insides.Expression)) all ts → Turns (Inner insides.Expression) all (with_turn inner start x ts)
  with_turns start all x [] s = no_turn
  with_turns start all x (With ∷ ts) s = turn_of _ (as_plan (Inner insides.Expression) (behind (Inner insides.Expression) s (headed With ts
      (next (expect_passes marks.OpenBrace ts)
      (λ opened. next (reads insides.Definitions opened) (λ y. made (expect_passes marks.CloseBrace y.1) (λ end. done)))))) is_qualified)
  with_turns start all x (t ∷ ts) s = no_turn

  pub expression_reads : (ts : List Symbol) → Reads (Inner insides.Expression) ts (expression inner ts)
  unfolding expression
  expression_reads ts = onward_from (as_plan (Inner insides.Expression) (phrase_reads inner reads operands.Expressions commas.Join 8 (omega arith) ts) is_plain)
      (λ x s. run_reads (Inner insides.Expression) ts (with_turn inner (length ts)) (with_turns (length ts) ts) x.0 x.1 s)
