-- What is spelled is read, whatever follows it.
use Rattle.fv_parse_grammar.specs.headline.Tree.{Waveform, Panel, Delayed, Apply, Binary, Where, Rule, Constant, Function, End, More}
use Rattle.std.proofs.Common.{◌≡◌, ℕ, zero, suc, ◌+◌, ◌-◌, ◌<◌, ◌≤◌, Bool, true, false, List, [], ◌∷◌, length, Ok, refl, sym, ap, ◌∙◌, arith}
use Rattle.std.specs.Prelude.{nat_eq}
use Rattle.std.proofs.lemmas.Bool.{eq-eqb, ne_eqb}
use Rattle.fv_lex.specs.declared.token.Symbol.{Symbol}
use Rattle.fv_lex.specs.declared.token.Symbol.TheVariants.{Name, Text, Integer, Comma, Open, Close, OpenBrace, CloseBrace}
use Rattle.fv_lex.specs.declared.token.Symbol.TheVariants.{Equals, Arrow, Semicolon, Dot, Declare, With, Tick}
use Rattle.fv_lex.specs.declared.token.Symbol.TheVariants as symbols
use Rattle.fv_num.specs.declared.primitive.Primitive.{Primitive as Operation}
use Rattle.fv_num.specs.declared.primitive.Primitive.TheVariants as primitives
use Rattle.fv_num.specs.declared.op.Op.TheVariants.{Add, Sub}
use Rattle.fv_parse_grammar.specs.declared.form.Literal.{Literal}
use Rattle.fv_parse_grammar.specs.headline.Grammar.{SpellsNumber, unsigned, with_plus, with_minus, SpellsNumbers, one_number, more_numbers, waved}
use Rattle.fv_parse_grammar.specs.Descent.{a_literal, literal_list, waveform}
use Rattle.fv_lex.specs.declared.form.Iteration.{Iteration as Repetition}
use Rattle.fv_lex.specs.declared.form.Side.{Side}
use Rattle.fv_lex.specs.declared.form.Switch.{Switch as SwitchKind}
use Rattle.fv_lex.specs.declared.form.Slider.{Slider as SliderKind}
use Rattle.fv_lex.specs.declared.form.Panel.{Panel as PanelKind}
use Rattle.fv_parse_grammar.specs.declared.symbol.Inside.{Inside}
use Rattle.fv_parse_grammar.specs.declared.symbol.Inside.TheVariants as insides
use Rattle.fv_parse_grammar.specs.declared.symbol.Items.{Items}
use Rattle.fv_parse_grammar.specs.declared.symbol.Items.TheVariants.{Statements, Definitions, Rules, Parts}
use Rattle.fv_parse_grammar.specs.headline.Symbols.{power, operator, is_left}
use Rattle.fv_parse_grammar.specs.headline.Tree.{Tree, Number, Negative, Named, MinusNamed, Primitive}
use Rattle.fv_parse_grammar.specs.headline.Tree.{Group, Abstraction, Case, Iteration, Ports, Switch, Slider}
use Rattle.fv_parse_grammar.specs.headline.Grammar.{Level, Further, Definition, Expression, Listed, OneRule, Phrase, Postfix, Primary, Atom, SpellsNames}
use Rattle.fv_parse_grammar.specs.headline.Grammar.{one_name, more_names, Spells, SpellsProgram, no_more, stated, declared, declared_for, defined, ruled}
use Rattle.fv_parse_grammar.specs.headline.Grammar.{parted, first_rule, first_part, constant, function, rule, plain, qualified, tighter, leftward}
use Rattle.fv_parse_grammar.specs.headline.Grammar.{rightward, operand, pattern_operand, bare, delayed, applied, number, plus_number, minus_number}
use Rattle.fv_parse_grammar.specs.headline.Grammar.{minus_name, named, plus, minus, primitive, grouped, abstracted, cased, iterated, ported}
use Rattle.fv_parse_grammar.specs.headline.Grammar.{switched, slid, paneled, atom_number, atom_plus_number, atom_minus_number, atom_name, atom_grouped}
use Rattle.fv_parse_grammar.specs.Nesting.{Nests}
use Rattle.fv_parse_grammar.specs.Descent.{Done, Next, One, Skip, run, chain, Reader, power_at, primary, postfix, postfix_turn, phrase, left_turn}
use Rattle.fv_parse_grammar.specs.Descent.{expression, with_turn, at_comma, a_name, name_list, definition, one_rule, further, listed, item, atom}
use Rattle.fv_parse_grammar.specs.Descent.{enclosed, argument, within, program, after_plus, after_minus, by_first, abstraction, case_of, iteration}
use Rattle.fv_parse_grammar.specs.Descent.{ports, switch, slider, panel, label, ended, function_after, constant_after, descend}
use Rattle.fv_parse_grammar.specs.Descent as descent
use Rattle.fv_parse_grammar.proofs.lemmas.Loops.{run_next, run_done, chain_next, chain_done, many_one, many_skip, many_done, separated_step, separated_end}
use Rattle.fv_parse_grammar.specs.declared.symbol.Operands.{Operands}
use Rattle.fv_parse_grammar.specs.declared.symbol.Commas.{Commas}
use Rattle.fv_parse_grammar.specs.declared.symbol.Operands.TheVariants as operands
use Rattle.fv_parse_grammar.specs.declared.symbol.Commas.TheVariants as commas

-- what no further item begins with
abbrev pub stops : Items → List Symbol → Bool
stops Statements (Name n ∷ ts) = false
stops Statements (Declare ∷ ts) = false
stops Definitions (Name n ∷ ts) = false
stops Rules (Open ∷ ts) = false
stops (Parts kind) (Comma ∷ ts) = false
stops items ts = true

-- what may follow a list
abbrev pub Ends : Items → List Symbol → Type 0
Ends (Parts kind) rest = (stops (Parts kind) rest ≡ true) × (9 < power_at kind commas.Separate rest)
Ends items rest = stops items rest ≡ true

-- What reading does at tokens that are what spells a tree and then a rest, by level, in terms of the loop that goes on with that tree.
abbrev pub Reads : Level → Reader → List Symbol → Tree → List Symbol → Type 0
Reads (Further items) inner ts x rest = Ends items rest → further inner items ts ≡ Ok (x, rest)
Reads (Listed items) inner ts x rest = Ends items rest → listed inner items ts ≡ Ok (x, rest)
Reads Definition inner ts x rest = definition inner ts ≡ Ok (x, rest)
Reads OneRule inner ts x rest = one_rule inner ts ≡ Ok (x, rest)
Reads Expression inner ts x rest = 9 < power_at operands.Expressions commas.Join rest → expression inner ts ≡ run (with_turn inner (length ts)) x rest
Reads (Phrase kind comma zero) inner ts x rest = 1 < power_at kind comma rest → phrase inner kind comma zero ts ≡ Ok (x, rest)
Reads (Phrase kind comma (suc h)) inner ts x rest =
    (is_left (suc h) ≡ true → suc h < power_at kind comma rest
    → phrase inner kind comma (suc h) ts ≡ run (left_turn (phrase inner kind comma h) kind comma (suc (suc h)) (length ts)) x rest)
    × (is_left (suc h) ≡ false → suc (suc h) < power_at kind comma rest → phrase inner kind comma (suc h) ts ≡ Ok (x, rest))
Reads Postfix inner ts x rest = 0 < power_at operands.Expressions commas.Join rest → postfix inner ts ≡ run (postfix_turn inner (length ts)) x rest
Reads Primary inner ts x rest = 0 < power_at operands.Expressions commas.Join rest → primary inner ts ≡ Ok (x, rest)
Reads Atom inner ts x rest = atom inner ts ≡ Ok (x, rest)

-- ---- what a follow token rules out
no_postfix : (inner : Reader) (comma : Commas) (start : ℕ) (x : Tree) (rest : List Symbol)
    → 1 < power_at operands.Expressions comma rest → postfix_turn inner start x rest ≡ Done
no_postfix inner comma start x [] h = refl
no_postfix inner comma start x (Tick ∷ ts) h = absurd (omega arith)
no_postfix inner comma start x (Open ∷ ts) h = absurd (omega arith)
no_postfix inner comma start x (t ∷ ts) h = refl

apart : (comma : Commas) (rest : List Symbol) → 0 < power_at operands.Expressions comma rest → 0 < power_at operands.Expressions commas.Join rest
apart commas.Join rest h = h
apart commas.Separate [] h = h
apart commas.Separate (Comma ∷ ts) h = omega arith
apart commas.Separate (t ∷ ts) h = h

at_plus : (start : ℕ) (rest : List Symbol)
    → 0 < power_at operands.Expressions commas.Join rest → after_plus start rest ≡ Ok (Primitive start (primitives.Point Add), rest)
at_plus start [] h = refl
at_plus start (Integer n ∷ ts) h = absurd (omega arith)
at_plus start (t ∷ ts) h = refl

at_minus : (start : ℕ) (rest : List Symbol)
    → 0 < power_at operands.Expressions commas.Join rest → after_minus start rest ≡ Ok (Primitive start (primitives.Point Sub), rest)
at_minus start [] h = refl
at_minus start (Integer n ∷ ts) h = absurd (omega arith)
at_minus start (Name n ∷ ts) h = absurd (omega arith)
at_minus start (t ∷ ts) h = refl

-- where no item begins, none is read
no_item : (inner : Reader) (items : Items) (rest : List Symbol) → stops items rest ≡ true → item inner items rest ≡ descent.Nothing
no_item inner Statements [] h = refl
no_item inner Statements (Name n ∷ ts) h = absurd cc
no_item inner Statements (Declare ∷ ts) h = absurd cc
no_item inner Statements (t ∷ ts) h = refl
no_item inner Definitions [] h = refl
no_item inner Definitions (Name n ∷ ts) h = absurd cc
no_item inner Definitions (t ∷ ts) h = refl
no_item inner Rules [] h = refl
no_item inner Rules (Open ∷ ts) h = absurd cc
no_item inner Rules (t ∷ ts) h = refl
no_item inner (Parts kind) [] h = refl
no_item inner (Parts kind) (Comma ∷ ts) h = absurd cc
no_item inner (Parts kind) (t ∷ ts) h = refl

ends_stop : (items : Items) (rest : List Symbol) → Ends items rest → stops items rest ≡ true
ends_stop Statements rest h = h
ends_stop Definitions rest h = h
ends_stop Rules rest h = h
ends_stop (Parts kind) rest h = h.0

-- ---- what is spelled gets no longer
pub names_shorter : {ts rest : List Symbol} {ns : List ℕ} → SpellsNames ts ns rest → length rest < length ts
names_shorter one_name = omega arith
names_shorter (more_names p) = let a = names_shorter p in omega arith

number_shorter : {ts rest : List Symbol} {x : Literal} → SpellsNumber ts x rest → length rest < length ts
number_shorter unsigned = omega arith
number_shorter with_plus = omega arith
number_shorter with_minus = omega arith

pub numbers_shorter : {ts rest : List Symbol} {xs : List Literal} → SpellsNumbers ts xs rest → length rest < length ts
numbers_shorter (one_number s) = number_shorter s
numbers_shorter (more_numbers s p) = let a = number_shorter s in let b = numbers_shorter p in omega arith

pub no_longer : {level : Level} {ts rest : List Symbol} {x : Tree} → Spells level ts x rest → length rest ≤ length ts
no_longer no_more = omega arith
no_longer (stated p q) = let a = no_longer p in let b = no_longer q in omega arith
no_longer (declared p) = let a = no_longer p in omega arith
no_longer (declared_for p) = let a = no_longer p in omega arith
no_longer (defined p q) = let a = no_longer p in let b = no_longer q in omega arith
no_longer (ruled p q) = let a = no_longer p in let b = no_longer q in omega arith
no_longer (parted p q) = let a = no_longer p in let b = no_longer q in omega arith
no_longer (first_rule p q) = let a = no_longer p in let b = no_longer q in omega arith
no_longer (first_part p q) = let a = no_longer p in let b = no_longer q in omega arith
no_longer (constant p) = let a = no_longer p in omega arith
no_longer (function p q) = let a = no_longer p in let b = no_longer q in omega arith
no_longer (rule p q) = let a = no_longer p in let b = no_longer q in omega arith
no_longer (plain p) = no_longer p
no_longer (qualified p q) = let a = no_longer p in let b = no_longer q in omega arith
no_longer (tighter p) = no_longer p
no_longer (leftward t low e r p q) = let a = no_longer p in let b = no_longer q in omega arith
no_longer (rightward t low e r p q) = let a = no_longer p in let b = no_longer q in omega arith
no_longer (operand p) = no_longer p
no_longer (pattern_operand p) = no_longer p
no_longer (bare p) = no_longer p
no_longer (delayed p) = let a = no_longer p in omega arith
no_longer (applied p q) = let a = no_longer p in let b = no_longer q in omega arith
no_longer number = omega arith
no_longer plus_number = omega arith
no_longer minus_number = omega arith
no_longer minus_name = omega arith
no_longer named = omega arith
no_longer plus = omega arith
no_longer minus = omega arith
no_longer primitive = omega arith
no_longer (grouped p) = let a = no_longer p in omega arith
no_longer (abstracted ns p) = let a = names_shorter ns in let b = no_longer p in omega arith
no_longer (cased p) = let a = no_longer p in omega arith
no_longer (waved p) = let a = numbers_shorter p in omega arith
no_longer (iterated p q) = let a = no_longer p in let b = no_longer q in omega arith
no_longer (ported p) = let a = no_longer p in omega arith
no_longer switched = omega arith
no_longer (slid p q r s) = let a = no_longer p in let b = no_longer q in let c = no_longer r in let d = no_longer s in omega arith
no_longer (paneled p) = let a = no_longer p in omega arith
no_longer atom_number = omega arith
no_longer atom_plus_number = omega arith
no_longer atom_minus_number = omega arith
no_longer atom_name = omega arith
no_longer (atom_grouped p) = let a = no_longer p in omega arith

definition_shorter : {ts rest : List Symbol} {x : Tree} → Spells Definition ts x rest → length rest < length ts
definition_shorter (constant p) = let a = no_longer p in omega arith
definition_shorter (function p q) = let a = no_longer p in let b = no_longer q in omega arith

rule_shorter : {ts rest : List Symbol} {x : Tree} → Spells OneRule ts x rest → length rest < length ts
rule_shorter (rule p q) = let a = no_longer p in let b = no_longer q in omega arith

-- ---- operators
closes : (inner : Reader) (kind : Operands) (comma : Commas) (h : ℕ) (ts : List Symbol) (x : Tree) (rest : List Symbol)
    → Reads (Phrase kind comma h) inner ts x rest
    → suc h < power_at kind comma rest → phrase inner kind comma h ts ≡ Ok (x, rest)
closes inner kind comma zero ts x rest reads follows = reads follows
closes inner kind comma (suc h) ts x rest reads follows = go (is_left (suc h)) refl
  where
    go : (b : Bool) → is_left (suc h) ≡ b → phrase inner kind comma (suc h) ts ≡ Ok (x, rest)
    go true e =
        let ne : nat_eq (power_at kind comma rest) (suc (suc h)) ≡ false = ne_eqb (power_at kind comma rest) (suc (suc h)) (λ q. omega arith) in
        reads.0 e (omega arith) ∙ run_done (left_turn (phrase inner kind comma h) kind comma (suc (suc h)) (length ts)) x rest (rw ne refl)
    go false e = reads.1 e follows

tighter_reads : (inner : Reader) (kind : Operands) (comma : Commas) (h : ℕ) (ts : List Symbol) (x : Tree) (rest : List Symbol)
    → Reads (Phrase kind comma h) inner ts x rest → Reads (Phrase kind comma (suc h)) inner ts x rest
unfolding phrase
tighter_reads inner kind comma h ts x rest reads = (
  (λ e follows. rw (e, closes inner kind comma h ts x rest reads follows) refl),
  (λ e follows.
      let ne : nat_eq (power_at kind comma rest) (suc (suc h)) ≡ false = ne_eqb (power_at kind comma rest) (suc (suc h)) (λ q. omega arith) in
      rw e (chain_done (phrase inner kind comma h) kind comma (suc (suc h)) ts x rest (closes inner kind comma h ts x rest reads (omega arith)) ne)),
)

leftward_reads : (inner : Reader) (kind : Operands) (comma : Commas) (h : ℕ) (ts mid rest : List Symbol) (t : Symbol) (x y : Tree)
    → is_left (suc h) ≡ true → power kind comma t ≡ suc (suc h) → length rest ≤ length mid
    → Reads (Phrase kind comma (suc h)) inner ts x (t ∷ mid)
    → Reads (Phrase kind comma h) inner mid y rest → Reads (Phrase kind comma (suc h)) inner ts (Binary (length ts) (operator t) x y) rest
leftward_reads inner kind comma h ts mid rest t x y is_left_one r fewer p q = (
  (λ e follows.
      let part = phrase inner kind comma h in
      let body = left_turn part kind comma (suc (suc h)) (length ts) in
      let yes : nat_eq (power kind comma t) (suc (suc h)) ≡ true = eq-eqb (power kind comma t) (suc (suc h)) r in
      let second : part mid ≡ Ok (y, rest) = closes inner kind comma h mid y rest q follows in
      let one : body x (t ∷ mid) ≡ Next (Binary (length ts) (operator t) x y) rest = rw (yes, second) refl in
      p.0 e (omega arith) ∙ run_next body x (t ∷ mid) (Binary (length ts) (operator t) x y) rest one (omega arith)),
  (λ e follows. absurd cc),
)

rightward_reads : (inner : Reader) (kind : Operands) (comma : Commas) (h : ℕ) (ts mid rest : List Symbol) (t : Symbol) (x y : Tree)
    → is_left (suc h) ≡ false → power kind comma t ≡ suc (suc h) → length (t ∷ mid) ≤ length ts
    → Reads (Phrase kind comma h) inner ts x (t ∷ mid)
    → Reads (Phrase kind comma (suc h)) inner mid y rest → Reads (Phrase kind comma (suc h)) inner ts (Binary (length ts) (operator t) x y) rest
unfolding phrase
rightward_reads inner kind comma h ts mid rest t x y is_right r fewer p q = (
  (λ e follows. absurd cc),
  (λ e follows.
      let part = phrase inner kind comma h in
      let yes : nat_eq (power kind comma t) (suc (suc h)) ≡ true = eq-eqb (power kind comma t) (suc (suc h)) r in
      let first : part ts ≡ Ok (x, t ∷ mid) = closes inner kind comma h ts x (t ∷ mid) p (omega arith) in
      let second : chain part kind comma (suc (suc h)) mid ≡ Ok (y, rest) = rw e at (q.1 e follows) in
      let all : chain part kind comma (suc (suc h)) ts ≡ Ok (Binary (length ts) (operator t) x y, rest) =
      chain_next part kind comma (suc (suc h)) ts x (t ∷ mid) first yes (omega arith) ∙ rw second refl in
      rw e all),
)

operand_reads : (inner : Reader) (comma : Commas) (ts : List Symbol) (x : Tree) (rest : List Symbol)
    → Reads Postfix inner ts x rest → Reads (Phrase operands.Expressions comma zero) inner ts x rest
unfolding phrase
operand_reads inner comma ts x rest p =
    λ follows. p (apart comma rest (omega arith)) ∙ run_done (postfix_turn inner (length ts)) x rest (no_postfix inner comma (length ts) x rest follows)

pattern_operand_reads : (inner : Reader) (comma : Commas) (ts : List Symbol) (x : Tree) (rest : List Symbol)
    → Reads Atom inner ts x rest → Reads (Phrase operands.Patterns comma zero) inner ts x rest
unfolding phrase
pattern_operand_reads inner comma ts x rest p = λ follows. p

-- ---- inside brackets
pub lower : (nesting : ℕ) (what : Inside) (ts : List Symbol) → 0 < nesting → within nesting what ts ≡ descend (within (nesting - 1)) what ts
unfolding within
lower nesting what ts h = let e : nesting ≡ suc (nesting - 1) = omega arith in ap (λ n. within n what ts) e

-- by a reader with nesting for one bracket more than the deeper one
module _ (nesting : ℕ) (ts : List Symbol) (x : Tree) (rest : List Symbol) (some : 0 < nesting) where
  abbrev deeper : Reader
  deeper = within (nesting - 1)

  in_expression : Reads Expression deeper ts x (Close ∷ rest) → enclosed (within nesting) insides.Expression ts ≡ Ok (x, rest)
  in_expression p =
      let read : expression deeper ts ≡ Ok (x, Close ∷ rest) = p (omega arith) ∙ run_done (with_turn deeper (length ts)) x (Close ∷ rest) refl in
      rw (lower nesting insides.Expression ts some, read) refl

  in_argument : Reads (Phrase operands.Expressions commas.Separate 8) deeper ts x (Comma ∷ rest) → argument (within nesting) ts ≡ Ok (x, rest)
  in_argument p = rw (lower nesting insides.Argument ts some, closes deeper operands.Expressions commas.Separate 8 ts x (Comma ∷ rest) p (omega arith)) refl

  in_last_argument : Reads (Phrase operands.Expressions commas.Separate 8) deeper ts x (Close ∷ rest)
      → enclosed (within nesting) insides.Argument ts ≡ Ok (x, rest)
  in_last_argument p = rw (
    lower nesting insides.Argument ts some,
    closes deeper operands.Expressions commas.Separate 8 ts x (Close ∷ rest)
        p (omega arith),
  ) refl

  in_pattern : Reads (Phrase operands.Patterns commas.Join 8) deeper ts x (Close ∷ rest) → enclosed (within nesting) insides.Pattern ts ≡ Ok (x, rest)
  in_pattern p = rw (lower nesting insides.Pattern ts some, closes deeper operands.Patterns commas.Join 8 ts x (Close ∷ rest) p (omega arith)) refl

  in_arguments : Reads (Listed (Parts operands.Expressions)) deeper ts x (Close ∷ rest)
      → enclosed (within nesting) insides.Arguments ts ≡ Ok (x, rest)
  in_arguments p = let read = p (refl, omega arith) in rw (lower nesting insides.Arguments ts some, read) refl

  in_patterns : Reads (Listed (Parts operands.Patterns)) deeper ts x (Close ∷ rest) → enclosed (within nesting) insides.Patterns ts ≡ Ok (x, rest)
  in_patterns p = let read = p (refl, omega arith) in rw (lower nesting insides.Patterns ts some, read) refl

  in_rules : Reads (Listed Rules) deeper ts x (CloseBrace ∷ rest) → within nesting insides.Rules ts ≡ Ok (x, CloseBrace ∷ rest)
  in_rules p = lower nesting insides.Rules ts some ∙ p refl

  in_definitions : Reads (Further Definitions) deeper ts x (CloseBrace ∷ rest) → within nesting insides.Definitions ts ≡ Ok (x, CloseBrace ∷ rest)
  in_definitions p = lower nesting insides.Definitions ts some ∙ p refl

-- ---- postfix
bare_reads : (inner : Reader) (ts : List Symbol) (x : Tree) (rest : List Symbol) → Reads Primary inner ts x rest → Reads Postfix inner ts x rest
unfolding postfix
bare_reads inner ts x rest p = λ follows. let read = p follows in rw read refl

delayed_reads : (inner : Reader) (ts : List Symbol) (x : Tree) (rest : List Symbol)
    → Reads Postfix inner ts x (Tick ∷ rest) → Reads Postfix inner ts (Delayed (length ts) x) rest
delayed_reads inner ts x rest p = λ follows.
    p (omega arith) ∙ run_next (postfix_turn inner (length ts)) x (Tick ∷ rest) (Delayed (length ts) x) rest refl (omega arith)

applied_reads : (inner : Reader) (ts mid rest : List Symbol) (x y : Tree)
    → length rest ≤ length mid → Reads Postfix inner ts x (Open ∷ mid) → enclosed inner insides.Arguments mid ≡ Ok (y, rest)
    → Reads Postfix inner ts (Apply (length ts) x y) rest
applied_reads inner ts mid rest x y fewer p q = λ follows.
    let one : postfix_turn inner (length ts) x (Open ∷ mid) ≡ Next (Apply (length ts) x y) rest = rw q refl in
    p (omega arith) ∙ run_next (postfix_turn inner (length ts)) x (Open ∷ mid) (Apply (length ts) x y) rest one (omega arith)

-- ---- expression
plain_reads : (inner : Reader) (ts : List Symbol) (x : Tree) (rest : List Symbol)
    → Reads (Phrase operands.Expressions commas.Join 8) inner ts x rest → Reads Expression inner ts x rest
unfolding expression
plain_reads inner ts x rest p = λ follows. rw (closes inner operands.Expressions commas.Join 8 ts x rest p follows) refl

qualified_reads : (inner : Reader) (ts mid rest : List Symbol) (x y : Tree)
    → length rest ≤ length mid → Reads Expression inner ts x (With ∷ OpenBrace ∷ mid) → inner insides.Definitions mid ≡ Ok (y, CloseBrace ∷ rest)
    → Reads Expression inner ts (Where (length ts) x y) rest
qualified_reads inner ts mid rest x y fewer p q = λ follows.
    let one : with_turn inner (length ts) x (With ∷ OpenBrace ∷ mid) ≡ Next (Where (length ts) x y) rest = rw q refl in
    p (omega arith) ∙ run_next (with_turn inner (length ts)) x (With ∷ OpenBrace ∷ mid) (Where (length ts) x y) rest one (omega arith)

ends_expression : (inner : Reader) (ts : List Symbol) (x : Tree) (rest : List Symbol)
    → Reads Expression inner ts x (Semicolon ∷ rest) → ended inner ts ≡ Ok (x, rest)
unfolding ended
ends_expression inner ts x rest p =
    let read : expression inner ts ≡ Ok (x, Semicolon ∷ rest) = p (omega arith) ∙ run_done (with_turn inner (length ts)) x (Semicolon ∷ rest) refl in
    rw read refl

-- ---- definitions and rules
constant_reads : (inner : Reader) (n : ℕ) (ts : List Symbol) (x : Tree) (rest : List Symbol) → Reads Expression inner ts x (Semicolon ∷ rest)
    → Reads Definition inner (Name n ∷ Equals ∷ ts) (Constant (length (Name n ∷ Equals ∷ ts)) n x) rest
unfolding definition constant_after
constant_reads inner n ts x rest p = rw (ends_expression inner ts x rest p) refl

function_reads : (inner : Reader) (n : ℕ) (ts mid : List Symbol) (ps x : Tree) (rest : List Symbol)
    → enclosed inner insides.Patterns ts ≡ Ok (ps, Equals ∷ mid) → Reads Expression inner mid x (Semicolon ∷ rest)
    → Reads Definition inner (Name n ∷ Open ∷ ts) (Function (length (Name n ∷ Open ∷ ts)) n ps x) rest
unfolding definition function_after
function_reads inner n ts mid ps x rest p q = rw (p, ends_expression inner mid x rest q) refl

rule_reads : (inner : Reader) (ts mid : List Symbol) (ps x : Tree) (rest : List Symbol)
    → enclosed inner insides.Patterns ts ≡ Ok (ps, Arrow ∷ mid) → Reads Expression inner mid x (Semicolon ∷ rest)
    → Reads OneRule inner (Open ∷ ts) (Rule (length (Open ∷ ts)) ps x) rest
unfolding one_rule
rule_reads inner ts mid ps x rest p q = rw (p, ends_expression inner mid x rest q) refl

-- ---- lists
no_more_reads : (inner : Reader) (items : Items) (rest : List Symbol) → Reads (Further items) inner rest End rest
unfolding further
no_more_reads inner items rest = λ ends. many_done (item inner items) rest (no_item inner items rest (ends_stop items rest ends))

-- one more item in front
item_reads : (inner : Reader) (items : Items) (ts mid rest : List Symbol) (x y : Tree)
    → item inner items ts ≡ One x mid → length mid < length ts → Reads (Further items) inner mid y rest → Reads (Further items) inner ts (More x y) rest
unfolding further
item_reads inner items ts mid rest x y e h q = λ ends. let read = q ends in many_one (item inner items) ts x mid e h ∙ rw read refl

skip_reads : (inner : Reader) (items : Items) (ts mid rest : List Symbol) (y : Tree)
    → item inner items ts ≡ Skip mid → length mid < length ts → Reads (Further items) inner mid y rest → Reads (Further items) inner ts y rest
unfolding further
skip_reads inner items ts mid rest y e h q = λ ends. many_skip (item inner items) ts mid e h ∙ q ends

definition_begins : {ts rest : List Symbol} {x : Tree} → Spells Definition ts x rest → (n : ℕ) × (us : List Symbol) × (ts ≡ Name n ∷ us)
definition_begins (constant {n = n} p) = (n, _, refl)
definition_begins (function {n = n} p q) = (n, _, refl)

rule_begins : {ts rest : List Symbol} {x : Tree} → Spells OneRule ts x rest → (us : List Symbol) × (ts ≡ Open ∷ us)
rule_begins (rule p q) = (_, refl)

statement_item : (inner : Reader) (ts : List Symbol) (x : Tree) (mid : List Symbol)
    → (n : ℕ) × (us : List Symbol) × (ts ≡ Name n ∷ us) → definition inner ts ≡ Ok (x, mid) → item inner Statements ts ≡ One x mid
statement_item inner ts x mid (n, us, e) r =
    let read : definition inner (Name n ∷ us) ≡ Ok (x, mid) = ap (definition inner) (sym e) ∙ r in ap (item inner Statements) e ∙ rw read refl

definition_item : (inner : Reader) (ts : List Symbol) (x : Tree) (mid : List Symbol)
    → (n : ℕ) × (us : List Symbol) × (ts ≡ Name n ∷ us) → definition inner ts ≡ Ok (x, mid) → item inner Definitions ts ≡ One x mid
definition_item inner ts x mid (n, us, e) r =
    let read : definition inner (Name n ∷ us) ≡ Ok (x, mid) = ap (definition inner) (sym e) ∙ r in ap (item inner Definitions) e ∙ rw read refl

rule_item : (inner : Reader) (ts : List Symbol) (x : Tree) (mid : List Symbol)
    → (us : List Symbol) × (ts ≡ Open ∷ us) → one_rule inner ts ≡ Ok (x, mid) → item inner Rules ts ≡ One x mid
rule_item inner ts x mid (us, e) r =
    let read : one_rule inner (Open ∷ us) ≡ Ok (x, mid) = ap (one_rule inner) (sym e) ∙ r in ap (item inner Rules) e ∙ rw read refl

-- what follows a part: a comma, or what follows the list
part_follows : (kind : Operands) {ts rest : List Symbol} {x : Tree}
    → Spells (Further (Parts kind)) ts x rest → 9 < power_at kind commas.Separate rest → 9 < power_at kind commas.Separate ts
part_follows kind no_more h = h
part_follows kind (parted p q) h = omega arith

parted_reads : (inner : Reader) (kind : Operands) (ts mid rest : List Symbol) (x y : Tree)
    → length mid ≤ length ts → (9 < power_at kind commas.Separate rest → 9 < power_at kind commas.Separate mid)
    → Reads (Phrase kind commas.Separate 8) inner ts x mid
    → Reads (Further (Parts kind)) inner mid y rest → Reads (Further (Parts kind)) inner (Comma ∷ ts) (More x y) rest
parted_reads inner kind ts mid rest x y fewer follows p q = λ ends.
    let read = closes inner kind commas.Separate 8 ts x mid p (follows ends.1) in
    item_reads inner (Parts kind) (Comma ∷ ts) mid rest x y (rw read refl) (omega arith) q ends

first_part_reads : (inner : Reader) (kind : Operands) (ts mid rest : List Symbol) (x y : Tree)
    → (9 < power_at kind commas.Separate rest → 9 < power_at kind commas.Separate mid)
    → Reads (Phrase kind commas.Separate 8) inner ts x mid
    → Reads (Further (Parts kind)) inner mid y rest → Reads (Listed (Parts kind)) inner ts (More x y) rest
unfolding listed
first_part_reads inner kind ts mid rest x y follows p q = λ ends.
    let read = closes inner kind commas.Separate 8 ts x mid p (follows ends.1) in
    let others = q ends in
    rw (read, others) refl

first_rule_reads : (inner : Reader) (ts mid rest : List Symbol) (x y : Tree)
    → Reads OneRule inner ts x mid → Reads (Further Rules) inner mid y rest → Reads (Listed Rules) inner ts (More x y) rest
unfolding listed
first_rule_reads inner ts mid rest x y p q = λ ends. let others = q ends in rw (p, others) refl

-- ---- primary
complete_names : {ts rest : List Symbol} {ns : List ℕ} → SpellsNames ts ns rest → at_comma rest ≡ false → name_list ts ≡ Ok (ns, rest)
complete_names (one_name {n = n} {rest = rest}) off = separated_end a_name (Name n ∷ rest) n rest refl off
complete_names (more_names {n = n} {ts = ts} p) off = let read =
    complete_names p off in separated_step a_name (Name n ∷ Comma ∷ ts) n (Comma ∷ ts) refl refl (omega arith) ∙ rw read refl

complete_number : {ts rest : List Symbol} {x : Literal} → SpellsNumber ts x rest → a_literal ts ≡ Ok (x, rest)
complete_number unsigned = refl
complete_number with_plus = refl
complete_number with_minus = refl

complete_numbers : {ts rest : List Symbol} {xs : List Literal} → SpellsNumbers ts xs rest → at_comma rest ≡ false → literal_list ts ≡ Ok (xs, rest)
complete_numbers (one_number {ts = ts} {rest = rest} {x = x} s) off = separated_end a_literal ts x rest (complete_number s) off
complete_numbers (more_numbers {ts = ts} {mid = mid} {x = x} s p) off =
    let fewer = number_shorter s in
    let read = complete_numbers p off in separated_step a_literal ts x (Comma ∷ mid) (complete_number s) refl (omega arith) ∙ rw read refl

-- the leaves
number_is : (inner : Reader) {n : ℕ} {rest : List Symbol} → primary inner (Integer n ∷ rest) ≡ Ok (Number (length (Integer n ∷ rest)) n, rest)
unfolding by_first
number_is inner = refl

plus_number_is : (inner : Reader) {n : ℕ} {rest : List Symbol}
    → primary inner (symbols.Plus ∷ Integer n ∷ rest) ≡ Ok (Number (length (symbols.Plus ∷ Integer n ∷ rest)) n, rest)
unfolding by_first
plus_number_is inner = refl

minus_number_is : (inner : Reader) {n : ℕ} {rest : List Symbol}
    → primary inner (symbols.Minus ∷ Integer n ∷ rest) ≡ Ok (Negative (length (symbols.Minus ∷ Integer n ∷ rest)) n, rest)
unfolding by_first
minus_number_is inner = refl

minus_name_is : (inner : Reader) {n : ℕ} {rest : List Symbol}
    → primary inner (symbols.Minus ∷ Name n ∷ rest) ≡ Ok (MinusNamed (length (symbols.Minus ∷ Name n ∷ rest)) n, rest)
unfolding by_first
minus_name_is inner = refl

named_is : (inner : Reader) {n : ℕ} {rest : List Symbol} → primary inner (Name n ∷ rest) ≡ Ok (Named (length (Name n ∷ rest)) n, rest)
unfolding by_first
named_is inner = refl

plus_is : (inner : Reader) (rest : List Symbol) → 0 < power_at operands.Expressions commas.Join rest
    → primary inner (symbols.Plus ∷ rest) ≡ Ok (Primitive (length (symbols.Plus ∷ rest)) (primitives.Point Add), rest)
unfolding by_first
plus_is inner rest h = at_plus (length (symbols.Plus ∷ rest)) rest h

minus_is : (inner : Reader) (rest : List Symbol) → 0 < power_at operands.Expressions commas.Join rest
    → primary inner (symbols.Minus ∷ rest) ≡ Ok (Primitive (length (symbols.Minus ∷ rest)) (primitives.Point Sub), rest)
unfolding by_first
minus_is inner rest h = at_minus (length (symbols.Minus ∷ rest)) rest h

primitive_is : (inner : Reader) {p : Operation} {rest : List Symbol}
    → primary inner (symbols.Primitive p ∷ rest) ≡ Ok (Primitive (length (symbols.Primitive p ∷ rest)) p, rest)
unfolding by_first
primitive_is inner = refl

grouped_reads : (inner : Reader) (ts : List Symbol) (x : Tree) (rest : List Symbol)
    → enclosed inner insides.Expression ts ≡ Ok (x, rest) → primary inner (Open ∷ ts) ≡ Ok (Group (length (Open ∷ ts)) x, rest)
unfolding by_first
grouped_reads inner ts x rest e = rw e refl

abstracted_reads : (inner : Reader) (ts mid : List Symbol) (ns : List ℕ) (x : Tree) (rest : List Symbol)
    → name_list ts ≡ Ok (ns, Close ∷ Dot ∷ Open ∷ mid) → enclosed inner insides.Expression mid ≡ Ok (x, rest)
    → primary inner (symbols.Backslash ∷ Open ∷ ts) ≡ Ok (Abstraction (length (symbols.Backslash ∷ Open ∷ ts)) ns x, rest)
unfolding by_first abstraction
abstracted_reads inner ts mid ns x rest e f = rw (e, f) refl

cased_reads : (inner : Reader) (ts : List Symbol) (x : Tree) (rest : List Symbol) → inner insides.Rules ts ≡ Ok (x, CloseBrace ∷ rest)
    → primary inner (symbols.Case ∷ OpenBrace ∷ ts) ≡ Ok (Case (length (symbols.Case ∷ OpenBrace ∷ ts)) x, rest)
unfolding by_first case_of
cased_reads inner ts x rest e = rw e refl

waved_reads : (inner : Reader) (ts : List Symbol) (xs : List Literal) (rest : List Symbol) → literal_list ts ≡ Ok (xs, CloseBrace ∷ rest)
    → primary inner (symbols.Waveform ∷ OpenBrace ∷ ts) ≡ Ok (Waveform (length (symbols.Waveform ∷ OpenBrace ∷ ts)) xs, rest)
unfolding by_first waveform
waved_reads inner ts xs rest e = rw e refl

iterated_reads : (inner : Reader) (n : ℕ) (ts mid rest : List Symbol) (i : Repetition) (x y : Tree)
    → argument inner ts ≡ Ok (x, mid) → enclosed inner insides.Expression mid ≡ Ok (y, rest)
    → primary inner (symbols.Iteration i ∷ Open ∷ Name n ∷ Comma ∷ ts)
    ≡ Ok (Iteration (length (symbols.Iteration i ∷ Open ∷ Name n ∷ Comma ∷ ts)) i n x y, rest)
unfolding by_first iteration
iterated_reads inner n ts mid rest i x y p q = rw (p, q) refl

ported_reads : (inner : Reader) (ts rest : List Symbol) (s : Side) (x : Tree)
    → enclosed inner insides.Expression ts ≡ Ok (x, rest)
    → primary inner (symbols.Ports s ∷ Open ∷ ts) ≡ Ok (Ports (length (symbols.Ports s ∷ Open ∷ ts)) s x, rest)
unfolding by_first ports
ported_reads inner ts rest s x p = rw p refl

switched_reads : (inner : Reader) (s : ℕ) (rest : List Symbol) (k : SwitchKind)
    → primary inner (symbols.Switch k ∷ Open ∷ Text s ∷ Close ∷ rest) ≡ Ok (Switch (length (symbols.Switch k ∷ Open ∷ Text s ∷ Close ∷ rest)) k s, rest)
unfolding by_first switch
switched_reads inner s rest k = refl

slid_reads : (inner : Reader) (s : ℕ) (ts t1 t2 t3 rest : List Symbol) (k : SliderKind) (x0 x1 x2 x3 : Tree)
    → argument inner ts ≡ Ok (x0, t1) → argument inner t1 ≡ Ok (x1, t2) → argument inner t2 ≡ Ok (x2, t3) → enclosed inner insides.Argument t3 ≡ Ok (x3, rest)
    → primary inner (symbols.Slider k ∷ Open ∷ Text s ∷ Comma ∷ ts) ≡ Ok (Slider (length (symbols.Slider k ∷ Open ∷ Text s ∷ Comma ∷ ts)) k s x0 x1 x2 x3, rest)
unfolding by_first slider label
slid_reads inner s ts t1 t2 t3 rest k x0 x1 x2 x3 p q r u = rw (p, q, r, u) refl

paneled_reads : (inner : Reader) (s : ℕ) (ts rest : List Symbol) (k : PanelKind) (x : Tree)
    → enclosed inner insides.Expression ts ≡ Ok (x, rest)
    → primary inner (symbols.Panel k ∷ Open ∷ Text s ∷ Comma ∷ ts) ≡ Ok (Panel (length (symbols.Panel k ∷ Open ∷ Text s ∷ Comma ∷ ts)) k s x, rest)
unfolding by_first panel label
paneled_reads inner s ts rest k x p = rw p refl

-- ---- brackets
-- an operator is no bracket
operator_nests : (limit depth : ℕ) (kind : Operands) (comma : Commas) (t : Symbol) (ts : List Symbol)
    → 1 < power kind comma t → power kind comma t < 99 → Nests limit depth (t ∷ ts) → Nests limit depth ts
operator_nests limit depth operands.Patterns comma Open ts h k n = absurd (omega arith)
operator_nests limit depth operands.Expressions comma Open ts h k n = absurd (omega arith)
operator_nests limit depth kind comma OpenBrace ts h k n = absurd (omega arith)
operator_nests limit depth kind comma Close ts h k n = absurd (omega arith)
operator_nests limit depth kind comma CloseBrace ts h k n = absurd (omega arith)
operator_nests limit depth kind comma t ts h k n = n

names_nest : {ts rest : List Symbol} {ns : List ℕ} → SpellsNames ts ns rest → (limit depth : ℕ) → Nests limit depth ts → Nests limit depth rest
names_nest one_name limit depth h = h
names_nest (more_names p) limit depth h = names_nest p limit depth h

number_nests : {ts rest : List Symbol} {x : Literal} → SpellsNumber ts x rest → (limit depth : ℕ) → Nests limit depth ts → Nests limit depth rest
number_nests unsigned limit depth h = h
number_nests with_plus limit depth h = h
number_nests with_minus limit depth h = h

numbers_nest : {ts rest : List Symbol} {xs : List Literal} → SpellsNumbers ts xs rest → (limit depth : ℕ) → Nests limit depth ts → Nests limit depth rest
numbers_nest (one_number s) limit depth h = number_nests s limit depth h
numbers_nest (more_numbers s p) limit depth h = numbers_nest p limit depth (number_nests s limit depth h)

-- ---- by induction on how a tree is spelled
-- What is spelled within the limit is read with the nesting that is left, and what follows it is within the limit.
pub complete : {level : Level} {ts rest : List Symbol} {x : Tree}
    → Spells level ts x rest → (limit d nesting : ℕ) → nesting + d ≡ limit → Nests limit d ts
    → Reads level (within nesting) ts x rest × Nests limit d rest
complete (no_more {items = items} {rest = rest}) limit d nesting e n = (no_more_reads (within nesting) items rest, n)
complete (stated {ts = ts} {mid = mid} {rest = rest} {x = x} {y = y} p q) limit d nesting e n =
    let a = complete p limit d nesting e n in
    let b = complete q limit d nesting e a.1 in (
      item_reads (within nesting) Statements ts mid rest x y (statement_item (within nesting) ts x mid (definition_begins p) a.0)
          (definition_shorter p) b.0,
      b.1,
    )
complete (declared {n = m} {s = s} {ts = ts} {rest = rest} {x = x} p) limit d nesting e n =
    let a = complete p limit d nesting e n in
    (skip_reads (within nesting) Statements (Declare ∷ Name m ∷ Text s ∷ Semicolon ∷ ts) ts rest x refl (omega arith) a.0, a.1)
complete (declared_for {n = m} {m = k} {s = s} {ts = ts} {rest = rest} {x = x} p) limit d nesting e n =
    let a = complete p limit d nesting e n in
    (skip_reads (within nesting) Statements (Declare ∷ Name m ∷ Name k ∷ Text s ∷ Semicolon ∷ ts) ts rest x refl (omega arith) a.0, a.1)
complete (defined {ts = ts} {mid = mid} {rest = rest} {x = x} {y = y} p q) limit d nesting e n =
    let a = complete p limit d nesting e n in
    let b = complete q limit d nesting e a.1 in (
      item_reads (within nesting) Definitions ts mid rest x y (definition_item (within nesting) ts x mid (definition_begins p) a.0)
          (definition_shorter p) b.0,
      b.1,
    )
complete (ruled {ts = ts} {mid = mid} {rest = rest} {x = x} {y = y} p q) limit d nesting e n =
    let a = complete p limit d nesting e n in
    let b = complete q limit d nesting e a.1 in
    (item_reads (within nesting) Rules ts mid rest x y (rule_item (within nesting) ts x mid (rule_begins p) a.0) (rule_shorter p) b.0, b.1)
complete (parted {kind = kind} {ts = ts} {mid = mid} {rest = rest} {x = x} {y = y} p q) limit d nesting e n =
    let a = complete p limit d nesting e n in
    let b = complete q limit d nesting e a.1 in
    (parted_reads (within nesting) kind ts mid rest x y (no_longer p) (part_follows kind q) a.0 b.0, b.1)
complete (first_rule {ts = ts} {mid = mid} {rest = rest} {x = x} {y = y} p q) limit d nesting e n =
    let a = complete p limit d nesting e n in
    let b = complete q limit d nesting e a.1 in
    (first_rule_reads (within nesting) ts mid rest x y a.0 b.0, b.1)
complete (first_part {kind = kind} {ts = ts} {mid = mid} {rest = rest} {x = x} {y = y} p q) limit d nesting e n =
    let a = complete p limit d nesting e n in
    let b = complete q limit d nesting e a.1 in
    (first_part_reads (within nesting) kind ts mid rest x y (part_follows kind q) a.0 b.0, b.1)
complete (constant {n = m} {ts = ts} {rest = rest} {x = x} p) limit d nesting e n =
    let a = complete p limit d nesting e n in
    (constant_reads (within nesting) m ts x rest a.0, a.1)
complete (function {n = m} {ts = ts} {mid = mid} {rest = rest} {ps = ps} {x = x} p q) limit d nesting e n =
    let le : d + 1 ≤ limit = n.0 in
    let a = complete p limit (suc d) (nesting - 1) (omega arith) n.1 in
    let b = complete q limit d nesting e a.1 in
    (function_reads (within nesting) m ts mid ps x rest (in_patterns nesting ts ps (Equals ∷ mid) (omega arith) a.0) b.0, b.1)
complete (rule {ts = ts} {mid = mid} {rest = rest} {ps = ps} {x = x} p q) limit d nesting e n =
    let le : d + 1 ≤ limit = n.0 in
    let a = complete p limit (suc d) (nesting - 1) (omega arith) n.1 in
    let b = complete q limit d nesting e a.1 in
    (rule_reads (within nesting) ts mid ps x rest (in_patterns nesting ts ps (Arrow ∷ mid) (omega arith) a.0) b.0, b.1)
complete (plain {ts = ts} {rest = rest} {x = x} p) limit d nesting e n =
    let a = complete p limit d nesting e n in
    (plain_reads (within nesting) ts x rest a.0, a.1)
complete (qualified {ts = ts} {mid = mid} {rest = rest} {x = x} {y = y} p q) limit d nesting e n =
    let a = complete p limit d nesting e n in
    let le : d + 1 ≤ limit = a.1.0 in
    let b = complete q limit (suc d) (nesting - 1) (omega arith) a.1.1 in
    let fewer = no_longer q in
    (qualified_reads (within nesting) ts mid rest x y (omega arith) a.0 (in_definitions nesting mid y rest (omega arith) b.0), b.1)
complete (tighter {kind = kind} {comma = comma} {h = h} {ts = ts} {rest = rest} {x = x} p) limit d nesting e n =
    let a = complete p limit d nesting e n in
    (tighter_reads (within nesting) kind comma h ts x rest a.0, a.1)
complete (leftward {kind = kind} {comma = comma} {h = h} {ts = ts} {mid = mid} {rest = rest} t {x = x} {y = y} low left r p q) limit d nesting e n =
    let a = complete p limit d nesting e n in
    let b = complete q limit d nesting e (operator_nests limit d kind comma t mid (omega arith) (omega arith) a.1) in
    (leftward_reads (within nesting) kind comma h ts mid rest t x y left r (no_longer q) a.0 b.0, b.1)
complete (rightward {kind = kind} {comma = comma} {h = h} {ts = ts} {mid = mid} {rest = rest} t {x = x} {y = y} low right r p q) limit d nesting e n =
    let a = complete p limit d nesting e n in
    let b = complete q limit d nesting e (operator_nests limit d kind comma t mid (omega arith) (omega arith) a.1) in
    (rightward_reads (within nesting) kind comma h ts mid rest t x y right r (no_longer p) a.0 b.0, b.1)
complete (operand {comma = comma} {ts = ts} {rest = rest} {x = x} p) limit d nesting e n =
    let a = complete p limit d nesting e n in
    (operand_reads (within nesting) comma ts x rest a.0, a.1)
complete (pattern_operand {comma = comma} {ts = ts} {rest = rest} {x = x} p) limit d nesting e n =
    let a = complete p limit d nesting e n in
    (pattern_operand_reads (within nesting) comma ts x rest a.0, a.1)
complete (bare {ts = ts} {rest = rest} {x = x} p) limit d nesting e n =
    let a = complete p limit d nesting e n in
    (bare_reads (within nesting) ts x rest a.0, a.1)
complete (delayed {ts = ts} {rest = rest} {x = x} p) limit d nesting e n =
    let a = complete p limit d nesting e n in
    (delayed_reads (within nesting) ts x rest a.0, a.1)
complete (applied {ts = ts} {mid = mid} {rest = rest} {x = x} {y = y} p q) limit d nesting e n =
    let a = complete p limit d nesting e n in
    let le : d + 1 ≤ limit = a.1.0 in
    let b = complete q limit (suc d) (nesting - 1) (omega arith) a.1.1 in
    let fewer = no_longer q in
    (applied_reads (within nesting) ts mid rest x y (omega arith) a.0 (in_arguments nesting mid y rest (omega arith) b.0), b.1)
complete number limit d nesting e n = ((λ follows. number_is (within nesting)), n)
complete plus_number limit d nesting e n = ((λ follows. plus_number_is (within nesting)), n)
complete minus_number limit d nesting e n = ((λ follows. minus_number_is (within nesting)), n)
complete minus_name limit d nesting e n = ((λ follows. minus_name_is (within nesting)), n)
complete named limit d nesting e n = ((λ follows. named_is (within nesting)), n)
complete (plus {rest = rest}) limit d nesting e n = ((λ follows. plus_is (within nesting) rest follows), n)
complete (minus {rest = rest}) limit d nesting e n = ((λ follows. minus_is (within nesting) rest follows), n)
complete primitive limit d nesting e n = ((λ follows. primitive_is (within nesting)), n)
complete (grouped {ts = ts} {rest = rest} {x = x} p) limit d nesting e n =
    let le : d + 1 ≤ limit = n.0 in
    let a = complete p limit (suc d) (nesting - 1) (omega arith) n.1 in
    ((λ follows. grouped_reads (within nesting) ts x rest (in_expression nesting ts x rest (omega arith) a.0)), a.1)
complete (abstracted {ts = ts} {mid = mid} {rest = rest} {ns = ns} {x = x} names p) limit d nesting e n =
    let le : d + 1 ≤ limit = n.0 in
    let front = names_nest names limit (suc d) n.1 in
    let a = complete p limit (suc d) (nesting - 1) (omega arith) front.1 in
    ((λ follows. abstracted_reads (within nesting) ts mid ns x rest (complete_names names refl) (in_expression nesting mid x rest (omega arith) a.0)), a.1)
complete (cased {ts = ts} {rest = rest} {x = x} p) limit d nesting e n =
    let le : d + 1 ≤ limit = n.0 in
    let a = complete p limit (suc d) (nesting - 1) (omega arith) n.1 in
    ((λ follows. cased_reads (within nesting) ts x rest (in_rules nesting ts x rest (omega arith) a.0)), a.1)
complete (waved {ts = ts} {rest = rest} {xs = xs} p) limit d room e n =
    ((λ follows. waved_reads (within room) ts xs rest (complete_numbers p refl)), numbers_nest p limit (suc d) n.1)
complete (iterated {i = i} {n = m} {ts = ts} {mid = mid} {rest = rest} {x = x} {y = y} p q) limit d nesting e n =
    let le : d + 1 ≤ limit = n.0 in
    let a = complete p limit (suc d) (nesting - 1) (omega arith) n.1 in
    let b = complete q limit (suc d) (nesting - 1) (omega arith) a.1 in (
      (λ follows. iterated_reads (within nesting) m ts mid rest i x y
          (in_argument nesting ts x mid (omega arith) a.0) (in_expression nesting mid y rest (omega arith) b.0)),
      b.1,
    )
complete (ported {s = s} {ts = ts} {rest = rest} {x = x} p) limit d nesting e n =
    let le : d + 1 ≤ limit = n.0 in
    let a = complete p limit (suc d) (nesting - 1) (omega arith) n.1 in
    ((λ follows. ported_reads (within nesting) ts rest s x (in_expression nesting ts x rest (omega arith) a.0)), a.1)
complete (switched {k = k} {s = s} {rest = rest}) limit d nesting e n =
    ((λ follows. switched_reads (within nesting) s rest k), n.1)
complete (slid {k = k} {s = s} {ts = ts} {t1 = t1} {t2 = t2} {t3 = t3} {rest = rest} {x0 = x0} {x1 = x1} {x2 = x2} {x3 = x3} p q r u) limit d nesting e n =
    let le : d + 1 ≤ limit = n.0 in
    let a = complete p limit (suc d) (nesting - 1) (omega arith) n.1 in
    let b = complete q limit (suc d) (nesting - 1) (omega arith) a.1 in
    let c = complete r limit (suc d) (nesting - 1) (omega arith) b.1 in
    let f = complete u limit (suc d) (nesting - 1) (omega arith) c.1 in (
      (λ follows. slid_reads (within nesting) s ts t1 t2 t3 rest k x0 x1 x2 x3 (in_argument nesting ts x0 t1 (omega arith) a.0)
          (in_argument nesting t1 x1 t2
          (omega arith) b.0) (in_argument nesting t2 x2 t3 (omega arith) c.0) (in_last_argument nesting t3 x3 rest (omega arith) f.0)),
      f.1,
    )
complete (paneled {k = k} {s = s} {ts = ts} {rest = rest} {x = x} p) limit d nesting e n =
    let le : d + 1 ≤ limit = n.0 in
    let a = complete p limit (suc d) (nesting - 1) (omega arith) n.1 in
    ((λ follows. paneled_reads (within nesting) s ts rest k x (in_expression nesting ts x rest (omega arith) a.0)), a.1)
complete atom_number limit d nesting e n = (refl, n)
complete atom_plus_number limit d nesting e n = (refl, n)
complete atom_minus_number limit d nesting e n = (refl, n)
complete atom_name limit d nesting e n = (refl, n)
complete (atom_grouped {ts = ts} {rest = rest} {x = x} p) limit d nesting e n =
    let le : d + 1 ≤ limit = n.0 in
    let a = complete p limit (suc d) (nesting - 1) (omega arith) n.1 in
    (in_pattern nesting ts x rest (omega arith) a.0, a.1)

-- A program that is spelled is read, and read as that tree.
pub program_complete : (ts : List Symbol) (x : Tree) (limit : ℕ) → SpellsProgram ts x → Nests limit 0 ts → program limit ts ≡ Ok x
unfolding program
program_complete ts x limit p n =
    let a = complete p limit 0 limit (omega arith) n in
    let read : further (within limit) Statements ts ≡ Ok (x, []) = a.0 refl in
    rw read refl

-- ---- no two trees
-- Brackets are never more than tokens.
pub nests_among : (limit d : ℕ) (ts : List Symbol) → d + length ts ≤ limit → Nests limit d ts
nests_among limit d [] h = tt
nests_among limit d (Open ∷ ts) h = (omega arith, nests_among limit (suc d) ts (omega arith))
nests_among limit d (OpenBrace ∷ ts) h = (omega arith, nests_among limit (suc d) ts (omega arith))
nests_among limit zero (Close ∷ ts) h = nests_among limit zero ts (omega arith)
nests_among limit (suc d) (Close ∷ ts) h = nests_among limit d ts (omega arith)
nests_among limit zero (CloseBrace ∷ ts) h = nests_among limit zero ts (omega arith)
nests_among limit (suc d) (CloseBrace ∷ ts) h = nests_among limit d ts (omega arith)
nests_among limit d (t ∷ ts) h = nests_among limit d ts (omega arith)

-- The same tokens spell no two programs.
pub one_program : (ts : List Symbol) (x y : Tree) → SpellsProgram ts x → SpellsProgram ts y → x ≡ y
one_program ts x y p q =
    let n = nests_among (length ts) 0 ts (omega arith) in
    let a = program_complete ts x (length ts) p n in
    let b = program_complete ts y (length ts) q n in
    cc
