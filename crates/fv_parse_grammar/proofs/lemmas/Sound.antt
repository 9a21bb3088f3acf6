-- What is read is spelled.
use Rattle.fv_parse_grammar.specs.headline.Tree.{Waveform, Panel, Delayed, Binary, Where, Rule, Constant, Function, End, More}
use Rattle.std.proofs.Common.{◌≡◌, ℕ, zero, suc, ◌<◌, true, false, List, [], ◌∷◌, length, drop, Result, Ok, Err, refl, sym, ap, subst, ◌∙◌, arith}
use Rattle.std.specs.Prelude.{nat_lt, nat_eq}
use Rattle.std.proofs.lemmas.Bool.{eqb-true}
use Rattle.fv_lex.specs.declared.token.Symbol.{Symbol}
use Rattle.fv_lex.specs.declared.token.Symbol.TheVariants.{Name, Text, Integer, Comma, Open, Close, OpenBrace, CloseBrace}
use Rattle.fv_lex.specs.declared.token.Symbol.TheVariants.{Equals, Arrow, Semicolon, Dot, Declare, With, Tick}
use Rattle.fv_lex.specs.declared.token.Symbol.TheVariants as symbols
use Rattle.fv_num.specs.declared.primitive.Primitive.TheVariants as primitives
use Rattle.fv_num.specs.declared.op.Op.TheVariants.{Add, Sub}
use Rattle.fv_parse_grammar.specs.headline.Grammar.{SpellsNumbers, waved}
use Rattle.fv_parse_grammar.specs.Descent.{waveform, Step, Next, rights, chain, Reader, power_at, operator_at}
use Rattle.fv_lex.specs.declared.form.Iteration.{Iteration as Repetition}
use Rattle.fv_lex.specs.declared.form.Side.{Side}
use Rattle.fv_lex.specs.declared.form.Switch.{Switch as SwitchKind}
use Rattle.fv_lex.specs.declared.form.Slider.{Slider as SliderKind}
use Rattle.fv_lex.specs.declared.form.Panel.{Panel as PanelKind}
use Rattle.fv_parse_grammar.specs.declared.symbol.Inside.{Inside}
use Rattle.fv_parse_grammar.specs.declared.symbol.Inside.TheVariants as insides
use Rattle.fv_parse_grammar.specs.declared.symbol.Items.{Items}
use Rattle.fv_parse_grammar.specs.declared.symbol.Items.TheVariants.{Statements, Definitions, Rules, Parts}
use Rattle.fv_parse_grammar.specs.declared.symbol.Mark.TheVariants as marks
use Rattle.fv_parse_grammar.specs.headline.Symbols.{power, operator, is_left}
use Rattle.fv_parse_grammar.specs.headline.Tree.{Tree, Number, Negative, Named, MinusNamed, Primitive}
use Rattle.fv_parse_grammar.specs.headline.Tree.{Group, Abstraction, Case, Iteration, Ports, Switch, Slider}
use Rattle.fv_parse_grammar.specs.headline.Grammar.{Level, Further, Definition, Expression, Listed, OneRule, Phrase, Postfix, Primary, Atom, SpellsNames}
use Rattle.fv_parse_grammar.specs.headline.Grammar.{Spells, SpellsProgram, no_more, stated, declared, declared_for, defined, ruled, parted, first_rule}
use Rattle.fv_parse_grammar.specs.headline.Grammar.{first_part, constant, function, rule, plain, qualified, tighter, leftward, rightward, operand}
use Rattle.fv_parse_grammar.specs.headline.Grammar.{pattern_operand, bare, delayed, applied, number, plus_number, minus_number, minus_name, named}
use Rattle.fv_parse_grammar.specs.headline.Grammar.{plus, minus, primitive, grouped, abstracted, cased, iterated, ported, switched, slid, paneled}
use Rattle.fv_parse_grammar.specs.headline.Grammar.{atom_number, atom_plus_number, atom_minus_number, atom_name, atom_grouped}
use Rattle.fv_parse_grammar.specs.Descent as descent
use Rattle.fv_parse_grammar.specs.Descent.{enclosed, argument, group, abstraction, case_of, iteration, ports, switch, label, slider, panel, by_first}
use Rattle.fv_parse_grammar.specs.Descent.{primary, postfix, postfix_turn, atom_by_first, atom, phrase, left_turn, expression, with_turn, ended}
use Rattle.fv_parse_grammar.specs.Descent.{function_after, constant_after, after_name, definition, one_rule, declared_text, declaration, Item}
use Rattle.fv_parse_grammar.specs.Descent.{Nothing, Skip, One, Fault, one_of, item, with_item, many, further, listed, within, program, whole_text}
use Rattle.fv_parse_grammar.specs.declared.symbol.Operands.{Operands}
use Rattle.fv_parse_grammar.specs.declared.symbol.Commas.{Commas}
use Rattle.fv_parse_grammar.specs.declared.symbol.Operands.TheVariants as operands
use Rattle.fv_parse_grammar.specs.declared.symbol.Commas.TheVariants as commas
use Rattle.fv_parse_grammar.proofs.lemmas.Tokens.{bind_ok, turn_next, took, read_as, expect_ok, a_name_ok, a_text_ok}
use Rattle.fv_parse_grammar.proofs.Separated.{either, run_keeps, names_sound, literals_sound}

-- the level of what stands in brackets
abbrev pub level_of : Inside → Level
level_of insides.Expression = Expression
level_of insides.Argument = Phrase operands.Expressions commas.Separate 8
level_of insides.Pattern = Phrase operands.Patterns commas.Join 8
level_of insides.Arguments = Listed (Parts operands.Expressions)
level_of insides.Patterns = Listed (Parts operands.Patterns)
level_of insides.Rules = Listed Rules
level_of insides.Definitions = Further Definitions

abbrev pub IsSound : Level → (List Symbol → Step Tree) → Type 0
IsSound level read = (ts : List Symbol) (x : Tree) (rest : List Symbol) → read ts ≡ Ok (x, rest) → Spells level ts x rest

-- the inside of brackets is read soundly
abbrev pub IsSoundInside : Reader → Type 0
IsSoundInside inner = (what : Inside) → IsSound (level_of what) (inner what)

-- ---- what has no brackets within

-- what is spelled, under another tree and rest that are equal to these
moved : (level : Level) (ts : List Symbol) (x y : Tree) (a b : List Symbol) → Spells level ts x a → took x a ≡ took y b → Spells level ts y b
moved level ts x y a b t e = let p = read_as x y a b e in subst (λ r. Spells level ts y r) p.1 (subst (λ z. Spells level ts z a) p.0 t)

waveform_sound : (ts : List Symbol) (x : Tree) (rest : List Symbol)
    → waveform (length (symbols.Waveform ∷ ts)) ts ≡ Ok (x, rest) → Spells Primary (symbols.Waveform ∷ ts) x rest
unfolding waveform
waveform_sound ts x rest e =
    let (opened, o, e1) = bind_ok _ _ _ e in
    let (xs, read, e2) = bind_ok _ _ _ e1 in
    let (closed, c, done) = bind_ok _ _ _ e2 in
    let inside : SpellsNumbers opened xs.0 (CloseBrace ∷ closed) =
    subst (λ r. SpellsNumbers opened xs.0 r) (expect_ok marks.CloseBrace xs.1 closed c) (literals_sound opened xs.0 xs.1 read) in
    let all : Spells Primary (symbols.Waveform ∷ OpenBrace ∷ opened) (Waveform (length (symbols.Waveform ∷ OpenBrace ∷ opened)) xs.0) closed = waved inside in
    moved Primary (symbols.Waveform ∷ ts) (Waveform (length (symbols.Waveform ∷ ts)) xs.0) x closed rest
    (subst (λ l. Spells Primary (symbols.Waveform ∷ l) (Waveform (length (symbols.Waveform ∷ l)) xs.0) closed)
    (sym (expect_ok marks.OpenBrace ts opened o)) all) done

label_ok : (ts : List Symbol) (s : ℕ) (rest : List Symbol) → label ts ≡ Ok (s, rest) → ts ≡ Open ∷ Text s ∷ Comma ∷ rest
unfolding label
label_ok ts s rest e =
    let (opened, o, e1) = bind_ok _ _ _ e in
    let (text, texted, e2) = bind_ok _ _ _ e1 in
    let (end, c, done) = bind_ok _ _ _ e2 in
    let same = read_as text.0 s end rest done in
    expect_ok marks.Open ts opened o ∙ ap (λ r. Open ∷ r) (a_text_ok opened text.0 text.1 texted
    ∙ ap (λ n. Text n ∷ text.1) same.0 ∙ ap (λ r. Text s ∷ r) (expect_ok marks.Comma text.1 end c ∙ ap (λ r. Comma ∷ r) same.1))

switch_sound : (k : SwitchKind) (ts : List Symbol) (x : Tree) (rest : List Symbol) → switch (length (symbols.Switch k ∷ ts)) k ts ≡ Ok (x, rest)
    → Spells Primary (symbols.Switch k ∷ ts) x rest
unfolding switch
switch_sound k ts x rest e =
    let (opened, o, e1) = bind_ok _ _ _ e in
    let (text, texted, e2) = bind_ok _ _ _ e1 in
    let (closed, c, done) = bind_ok _ _ _ e2 in
    let front : ts ≡ Open ∷ Text text.0 ∷ Close ∷ closed = expect_ok marks.Open ts opened o
    ∙ ap (λ r. Open ∷ r) (a_text_ok opened text.0 text.1 texted ∙ ap (λ r. Text text.0 ∷ r) (expect_ok marks.Close text.1 closed c)) in
    let all : Spells Primary (symbols.Switch k ∷ Open ∷ Text text.0 ∷ Close ∷ closed)
    (Switch (length (symbols.Switch k ∷ Open ∷ Text text.0 ∷ Close ∷ closed)) k text.0) closed =
    switched in
    moved Primary (symbols.Switch k ∷ ts) (Switch (length (symbols.Switch k ∷ ts)) k text.0) x closed rest
    (subst (λ l. Spells Primary (symbols.Switch k ∷ l) (Switch (length (symbols.Switch k ∷ l)) k text.0) closed) (sym front) all) done

-- ---- in brackets
module _ (inner : Reader) (sound : IsSoundInside inner) where
  enclosed_sound : (what : Inside) (ts : List Symbol) (x : Tree) (rest : List Symbol)
      → enclosed inner what ts ≡ Ok (x, rest) → Spells (level_of what) ts x (Close ∷ rest)
  enclosed_sound what ts x rest e =
      let (z, was, then) = bind_ok _ _ _ e in
      let (end, closed, done) = bind_ok _ _ _ then in
      let same = read_as z.0 x end rest done in
      let inside : Spells (level_of what) ts z.0 z.1 = sound what ts z.0 z.1 was in
      subst (λ y. Spells (level_of what) ts y (Close ∷ rest)) same.0
      (subst (λ r. Spells (level_of what) ts z.0 r) (expect_ok marks.Close z.1 end closed ∙ ap (λ r. Close ∷ r) same.1) inside)

  argument_sound : (ts : List Symbol) (x : Tree) (rest : List Symbol)
      → argument inner ts ≡ Ok (x, rest) → Spells (Phrase operands.Expressions commas.Separate 8) ts x (Comma ∷ rest)
  argument_sound ts x rest e =
      let (z, was, then) = bind_ok _ _ _ e in
      let (end, closed, done) = bind_ok _ _ _ then in
      let same = read_as z.0 x end rest done in
      let inside : Spells (Phrase operands.Expressions commas.Separate 8) ts z.0 z.1 = sound insides.Argument ts z.0 z.1 was in
      subst (λ y. Spells (Phrase operands.Expressions commas.Separate 8) ts y (Comma ∷ rest)) same.0 (subst
      (λ r. Spells (Phrase operands.Expressions commas.Separate 8) ts z.0 r) (expect_ok marks.Comma z.1 end closed ∙ ap (λ r. Comma ∷ r) same.1) inside)

  -- an operand that a first token begins
  group_sound : (ts : List Symbol) (x : Tree) (rest : List Symbol) → group inner (length (Open ∷ ts)) ts ≡ Ok (x, rest) → Spells Primary (Open ∷ ts) x rest
  group_sound ts x rest e =
      let (z, was, done) = bind_ok _ _ _ e in
      moved Primary (Open ∷ ts) (Group (length (Open ∷ ts)) z.0) x z.1 rest (grouped (enclosed_sound insides.Expression ts z.0 z.1 was)) done

  abstraction_sound : (ts : List Symbol) (x : Tree) (rest : List Symbol)
      → abstraction inner (length (symbols.Backslash ∷ ts)) ts ≡ Ok (x, rest) → Spells Primary (symbols.Backslash ∷ ts) x rest
  unfolding abstraction
  abstraction_sound ts x rest e =
      let (opened, o, e1) = bind_ok _ _ _ e in
      let (ns, read, e2) = bind_ok _ _ _ e1 in
      let (closed, c, e3) = bind_ok _ _ _ e2 in
      let (dotted, d, e4) = bind_ok _ _ _ e3 in
      let (again, g, e5) = bind_ok _ _ _ e4 in
      let (z, was, done) = bind_ok _ _ _ e5 in
      let behind : ns.1 ≡ Close ∷ Dot ∷ Open ∷ again = expect_ok marks.Close ns.1 closed c
      ∙ ap (λ r. Close ∷ r) (expect_ok marks.Dot closed dotted d ∙ ap (λ r. Dot ∷ r) (expect_ok marks.Open dotted again g)) in
      let front : SpellsNames opened ns.0 (Close ∷ Dot ∷ Open ∷ again) =
      subst (λ r. SpellsNames opened ns.0 r) behind (names_sound opened ns.0 ns.1 read) in
      let all : Spells Primary (symbols.Backslash ∷ Open ∷ opened) (Abstraction (length (symbols.Backslash ∷ Open ∷ opened)) ns.0 z.0) z.1 =
      abstracted front (enclosed_sound insides.Expression again z.0 z.1 was) in
      moved Primary (symbols.Backslash ∷ ts) (Abstraction (length (symbols.Backslash ∷ ts)) ns.0 z.0) x z.1 rest
      (subst (λ l. Spells Primary (symbols.Backslash ∷ l) (Abstraction (length (symbols.Backslash ∷ l)) ns.0 z.0) z.1)
      (sym (expect_ok marks.Open ts opened o)) all) done

  case_sound : (ts : List Symbol) (x : Tree) (rest : List Symbol)
      → case_of inner (length (symbols.Case ∷ ts)) ts ≡ Ok (x, rest) → Spells Primary (symbols.Case ∷ ts) x rest
  unfolding case_of
  case_sound ts x rest e =
      let (opened, o, e1) = bind_ok _ _ _ e in
      let (z, was, e2) = bind_ok _ _ _ e1 in
      let (closed, c, done) = bind_ok _ _ _ e2 in
      let inside : Spells (Listed Rules) opened z.0 (CloseBrace ∷ closed) =
      subst (λ r. Spells (Listed Rules) opened z.0 r) (expect_ok marks.CloseBrace z.1 closed c) (sound insides.Rules opened z.0 z.1 was) in
      let all : Spells Primary (symbols.Case ∷ OpenBrace ∷ opened) (Case (length (symbols.Case ∷ OpenBrace ∷ opened)) z.0) closed = cased inside in
      moved Primary (symbols.Case ∷ ts) (Case (length (symbols.Case ∷ ts)) z.0) x closed rest
      (subst (λ l. Spells Primary (symbols.Case ∷ l) (Case (length (symbols.Case ∷ l)) z.0) closed) (sym (expect_ok marks.OpenBrace ts opened o)) all) done

  iteration_sound : (i : Repetition) (ts : List Symbol) (x : Tree) (rest : List Symbol)
      → iteration inner (length (symbols.Iteration i ∷ ts)) i ts ≡ Ok (x, rest)
      → Spells Primary (symbols.Iteration i ∷ ts) x rest
  unfolding iteration
  iteration_sound i ts x rest e =
      let (opened, o, e1) = bind_ok _ _ _ e in
      let (n, named_, e2) = bind_ok _ _ _ e1 in
      let (after_comma, c, e3) = bind_ok _ _ _ e2 in
      let (count, counted, e4) = bind_ok _ _ _ e3 in
      let (body, was, done) = bind_ok _ _ _ e4 in
      let front : ts ≡ Open ∷ Name n.0 ∷ Comma ∷ after_comma = expect_ok marks.Open ts opened o
      ∙ ap (λ r. Open ∷ r) (a_name_ok opened n.0 n.1 named_ ∙ ap (λ r. Name n.0 ∷ r) (expect_ok marks.Comma n.1 after_comma c)) in
      let all : Spells Primary (symbols.Iteration i ∷ Open ∷ Name n.0 ∷ Comma ∷ after_comma)
      (Iteration (length (symbols.Iteration i ∷ Open ∷ Name n.0 ∷ Comma ∷ after_comma)) i n.0 count.0 body.0) body.1 =
      iterated (argument_sound after_comma count.0 count.1 counted) (enclosed_sound insides.Expression count.1 body.0 body.1 was) in
      moved Primary (symbols.Iteration i ∷ ts) (Iteration (length (symbols.Iteration i ∷ ts)) i n.0 count.0 body.0) x body.1 rest
      (subst (λ l. Spells Primary (symbols.Iteration i ∷ l) (Iteration (length (symbols.Iteration i ∷ l)) i n.0 count.0 body.0) body.1) (sym front) all) done

  ports_sound : (s : Side) (ts : List Symbol) (x : Tree) (rest : List Symbol) → ports inner (length (symbols.Ports s ∷ ts)) s ts ≡ Ok (x, rest)
      → Spells Primary (symbols.Ports s ∷ ts) x rest
  unfolding ports
  ports_sound s ts x rest e =
      let (opened, o, e1) = bind_ok _ _ _ e in
      let (z, was, done) = bind_ok _ _ _ e1 in
      let all : Spells Primary (symbols.Ports s ∷ Open ∷ opened) (Ports (length (symbols.Ports s ∷ Open ∷ opened)) s z.0) z.1 =
      ported (enclosed_sound insides.Expression opened z.0 z.1 was) in
      moved Primary (symbols.Ports s ∷ ts) (Ports (length (symbols.Ports s ∷ ts)) s z.0) x z.1 rest
      (subst (λ l. Spells Primary (symbols.Ports s ∷ l) (Ports (length (symbols.Ports s ∷ l)) s z.0) z.1) (sym (expect_ok marks.Open ts opened o)) all) done

  slider_sound : (k : SliderKind) (ts : List Symbol) (x : Tree) (rest : List Symbol) → slider inner (length (symbols.Slider k ∷ ts)) k ts ≡ Ok (x, rest)
      → Spells Primary (symbols.Slider k ∷ ts) x rest
  unfolding slider
  slider_sound k ts x rest e =
      let (text, labelled, e1) = bind_ok _ _ _ e in
      let (x0, r0, e2) = bind_ok _ _ _ e1 in
      let (x1, r1, e3) = bind_ok _ _ _ e2 in
      let (x2, r2, e4) = bind_ok _ _ _ e3 in
      let (x3, r3, done) = bind_ok _ _ _ e4 in
      let all : Spells Primary (symbols.Slider k ∷ Open ∷ Text text.0 ∷ Comma ∷ text.1)
      (Slider (length (symbols.Slider k ∷ Open ∷ Text text.0 ∷ Comma ∷ text.1)) k text.0 x0.0 x1.0 x2.0 x3.0) x3.1 =
      slid (argument_sound text.1 x0.0 x0.1 r0)
      (argument_sound x0.1 x1.0 x1.1 r1) (argument_sound x1.1 x2.0 x2.1 r2) (enclosed_sound insides.Argument x2.1 x3.0 x3.1 r3) in
      moved Primary (symbols.Slider k ∷ ts) (Slider (length (symbols.Slider k ∷ ts)) k text.0 x0.0 x1.0 x2.0 x3.0) x x3.1 rest
      (subst (λ l. Spells Primary (symbols.Slider k ∷ l) (Slider (length (symbols.Slider k ∷ l)) k text.0 x0.0 x1.0 x2.0 x3.0) x3.1)
      (sym (label_ok ts text.0 text.1 labelled)) all) done

  panel_sound : (k : PanelKind) (ts : List Symbol) (x : Tree) (rest : List Symbol) → panel inner (length (symbols.Panel k ∷ ts)) k ts ≡ Ok (x, rest)
      → Spells Primary (symbols.Panel k ∷ ts) x rest
  unfolding panel
  panel_sound k ts x rest e =
      let (text, labelled, e1) = bind_ok _ _ _ e in
      let (z, was, done) = bind_ok _ _ _ e1 in
      let all : Spells Primary (symbols.Panel k ∷ Open ∷ Text text.0 ∷ Comma ∷ text.1)
      (Panel (length (symbols.Panel k ∷ Open ∷ Text text.0 ∷ Comma ∷ text.1)) k text.0 z.0) z.1 =
      paneled (enclosed_sound insides.Expression text.1 z.0 z.1 was) in
      moved Primary (symbols.Panel k ∷ ts) (Panel (length (symbols.Panel k ∷ ts)) k text.0 z.0) x z.1 rest
      (subst (λ l. Spells Primary (symbols.Panel k ∷ l) (Panel (length (symbols.Panel k ∷ l)) k text.0 z.0) z.1)
      (sym (label_ok ts text.0 text.1 labelled)) all) done

after_plus_sound : (ts : List Symbol) (x : Tree) (rest : List Symbol)
    → descent.after_plus (length (symbols.Plus ∷ ts)) ts ≡ Ok (x, rest) → Spells Primary (symbols.Plus ∷ ts) x rest
after_plus_sound [] x rest e = moved Primary (symbols.Plus ∷ []) (Primitive (length (symbols.Plus ∷ [])) (primitives.Point Add)) x [] rest plus e
after_plus_sound (Integer n ∷ ts) x rest e =
    moved Primary (symbols.Plus ∷ Integer n ∷ ts) (Number (length (symbols.Plus ∷ Integer n ∷ ts)) n) x ts rest plus_number e
after_plus_sound (t ∷ ts) x rest e =
    moved Primary (symbols.Plus ∷ t ∷ ts) (Primitive (length (symbols.Plus ∷ t ∷ ts)) (primitives.Point Add)) x (t ∷ ts) rest plus e

after_minus_sound : (ts : List Symbol) (x : Tree) (rest : List Symbol)
    → descent.after_minus (length (symbols.Minus ∷ ts)) ts ≡ Ok (x, rest) → Spells Primary (symbols.Minus ∷ ts) x rest
after_minus_sound [] x rest e = moved Primary (symbols.Minus ∷ []) (Primitive (length (symbols.Minus ∷ [])) (primitives.Point Sub)) x [] rest minus e
after_minus_sound (Integer n ∷ ts) x rest e =
    moved Primary (symbols.Minus ∷ Integer n ∷ ts) (Negative (length (symbols.Minus ∷ Integer n ∷ ts)) n) x ts rest minus_number e
after_minus_sound (Name n ∷ ts) x rest e =
    moved Primary (symbols.Minus ∷ Name n ∷ ts) (MinusNamed (length (symbols.Minus ∷ Name n ∷ ts)) n) x ts rest minus_name e
after_minus_sound (t ∷ ts) x rest e =
    moved Primary (symbols.Minus ∷ t ∷ ts) (Primitive (length (symbols.Minus ∷ t ∷ ts)) (primitives.Point Sub)) x (t ∷ ts) rest minus e

-- by a sound reader inside brackets
module _ (inner : Reader) (sound : IsSoundInside inner) where
  by_first_sound : (t : Symbol) (ts : List Symbol) (x : Tree) (rest : List Symbol)
      → by_first inner t (t ∷ ts) ts ≡ Ok (x, rest) → Spells Primary (t ∷ ts) x rest
  unfolding by_first
  by_first_sound (Integer n) ts x rest e = moved Primary (Integer n ∷ ts) (Number (length (Integer n ∷ ts)) n) x ts rest number e
  by_first_sound (Name n) ts x rest e = moved Primary (Name n ∷ ts) (Named (length (Name n ∷ ts)) n) x ts rest named e
  by_first_sound symbols.Plus ts x rest e = after_plus_sound ts x rest e
  by_first_sound symbols.Minus ts x rest e = after_minus_sound ts x rest e
  by_first_sound (symbols.Primitive p) ts x rest e =
      moved Primary (symbols.Primitive p ∷ ts) (Primitive (length (symbols.Primitive p ∷ ts)) p) x ts rest primitive e
  by_first_sound Open ts x rest e = group_sound inner sound ts x rest e
  by_first_sound symbols.Backslash ts x rest e = abstraction_sound inner sound ts x rest e
  by_first_sound symbols.Case ts x rest e = case_sound inner sound ts x rest e
  by_first_sound symbols.Waveform ts x rest e = waveform_sound ts x rest e
  by_first_sound (symbols.Iteration i) ts x rest e = iteration_sound inner sound i ts x rest e
  by_first_sound (symbols.Ports s) ts x rest e = ports_sound inner sound s ts x rest e
  by_first_sound (symbols.Switch k) ts x rest e = switch_sound k ts x rest e
  by_first_sound (symbols.Slider k) ts x rest e = slider_sound inner sound k ts x rest e
  by_first_sound (symbols.Panel k) ts x rest e = panel_sound inner sound k ts x rest e
  by_first_sound t ts x rest e = absurd cc

  primary_sound : IsSound Primary (primary inner)
  primary_sound [] x rest e = absurd cc
  primary_sound (t ∷ ts) x rest e = by_first_sound t ts x rest e

  -- ---- postfix
  postfix_step : (all : List Symbol) (x : Tree) (ts : List Symbol) (y : Tree) (rest : List Symbol)
      → Spells Postfix all x ts → postfix_turn inner (length all) x ts ≡ Next y rest → Spells Postfix all y rest
  postfix_step all x [] y rest p e = absurd cc
  postfix_step all x (Tick ∷ ts) y rest p e =
      let same : ts ≡ rest = cc in
      let tree : Delayed (length all) x ≡ y = cc in
      subst (λ z. Spells Postfix all z rest) tree (subst (λ r. Spells Postfix all (Delayed (length all) x) r) same (delayed p))
  postfix_step all x (Open ∷ ts) y rest p e =
      let (z, was, tree) = turn_next _ _ _ _ e in
      subst (λ q. Spells Postfix all q rest) tree (applied p (enclosed_sound inner sound insides.Arguments ts z rest was))
  postfix_step all x (t ∷ ts) y rest p e = absurd cc

  postfix_sound : IsSound Postfix (postfix inner)
  unfolding postfix
  postfix_sound ts x rest e =
      let (z, was, then) = bind_ok _ _ _ e in
      run_keeps (λ y end. Spells Postfix ts y end) (postfix_turn inner (length ts)) (postfix_step ts) z.0 z.1 x rest (bare (primary_sound ts z.0 z.1 was)) then

-- ---- patterns
plus_number_sound : (ts : List Symbol) (x : Tree) (rest : List Symbol)
    → descent.plus_number (length (symbols.Plus ∷ ts)) ts ≡ Ok (x, rest) → Spells Atom (symbols.Plus ∷ ts) x rest
plus_number_sound (Integer n ∷ ts) x rest e =
    moved Atom (symbols.Plus ∷ Integer n ∷ ts) (Number (length (symbols.Plus ∷ Integer n ∷ ts)) n) x ts rest atom_plus_number e
plus_number_sound [] x rest e = absurd cc
plus_number_sound (t ∷ ts) x rest e = absurd cc

minus_number_sound : (ts : List Symbol) (x : Tree) (rest : List Symbol)
    → descent.minus_number (length (symbols.Minus ∷ ts)) ts ≡ Ok (x, rest) → Spells Atom (symbols.Minus ∷ ts) x rest
minus_number_sound (Integer n ∷ ts) x rest e =
    moved Atom (symbols.Minus ∷ Integer n ∷ ts) (Negative (length (symbols.Minus ∷ Integer n ∷ ts)) n) x ts rest atom_minus_number e
minus_number_sound [] x rest e = absurd cc
minus_number_sound (t ∷ ts) x rest e = absurd cc

-- by a sound reader inside brackets
module _ (inner : Reader) (sound : IsSoundInside inner) where
  atom_by_first_sound : (t : Symbol) (ts : List Symbol) (x : Tree) (rest : List Symbol)
      → atom_by_first inner t (t ∷ ts) ts ≡ Ok (x, rest) → Spells Atom (t ∷ ts) x rest
  atom_by_first_sound (Integer n) ts x rest e = moved Atom (Integer n ∷ ts) (Number (length (Integer n ∷ ts)) n) x ts rest atom_number e
  atom_by_first_sound (Name n) ts x rest e = moved Atom (Name n ∷ ts) (Named (length (Name n ∷ ts)) n) x ts rest atom_name e
  atom_by_first_sound symbols.Plus ts x rest e = plus_number_sound ts x rest e
  atom_by_first_sound symbols.Minus ts x rest e = minus_number_sound ts x rest e
  atom_by_first_sound Open ts x rest e = atom_grouped (enclosed_sound inner sound insides.Pattern ts x rest e)
  atom_by_first_sound t ts x rest e = absurd cc

  atom_sound : IsSound Atom (atom inner)
  atom_sound [] x rest e = absurd cc
  atom_sound (t ∷ ts) x rest e = atom_by_first_sound t ts x rest e

  operand_sound : (kind : Operands) (comma : Commas) → IsSound (Phrase kind comma zero) (descent.operand inner kind)
  operand_sound operands.Patterns comma ts x rest e = pattern_operand (atom_sound ts x rest e)
  operand_sound operands.Expressions comma ts x rest e = operand (postfix_sound inner sound ts x rest e)

-- ---- operators
operator_power : (kind : Operands) (comma : Commas) (h : ℕ) (ts : List Symbol) → h < 8 → nat_eq (power_at kind comma ts) (suc (suc h)) ≡ true
    → (t : Symbol) × (ts ≡ t ∷ drop 1 ts) × (power kind comma t ≡ suc (suc h)) × (operator_at ts ≡ operator t)
operator_power kind comma h [] small e = let p : power_at kind comma [] ≡ suc (suc h) = eqb-true (power_at kind comma []) (suc (suc h)) e in
    absurd (omega arith)
operator_power kind comma h (t ∷ ts) small e = (t, refl, eqb-true (power kind comma t) (suc (suc h)) e, refl)

left_step : (part : List Symbol → Step Tree) (kind : Operands) (comma : Commas) (h : ℕ)
    → h < 8 → is_left (suc h) ≡ true → IsSound (Phrase kind comma h) part → (all : List Symbol) (x : Tree) (ts : List Symbol) (y : Tree) (rest : List Symbol)
    → Spells (Phrase kind comma (suc h)) all x ts
    → left_turn part kind comma (suc (suc h)) (length all) x ts ≡ Next y rest → Spells (Phrase kind comma (suc h)) all y rest
left_step part kind comma h small left sound all x ts y rest p e =
    either (Spells (Phrase kind comma (suc h)) all y rest) (nat_eq (power_at kind comma ts) (suc (suc h))) _ _
    (λ on now.
    let (z, was, tree) = turn_next _ _ _ _ now in
    let (t, is, powered, named_) = operator_power kind comma h ts small on in
    let second = sound (drop 1 ts) z rest was in
    subst (λ q. Spells (Phrase kind comma (suc h)) all q rest) (ap (λ o. Binary (length all) o x z) (sym named_) ∙ tree)
    (leftward t small left powered (subst (λ r. Spells (Phrase kind comma (suc h)) all x r) is p) second))
    (λ off now. absurd cc)
    e

rights_sound : (part : List Symbol → Step Tree) (kind : Operands) (comma : Commas) (h : ℕ) → h < 8
    → is_left (suc h) ≡ false → IsSound (Phrase kind comma h) part → (k : ℕ) → IsSound (Phrase kind comma (suc h)) (rights k part kind comma (suc (suc h)))
unfolding rights
rights_sound part kind comma h small right sound zero ts x rest e = absurd cc
rights_sound part kind comma h small right sound (suc k) ts x rest e = either (Spells (Phrase kind comma (suc h)) ts x rest) (nat_lt (length ts) k) _ _
    (λ _ now. rights_sound part kind comma h small right sound k ts x rest now)
    (λ _ now.
    let (z, was, then) = bind_ok _ _ _ now in
    let first = sound ts z.0 z.1 was in
    either (Spells (Phrase kind comma (suc h)) ts x rest) (nat_eq (power_at kind comma z.1) (suc (suc h))) _ _
    (λ on again.
    let (y, got, end) = bind_ok _ _ _ again in
    let (t, is, powered, named_) = operator_power kind comma h z.1 small on in
    let second = rights_sound part kind comma h small right sound k (drop 1 z.1) y.0 y.1 got in
    let both : Spells (Phrase kind comma (suc h)) ts (Binary (length ts) (operator t) z.0 y.0) y.1 =
    rightward t small right powered (subst (λ r. Spells (Phrase kind comma h) ts z.0 r) is first) second in
    moved (Phrase kind comma (suc h)) ts (Binary (length ts) (operator_at z.1) z.0 y.0) x y.1 rest
    (subst (λ o. Spells (Phrase kind comma (suc h)) ts (Binary (length ts) o z.0 y.0) y.1) (sym named_) both) end)
    (λ off end. moved (Phrase kind comma (suc h)) ts z.0 x z.1 rest (tighter first) end)
    then)
    e

-- by a sound reader inside brackets
module _ (inner : Reader) (sound : IsSoundInside inner) where
  phrase_sound : (kind : Operands) (comma : Commas) (h : ℕ) → h < 9 → IsSound (Phrase kind comma h) (phrase inner kind comma h)
  unfolding phrase chain
  phrase_sound kind comma zero small ts x rest e = operand_sound inner sound kind comma ts x rest e
  phrase_sound kind comma (suc h) small ts x rest e =
      let part : IsSound (Phrase kind comma h) (phrase inner kind comma h) = phrase_sound kind comma h (omega arith) in
      either (Spells (Phrase kind comma (suc h)) ts x rest) (is_left (suc h)) _ _
      (λ left now.
      let (z, was, then) = bind_ok _ _ _ now in
      run_keeps (λ y end. Spells (Phrase kind comma (suc h)) ts y end) (left_turn (phrase inner kind comma h) kind comma (suc (suc h)) (length ts))
      (left_step (phrase inner kind comma h) kind comma h (omega arith) left part ts) z.0 z.1 x rest
      (tighter (part ts z.0 z.1 was)) then)
      (λ right now. rights_sound (phrase inner kind comma h) kind comma h (omega arith) right part (suc (length ts)) ts x rest now)
      e

  -- ---- expression
  with_step : (all : List Symbol) (x : Tree) (ts : List Symbol) (y : Tree) (rest : List Symbol)
      → Spells Expression all x ts → with_turn inner (length all) x ts ≡ Next y rest → Spells Expression all y rest
  with_step all x [] y rest p e = absurd cc
  with_step all x (With ∷ ts) y rest p e =
      let (z, was, tree) = turn_next _ _ _ _ e in
      let (opened, o, e1) = bind_ok _ _ _ was in
      let (w, read, e2) = bind_ok _ _ _ e1 in
      let (closed, c, end) = bind_ok _ _ _ e2 in
      let same = read_as w.0 z closed rest end in
      let inside : Spells (Further Definitions) opened w.0 (CloseBrace ∷ rest) = subst (λ r. Spells (Further Definitions) opened w.0 r)
      (expect_ok marks.CloseBrace w.1 closed c ∙ ap (λ r. CloseBrace ∷ r) same.1) (sound insides.Definitions opened w.0 w.1 read) in
      subst (λ q. Spells Expression all q rest) (ap (λ q. Where (length all) x q) same.0 ∙ tree)
      (qualified (subst (λ r. Spells Expression all x (With ∷ r)) (expect_ok marks.OpenBrace ts opened o) p) inside)
  with_step all x (t ∷ ts) y rest p e = absurd cc

  expression_sound : IsSound Expression (expression inner)
  unfolding expression
  expression_sound ts x rest e =
      let (z, was, then) = bind_ok _ _ _ e in
      run_keeps (λ y end. Spells Expression ts y end) (with_turn inner (length ts)) (with_step ts) z.0 z.1 x rest
      (plain (phrase_sound operands.Expressions commas.Join 8 (omega arith) ts z.0 z.1 was)) then

  ended_sound : (ts : List Symbol) (x : Tree) (rest : List Symbol) → ended inner ts ≡ Ok (x, rest) → Spells Expression ts x (Semicolon ∷ rest)
  unfolding ended
  ended_sound ts x rest e =
      let (z, was, then) = bind_ok _ _ _ e in
      let (end, c, done) = bind_ok _ _ _ then in
      let same = read_as z.0 x end rest done in
      subst (λ y. Spells Expression ts y (Semicolon ∷ rest)) same.0
      (subst (λ r. Spells Expression ts z.0 r) (expect_ok marks.Semicolon z.1 end c ∙ ap (λ r. Semicolon ∷ r) same.1) (expression_sound ts z.0 z.1 was))

  -- ---- definitions and rules
  function_sound : (n : ℕ) (ts : List Symbol) (x : Tree) (rest : List Symbol)
      → function_after inner (length (Name n ∷ Open ∷ ts)) n ts ≡ Ok (x, rest) → Spells Definition (Name n ∷ Open ∷ ts) x rest
  unfolding function_after
  function_sound n ts x rest e =
      let (ps, was, e1) = bind_ok _ _ _ e in
      let (side, signed, e2) = bind_ok _ _ _ e1 in
      let (z, read, done) = bind_ok _ _ _ e2 in
      let front : Spells (Listed (Parts operands.Patterns)) ts ps.0 (Close ∷ Equals ∷ side) =
      subst (λ r. Spells (Listed (Parts operands.Patterns)) ts ps.0 (Close ∷ r))
      (expect_ok marks.Equals ps.1 side signed) (enclosed_sound inner sound insides.Patterns ts ps.0 ps.1 was) in
      moved Definition (Name n ∷ Open ∷ ts) (Function (length (Name n ∷ Open ∷ ts)) n ps.0 z.0) x z.1 rest (function front (ended_sound side z.0 z.1 read)) done

  constant_sound : (n : ℕ) (ts : List Symbol) (x : Tree) (rest : List Symbol)
      → constant_after inner (length (Name n ∷ ts)) n ts ≡ Ok (x, rest) → Spells Definition (Name n ∷ ts) x rest
  unfolding constant_after
  constant_sound n ts x rest e =
      let (side, signed, e2) = bind_ok _ _ _ e in
      let (z, read, done) = bind_ok _ _ _ e2 in
      let all : Spells Definition (Name n ∷ Equals ∷ side) (Constant (length (Name n ∷ Equals ∷ side)) n z.0) z.1 = constant (ended_sound side z.0 z.1 read) in
      moved Definition (Name n ∷ ts) (Constant (length (Name n ∷ ts)) n z.0) x z.1 rest
      (subst (λ l. Spells Definition (Name n ∷ l) (Constant (length (Name n ∷ l)) n z.0) z.1) (sym (expect_ok marks.Equals ts side signed)) all) done

  after_name_sound : (n : ℕ) (ts : List Symbol) (x : Tree) (rest : List Symbol)
      → after_name inner (length (Name n ∷ ts)) n ts ≡ Ok (x, rest) → Spells Definition (Name n ∷ ts) x rest
  after_name_sound n (Open ∷ ts) x rest e = function_sound n ts x rest e
  after_name_sound n [] x rest e = constant_sound n [] x rest e
  after_name_sound n (t ∷ ts) x rest e = constant_sound n (t ∷ ts) x rest e

  definition_sound : IsSound Definition (definition inner)
  unfolding definition
  definition_sound ts x rest e =
      let (n, was, then) = bind_ok _ _ _ e in
      let front = a_name_ok ts n.0 n.1 was in
      let now : after_name inner (length (Name n.0 ∷ n.1)) n.0 n.1 ≡ Ok (x, rest) = ap (λ l. after_name inner (length l) n.0 n.1) (sym front) ∙ then in
      subst (λ l. Spells Definition l x rest) (sym front) (after_name_sound n.0 n.1 x rest now)

  rule_sound : IsSound OneRule (one_rule inner)
  unfolding one_rule
  rule_sound ts x rest e =
      let (opened, o, e0) = bind_ok _ _ _ e in
      let (ps, was, e1) = bind_ok _ _ _ e0 in
      let (side, signed, e2) = bind_ok _ _ _ e1 in
      let (z, read, done) = bind_ok _ _ _ e2 in
      let front : Spells (Listed (Parts operands.Patterns)) opened ps.0 (Close ∷ Arrow ∷ side) =
      subst (λ r. Spells (Listed (Parts operands.Patterns)) opened ps.0 (Close ∷ r))
      (expect_ok marks.Arrow ps.1 side signed) (enclosed_sound inner sound insides.Patterns opened ps.0 ps.1 was) in
      let all : Spells OneRule (Open ∷ opened) (Rule (length (Open ∷ opened)) ps.0 z.0) z.1 = rule front (ended_sound side z.0 z.1 read) in
      moved OneRule ts (Rule (length ts) ps.0 z.0) x z.1 rest
      (subst (λ l. Spells OneRule l (Rule (length l) ps.0 z.0) z.1) (sym (expect_ok marks.Open ts opened o)) all) done

-- ---- lists
-- What further stands in a list is what one production puts in front of the others.
pub record Adds (items : Items) (ts : List Symbol) (x : Tree) (mid : List Symbol) : Type 0 where
  pub others : (y : Tree) (rest : List Symbol) → Spells (Further items) mid y rest → Spells (Further items) ts (More x y) rest

pub record Passes (items : Items) (ts mid : List Symbol) : Type 0 where
  pub others : (y : Tree) (rest : List Symbol) → Spells (Further items) mid y rest → Spells (Further items) ts y rest

one_of_is : (r : Step Tree) (x : Tree) (rest : List Symbol) → one_of r ≡ One x rest → r ≡ Ok (x, rest)
one_of_is (Ok z) x rest e =
    let first : z.0 ≡ x = cc in
    let second : z.1 ≡ rest = cc in
    ap (λ y. took y z.1) first ∙ ap (λ r. took x r) second
one_of_is (Err d) x rest e = absurd cc

skip_of_is : (r : Result (List Symbol) (List Symbol)) (rest : List Symbol) → descent.skip_of r ≡ Skip rest → r ≡ Ok rest
skip_of_is (Ok z) rest e = let p : z ≡ rest = cc in ap (λ r. Ok r) p
skip_of_is (Err d) rest e = absurd cc

skip_no_one : (r : Result (List Symbol) (List Symbol)) (x : Tree) (rest : List Symbol) → descent.skip_of r ≡ One x rest → ⊥
skip_no_one (Ok z) x rest e = cc
skip_no_one (Err d) x rest e = cc

one_no_skip : (r : Step Tree) (rest : List Symbol) → one_of r ≡ Skip rest → ⊥
one_no_skip (Ok z) rest e = cc
one_no_skip (Err d) rest e = cc

item_adds : (inner : Reader)
    → IsSoundInside inner → (items : Items) (ts : List Symbol) (x : Tree) (mid : List Symbol) → item inner items ts ≡ One x mid → Adds items ts x mid
item_adds inner sound Statements (Name n ∷ ts) x mid e =
    record { others = λ y rest s. stated (definition_sound inner sound (Name n ∷ ts) x mid (one_of_is _ _ _ e)) s }
item_adds inner sound Statements (Declare ∷ ts) x mid e = absurd (skip_no_one _ _ _ e)
item_adds inner sound Statements [] x mid e = absurd cc
item_adds inner sound Statements (t ∷ ts) x mid e = absurd cc
item_adds inner sound Definitions (Name n ∷ ts) x mid e =
    record { others = λ y rest s. defined (definition_sound inner sound (Name n ∷ ts) x mid (one_of_is _ _ _ e)) s }
item_adds inner sound Definitions [] x mid e = absurd cc
item_adds inner sound Definitions (t ∷ ts) x mid e = absurd cc
item_adds inner sound Rules (Open ∷ ts) x mid e = record { others = λ y rest s. ruled (rule_sound inner sound (Open ∷ ts) x mid (one_of_is _ _ _ e)) s }
item_adds inner sound Rules [] x mid e = absurd cc
item_adds inner sound Rules (t ∷ ts) x mid e = absurd cc
item_adds inner sound (Parts kind) (Comma ∷ ts) x mid e =
    record { others = λ y rest s. parted (phrase_sound inner sound kind commas.Separate 8 (omega arith) ts x mid (one_of_is _ _ _ e)) s }
item_adds inner sound (Parts kind) [] x mid e = absurd cc
item_adds inner sound (Parts kind) (t ∷ ts) x mid e = absurd cc

declared_text_ok : (ts rest : List Symbol) → declared_text ts ≡ Ok rest → (s : ℕ) × (ts ≡ Text s ∷ Semicolon ∷ rest)
declared_text_ok ts rest e =
    let (text, was, then) = bind_ok _ _ _ e in
    (text.0, a_text_ok ts text.0 text.1 was ∙ ap (λ r. Text text.0 ∷ r) (expect_ok marks.Semicolon text.1 rest then))

declared_for_passes : (n : ℕ) (ts mid : List Symbol) → descent.declared_for ts ≡ Ok mid → Passes Statements (Declare ∷ Name n ∷ ts) mid
declared_for_passes n (Name m ∷ ts) mid e =
    let (s, is) = declared_text_ok ts mid e in
    record { others = λ y rest p. subst (λ l. Spells (Further Statements) (Declare ∷ Name n ∷ Name m ∷ l) y rest) (sym is) (declared_for p) }
declared_for_passes n [] mid e = absurd cc
declared_for_passes n (t ∷ ts) mid e =
    let (s, is) = declared_text_ok (t ∷ ts) mid e in
    record { others = λ y rest p. subst (λ l. Spells (Further Statements) (Declare ∷ Name n ∷ l) y rest) (sym is) (declared p) }

declaration_passes : (ts mid : List Symbol) → declaration ts ≡ Ok mid → Passes Statements (Declare ∷ ts) mid
declaration_passes ts mid e =
    let (n, was, then) = bind_ok _ _ _ e in
    subst (λ l. Passes Statements (Declare ∷ l) mid) (sym (a_name_ok ts n.0 n.1 was)) (declared_for_passes n.0 n.1 mid then)

item_passes : (inner : Reader) (items : Items) (ts mid : List Symbol) → item inner items ts ≡ Skip mid → Passes items ts mid
item_passes inner Statements (Name n ∷ ts) mid e = absurd (one_no_skip _ _ e)
item_passes inner Statements (Declare ∷ ts) mid e = declaration_passes ts mid (skip_of_is _ _ e)
item_passes inner Statements [] mid e = absurd cc
item_passes inner Statements (t ∷ ts) mid e = absurd cc
item_passes inner Definitions (Name n ∷ ts) mid e = absurd (one_no_skip _ _ e)
item_passes inner Definitions [] mid e = absurd cc
item_passes inner Definitions (t ∷ ts) mid e = absurd cc
item_passes inner Rules (Open ∷ ts) mid e = absurd (one_no_skip _ _ e)
item_passes inner Rules [] mid e = absurd cc
item_passes inner Rules (t ∷ ts) mid e = absurd cc
item_passes inner (Parts kind) (Comma ∷ ts) mid e = absurd (one_no_skip _ _ e)
item_passes inner (Parts kind) [] mid e = absurd cc
item_passes inner (Parts kind) (t ∷ ts) mid e = absurd cc

-- by what further stands there
with_item_sound : (items : Items) (ts : List Symbol) (others : List Symbol → Step Tree) (found : Item) (x : Tree) (rest : List Symbol)
    → ((y : Tree) (mid : List Symbol) → found ≡ One y mid → Adds items ts y mid)
    → ((mid : List Symbol) → found ≡ Skip mid → Passes items ts mid) → IsSound (Further items) others
    → with_item others ts found ≡ Ok (x, rest) → Spells (Further items) ts x rest
with_item_sound items ts others Nothing x rest adds passes sound e = moved (Further items) ts End x ts rest no_more e
with_item_sound items ts others (Skip mid) x rest adds passes sound e = (passes mid refl).others x rest (sound mid x rest e)
with_item_sound items ts others (One y mid) x rest adds passes sound e =
    let (z, was, end) = bind_ok _ _ _ e in
    moved (Further items) ts (More y z.0) x z.1 rest ((adds y mid refl).others z.0 z.1 (sound mid z.0 z.1 was)) end
with_item_sound items ts others (Fault at) x rest adds passes sound e = absurd cc

many_sound : (items : Items) (next : List Symbol → Item) → ((ts : List Symbol) (x : Tree) (mid : List Symbol) → next ts ≡ One x mid → Adds items ts x mid)
    → ((ts mid : List Symbol) → next ts ≡ Skip mid → Passes items ts mid)
    → (k : ℕ) → IsSound (Further items) (many k next)
unfolding many
many_sound items next adds passes zero ts x rest e = absurd cc
many_sound items next adds passes (suc k) ts x rest e = either (Spells (Further items) ts x rest) (nat_lt (length ts) k) _ _
    (λ _ now. many_sound items next adds passes k ts x rest now)
    (λ _ now. with_item_sound items ts (many k next) (next ts) x rest (adds ts) (passes ts) (many_sound items next adds passes k) now)
    e

-- by a sound reader inside brackets
module _ (inner : Reader) (sound : IsSoundInside inner) where
  further_sound : (items : Items) → IsSound (Further items) (further inner items)
  unfolding further
  further_sound items ts x rest e = many_sound items (item inner items) (item_adds inner sound items) (item_passes inner items) (suc (length ts)) ts x rest e

  listed_sound : (items : Items) → IsSound (Listed items) (listed inner items)
  unfolding listed
  listed_sound Rules ts x rest e =
      let (z, was, then) = bind_ok _ _ _ e in
      let (y, got, end) = bind_ok _ _ _ then in
      moved (Listed Rules) ts (More z.0 y.0) x y.1 rest (first_rule (rule_sound inner sound ts z.0 z.1 was) (further_sound Rules z.1 y.0 y.1 got)) end
  listed_sound (Parts kind) ts x rest e =
      let (z, was, then) = bind_ok _ _ _ e in
      let (y, got, end) = bind_ok _ _ _ then in
      moved (Listed (Parts kind)) ts (More z.0 y.0) x y.1 rest
      (first_part (phrase_sound inner sound kind commas.Separate 8 (omega arith) ts z.0 z.1 was) (further_sound (Parts kind) z.1 y.0 y.1 got)) end
  listed_sound Statements ts x rest e = absurd cc
  listed_sound Definitions ts x rest e = absurd cc

-- ---- inside brackets
pub sound_within : (nesting : ℕ) → IsSoundInside (within nesting)
unfolding within
sound_within zero what ts x rest e = absurd cc
sound_within (suc nesting) insides.Expression ts x rest e = expression_sound (within nesting) (sound_within nesting) ts x rest e
sound_within (suc nesting) insides.Argument ts x rest e =
    phrase_sound (within nesting) (sound_within nesting) operands.Expressions commas.Separate 8 (omega arith) ts x rest e
sound_within (suc nesting) insides.Pattern ts x rest e = phrase_sound (within nesting) (sound_within nesting) operands.Patterns commas.Join
    8 (omega arith) ts x rest e
sound_within (suc nesting) insides.Arguments ts x rest e = listed_sound (within nesting) (sound_within nesting) (Parts operands.Expressions) ts x rest e
sound_within (suc nesting) insides.Patterns ts x rest e = listed_sound (within nesting) (sound_within nesting) (Parts operands.Patterns) ts x rest e
sound_within (suc nesting) insides.Rules ts x rest e = listed_sound (within nesting) (sound_within nesting) Rules ts x rest e
sound_within (suc nesting) insides.Definitions ts x rest e = further_sound (within nesting) (sound_within nesting) Definitions ts x rest e

whole_ok : (x y : Tree) (ts : List Symbol) → whole_text (x, ts) ≡ Ok y → (ts ≡ []) × (x ≡ y)
whole_ok x y [] e = (refl, cc)
whole_ok x y (t ∷ ts) e = absurd cc

-- A program that is read is spelled.
pub program_sound : (nesting : ℕ) (ts : List Symbol) (x : Tree) → program nesting ts ≡ Ok x → SpellsProgram ts x
unfolding program
program_sound nesting ts x e =
    let (z, was, then) = bind_ok _ _ _ e in
    let all = further_sound (within nesting) (sound_within nesting) Statements ts z.0 z.1 was in
    let end = whole_ok z.0 x z.1 then in
    subst (λ y. SpellsProgram ts y) end.1 (subst (λ r. Spells (Further Statements) ts z.0 r) end.0 all)
