-- What begins an operand, by its first token, and what follows it.
use Rattle.std.proofs.Common.{◌≡◌, ℕ, List, [], ◌∷◌, Ok, refl, sym, subst}
use Rattle.fv_parse_grammar.specs.Symbol.{Symbol}
use Rattle.fv_parse_grammar.specs.Symbol.TheVariants.{Name, Integer, Comma, Open, Close, OpenBrace, CloseBrace, Dot}
use Rattle.fv_parse_grammar.specs.Symbol.TheVariants as symbols
use Rattle.fv_parse_grammar.specs.Iteration.{Iteration as Repetition}
use Rattle.fv_parse_grammar.specs.Side.{Side}
use Rattle.fv_parse_grammar.specs.Switch.{Switch as SwitchKind}
use Rattle.fv_parse_grammar.specs.Slider.{Slider as SliderKind}
use Rattle.fv_parse_grammar.specs.Panel.{Panel as PanelKind}
use Rattle.fv_parse_grammar.specs.declared.symbol.Inside.TheVariants as insides
use Rattle.fv_parse_grammar.specs.headline.Tree.{Tree}
use Rattle.fv_parse_grammar.specs.headline.Grammar.{Primary, number, plus_number, minus_number, minus_name, named, plus, minus}
use Rattle.fv_parse_grammar.specs.headline.Grammar.{primitive, grouped, abstracted, cased, iterated, ported, switched, slid, paneled}
use Rattle.fv_parse_grammar.specs.headline.Grammar.{waved}
use Rattle.fv_parse_grammar.specs.Descent.{waveform}
use Rattle.fv_parse_grammar.proofs.Plans.{counted_all, LiteralList}
use Rattle.fv_parse_grammar.proofs.Pieces.{literal_list_reads}
use Rattle.fv_parse_grammar.specs.Descent as descent
use Rattle.fv_parse_grammar.specs.declared.symbol.Mark.TheVariants as marks
use Rattle.fv_parse_grammar.specs.Descent.{Step, ◌>>=◌, Reader, group, abstraction, case_of, iteration, ports, switch, slider, panel, by_first, primary}
use Rattle.fv_parse_grammar.proofs.Plans.{called, worded, called_all, both, signed, Spelled, spelled, Plan, Sign, AName, AText, NameList}
use Rattle.fv_parse_grammar.proofs.Plans.{Inner, APrimary, Then, Spans, took, behind, next, made, done, as_plan, unread, one_taken, Reads}
use Rattle.fv_parse_grammar.proofs.Pieces.{expect_passes, a_name_reads, a_text_reads, label_reads}
use Rattle.fv_parse_grammar.proofs.Pieces.{name_list_reads, ReadsInside, enclosed_reads, argument_reads}

-- ---- the forms that a first token begins
-- after a token
pub headed : {p : Plan} (t : Symbol) (ts : List Symbol) {r : Step Tree} → Reads p ts r → Reads (Then (Sign t) p) (t ∷ ts) r
headed t ts f = behind (Sign t) (one_taken t ts) f

-- one token that is an operand
pub leaf : (p : Plan) (t : Symbol) (ts : List Symbol) {x : Tree} → ((tail : List Symbol) → Spans p (t ∷ tail) tail) → Reads p (t ∷ ts) (Ok (x, ts))
leaf p t ts s = took (record { used = t ∷ []; whole = refl; spans = s })

-- two tokens
pub pair : (p : Plan) (t u : Symbol) (ts : List Symbol) {x : Tree} → ((tail : List Symbol) → Spans p (t ∷ u ∷ tail) tail) → Reads p (t ∷ u ∷ ts) (Ok (x, ts))
pair p t u ts s = took (record { used = t ∷ u ∷ []; whole = refl; spans = s })

-- "(" expression ")"
is_group : (a b : List Symbol) → Spans (Then (Sign Open) (Then (Inner insides.Expression) (Sign Close))) a b → Spelled Primary a b
is_group a b (both signed (both (spelled x) signed)) = spelled (grouped x)

group_reads : (inner : Reader) → ReadsInside inner → (start : ℕ) (ts : List Symbol) → Reads APrimary (Open ∷ ts) (group inner start ts)
group_reads inner reads start ts = as_plan APrimary (headed Open ts (made (enclosed_reads inner reads insides.Expression ts) (λ x. done))) is_group

-- "\" "(" names ")" "." "(" expression ")"
is_abstraction : (a b : List Symbol) → Spans (Then (Sign symbols.Backslash) (Then (Sign Open)
    (Then NameList (Then (Sign Close) (Then (Sign Dot) (Then (Sign Open) (Then (Inner insides.Expression) (Sign Close)))))))) a b → Spelled Primary a b
is_abstraction a b (both signed (both signed (both (called_all ns) (both signed (both signed (both signed (both (spelled x) signed))))))) =
    spelled (abstracted ns x)

abstraction_reads : (inner : Reader) → ReadsInside inner → (start : ℕ) (ts : List Symbol) → Reads APrimary (symbols.Backslash ∷ ts) (abstraction inner start ts)
unfolding abstraction
abstraction_reads inner reads start ts = as_plan APrimary (headed symbols.Backslash ts
    (next (expect_passes marks.Open ts) (λ opened.
    next (name_list_reads opened) (λ ns.
    next (expect_passes marks.Close ns.1) (λ closed.
    next (expect_passes marks.Dot closed) (λ dotted.
    next (expect_passes marks.Open dotted) (λ again.
    made (enclosed_reads inner reads insides.Expression again) (λ x. done)))))))) is_abstraction

-- "case" "{" rules "}"
is_case_of : (a b : List Symbol)
    → Spans (Then (Sign symbols.Case) (Then (Sign OpenBrace) (Then (Inner insides.Rules) (Sign CloseBrace)))) a b → Spelled Primary a b
is_case_of a b (both signed (both signed (both (spelled x) signed))) = spelled (cased x)

case_reads : (inner : Reader) → ReadsInside inner → (start : ℕ) (ts : List Symbol) → Reads APrimary (symbols.Case ∷ ts) (case_of inner start ts)
unfolding case_of
case_reads inner reads start ts = as_plan APrimary (headed symbols.Case ts
    (next (expect_passes marks.OpenBrace ts) (λ opened.
    next (reads insides.Rules opened) (λ x.
    made (expect_passes marks.CloseBrace x.1) (λ rest. done))))) is_case_of

-- "waveform" "{" numbers "}"
is_wave : (a b : List Symbol) → Spans (Then (Sign symbols.Waveform) (Then (Sign OpenBrace) (Then LiteralList (Sign CloseBrace)))) a b → Spelled Primary a b
is_wave a b (both signed (both signed (both (counted_all xs) signed))) = spelled (waved xs)

waveform_reads : (start : ℕ) (ts : List Symbol) → Reads APrimary (symbols.Waveform ∷ ts) (waveform start ts)
unfolding waveform
waveform_reads start ts = as_plan APrimary (headed symbols.Waveform ts
    (next (expect_passes marks.OpenBrace ts) (λ opened.
    next (literal_list_reads opened) (λ xs.
    made (expect_passes marks.CloseBrace xs.1) (λ rest. done))))) is_wave

-- ("par" | "seq" | "sum" | "prod") "(" name "," argument "," expression ")"
is_iteration : (i : Repetition) (a b : List Symbol)
    → Spans (Then (Sign (symbols.Iteration i)) (Then (Sign Open) (Then AName
    (Then (Sign Comma) (Then (Then (Inner insides.Argument) (Sign Comma)) (Then (Inner insides.Expression) (Sign Close))))))) a b → Spelled Primary a b
is_iteration i a b (both signed (both signed (both called (both signed (both (both (spelled x) signed) (both (spelled y) signed)))))) =
    spelled (iterated x y)

iteration_reads : (inner : Reader) → ReadsInside inner
    → (start : ℕ) (i : Repetition) (ts : List Symbol) → Reads APrimary (symbols.Iteration i ∷ ts) (iteration inner start i ts)
unfolding iteration
iteration_reads inner reads start i ts = as_plan APrimary (headed (symbols.Iteration i) ts
    (next (expect_passes marks.Open ts) (λ opened.
    next (a_name_reads opened) (λ n.
    next (expect_passes marks.Comma n.1) (λ rest.
    next (argument_reads inner reads rest) (λ x.
    made (enclosed_reads inner reads insides.Expression x.1) (λ y. done)))))))
    (is_iteration i)

-- ("inputs" | "outputs") "(" expression ")"
is_port : (s : Side) (a b : List Symbol)
    → Spans (Then (Sign (symbols.Ports s)) (Then (Sign Open) (Then (Inner insides.Expression) (Sign Close)))) a b → Spelled Primary a b
is_port s a b (both signed (both signed (both (spelled x) signed))) = spelled (ported x)

ports_reads : (inner : Reader)
    → ReadsInside inner → (start : ℕ) (s : Side) (ts : List Symbol) → Reads APrimary (symbols.Ports s ∷ ts) (ports inner start s ts)
unfolding ports
ports_reads inner reads start s ts = as_plan APrimary (headed (symbols.Ports s) ts
    (next (expect_passes marks.Open ts) (λ opened. made (enclosed_reads inner reads insides.Expression opened) (λ x. done))))
    (is_port s)

-- ("button" | "checkbox") "(" string ")"
is_switch : (k : SwitchKind) (a b : List Symbol) → Spans (Then (Sign (symbols.Switch k)) (Then (Sign Open) (Then AText (Sign Close)))) a b → Spelled Primary a b
is_switch k a b (both signed (both signed (both worded signed))) = spelled switched

switch_reads : (start : ℕ) (k : SwitchKind) (ts : List Symbol) → Reads APrimary (symbols.Switch k ∷ ts) (switch start k ts)
unfolding switch
switch_reads start k ts = as_plan APrimary (headed (symbols.Switch k) ts
    (next (expect_passes marks.Open ts) (λ opened. next (a_text_reads opened) (λ text. made (expect_passes marks.Close text.1) (λ rest. done)))))
    (is_switch k)

-- ("hslider" | "vslider" | "nentry") "(" string "," argument "," argument "," argument "," argument ")"
is_slider : (k : SliderKind) (a b : List Symbol)
    → Spans (Then (Sign (symbols.Slider k)) (Then (Then (Sign Open) (Then AText (Sign Comma))) (Then (Then (Inner insides.Argument) (Sign Comma)) (Then (Then
    (Inner insides.Argument) (Sign Comma)) (Then (Then (Inner insides.Argument) (Sign Comma)) (Then (Inner insides.Argument) (Sign Close))))))) a b
    → Spelled Primary a b
is_slider k a b (both signed (both (both signed (both worded signed))
    (both (both (spelled x0) signed) (both (both (spelled x1) signed) (both (both (spelled x2) signed) (both (spelled x3) signed)))))) =
    spelled (slid x0 x1 x2 x3)

slider_reads : (inner : Reader) → ReadsInside inner
    → (start : ℕ) (k : SliderKind) (ts : List Symbol) → Reads APrimary (symbols.Slider k ∷ ts) (slider inner start k ts)
unfolding slider
slider_reads inner reads start k ts = as_plan APrimary (headed (symbols.Slider k) ts
    (next (label_reads ts) (λ text.
    next (argument_reads inner reads text.1) (λ x0.
    next (argument_reads inner reads x0.1) (λ x1.
    next (argument_reads inner reads x1.1) (λ x2.
    made (enclosed_reads inner reads insides.Argument x2.1) (λ x3. done)))))))
    (is_slider k)

-- ("hgroup" | "vgroup" | "tgroup") "(" string "," expression ")"
is_panel : (k : PanelKind) (a b : List Symbol) → Spans
    (Then (Sign (symbols.Panel k)) (Then (Then (Sign Open) (Then AText (Sign Comma))) (Then (Inner insides.Expression) (Sign Close)))) a b
    → Spelled Primary a b
is_panel k a b (both signed (both (both signed (both worded signed)) (both (spelled x) signed))) = spelled (paneled x)

panel_reads : (inner : Reader) → ReadsInside inner
    → (start : ℕ) (k : PanelKind) (ts : List Symbol) → Reads APrimary (symbols.Panel k ∷ ts) (panel inner start k ts)
unfolding panel
panel_reads inner reads start k ts = as_plan APrimary (headed (symbols.Panel k) ts
    (next (label_reads ts) (λ text. made (enclosed_reads inner reads insides.Expression text.1) (λ x. done))))
    (is_panel k)

-- ---- by the first token
after_plus_reads : (start : ℕ) (ts : List Symbol) → Reads APrimary (symbols.Plus ∷ ts) (descent.after_plus start ts)
after_plus_reads start [] = leaf APrimary symbols.Plus [] (λ tail. spelled plus)
after_plus_reads start (Integer n ∷ ts) = pair APrimary symbols.Plus (Integer n) ts (λ tail. spelled plus_number)
after_plus_reads start (t ∷ ts) = leaf APrimary symbols.Plus (t ∷ ts) (λ tail. spelled plus)

after_minus_reads : (start : ℕ) (ts : List Symbol) → Reads APrimary (symbols.Minus ∷ ts) (descent.after_minus start ts)
after_minus_reads start [] = leaf APrimary symbols.Minus [] (λ tail. spelled minus)
after_minus_reads start (Integer n ∷ ts) = pair APrimary symbols.Minus (Integer n) ts (λ tail. spelled minus_number)
after_minus_reads start (Name n ∷ ts) = pair APrimary symbols.Minus (Name n) ts (λ tail. spelled minus_name)
after_minus_reads start (t ∷ ts) = leaf APrimary symbols.Minus (t ∷ ts) (λ tail. spelled minus)

-- by a reader that reads inside brackets
module _ (inner : Reader) (reads : ReadsInside inner) where
  by_first_reads : (t : Symbol) (ts : List Symbol) → Reads APrimary (t ∷ ts) (by_first inner t (t ∷ ts) ts)
  unfolding by_first
  by_first_reads (Integer n) ts = leaf APrimary (Integer n) ts (λ tail. spelled number)
  by_first_reads (Name n) ts = leaf APrimary (Name n) ts (λ tail. spelled named)
  by_first_reads symbols.Plus ts = after_plus_reads _ ts
  by_first_reads symbols.Minus ts = after_minus_reads _ ts
  by_first_reads (symbols.Primitive p) ts = leaf APrimary (symbols.Primitive p) ts (λ tail. spelled primitive)
  by_first_reads Open ts = group_reads inner reads _ ts
  by_first_reads symbols.Backslash ts = abstraction_reads inner reads _ ts
  by_first_reads symbols.Case ts = case_reads inner reads _ ts
  by_first_reads symbols.Waveform ts = waveform_reads _ ts
  by_first_reads (symbols.Iteration i) ts = iteration_reads inner reads _ i ts
  by_first_reads (symbols.Ports s) ts = ports_reads inner reads _ s ts
  by_first_reads (symbols.Switch k) ts = switch_reads _ k ts
  by_first_reads (symbols.Slider k) ts = slider_reads inner reads _ k ts
  by_first_reads (symbols.Panel k) ts = panel_reads inner reads _ k ts
  by_first_reads t ts = unread APrimary

  pub primary_reads : (ts : List Symbol) → Reads APrimary ts (primary inner ts)
  primary_reads [] = unread APrimary
  primary_reads (t ∷ ts) = by_first_reads t ts
