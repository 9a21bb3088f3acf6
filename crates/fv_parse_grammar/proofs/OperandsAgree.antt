-- What begins an operand, in two lists that are the same up to and with a token.
use Rattle.std.proofs.Common.{◌≡◌, ℕ, suc, List, ◌∷◌, length, refl, sym, ◌∙◌}
use Rattle.fv_parse_grammar.specs.Symbol.{Symbol}
use Rattle.fv_parse_grammar.specs.Symbol.TheVariants.{Name, Integer, Open}
use Rattle.fv_parse_grammar.specs.Symbol.TheVariants as symbols
use Rattle.fv_parse_grammar.specs.Iteration.{Iteration as Repetition}
use Rattle.fv_parse_grammar.specs.Side.{Side}
use Rattle.fv_parse_grammar.specs.Switch.{Switch as SwitchKind}
use Rattle.fv_parse_grammar.specs.Slider.{Slider as SliderKind}
use Rattle.fv_parse_grammar.specs.Panel.{Panel as PanelKind}
use Rattle.fv_parse_grammar.specs.declared.symbol.Inside.TheVariants as insides
use Rattle.fv_parse_grammar.specs.Descent.{Reader, after_plus, after_minus, group, abstraction, case_of}
use Rattle.fv_parse_grammar.specs.Descent.{iteration, ports, switch, slider, panel, by_first, primary}
use Rattle.fv_parse_grammar.proofs.Agreement.{Fork, Same, BothRead, also, given, halted, Looks, takes, stays_at}
use Rattle.fv_parse_grammar.proofs.Agreement.{looked, Passing, no_bracket, opens, AgreesInside}
use Rattle.fv_parse_grammar.proofs.PiecesAgree.{expect_both, by_open, by_close, by_open_brace, by_close_brace}
use Rattle.fv_parse_grammar.proofs.PiecesAgree.{by_comma, by_dot, a_name_both, a_text_both, label_both}
use Rattle.fv_parse_grammar.specs.Descent.{waveform}
use Rattle.fv_parse_grammar.proofs.PiecesAgree.{literal_list_both, name_list_both, enclosed_both, argument_both}

-- ---- the forms that a first token begins
module _ {k : Fork} {d : ℕ} {inner inner' : Reader} (inside : AgreesInside k (suc d) inner inner') where
  group_both : (start start' : ℕ) {ts us : List Symbol} → Same k (suc d) ts us → BothRead k d ts (group inner start ts) (group inner' start' us)
  group_both start start' same = also (enclosed_both inside insides.Expression same) (λ x y s. given s)

  abstraction_both : (start start' : ℕ) {ts us : List Symbol} → Same k d ts us → BothRead k d ts (abstraction inner start ts) (abstraction inner' start' us)
  unfolding abstraction
  abstraction_both start start' same = also (expect_both by_open same) (λ opened opened' s.
      also (name_list_both s) (λ ns ns' s.
      also (expect_both by_close s) (λ closed closed' s.
      also (expect_both by_dot s) (λ dotted dotted' s.
      also (expect_both by_open s) (λ again again' s.
      also (enclosed_both inside insides.Expression s) (λ x y s. given s))))))

  case_both : (start start' : ℕ) {ts us : List Symbol} → Same k d ts us → BothRead k d ts (case_of inner start ts) (case_of inner' start' us)
  unfolding case_of
  case_both start start' same = also (expect_both by_open_brace same) (λ opened opened' s.
      also (inside.agree insides.Rules s) (λ x y s.
      also (expect_both by_close_brace s) (λ rest rest' s. given s)))

  iteration_both : (start start' : ℕ) (i : Repetition) {ts us : List Symbol}
      → Same k d ts us → BothRead k d ts (iteration inner start i ts) (iteration inner' start' i us)
  unfolding iteration
  iteration_both start start' i same = also (expect_both by_open same) (λ opened opened' s.
      also (a_name_both s) (λ n n' s.
      also (expect_both by_comma s) (λ rest rest' s.
      also (argument_both inside s) (λ x x' s.
      also (enclosed_both inside insides.Expression s) (λ y y' s. given s)))))

  ports_both : (start start' : ℕ) (side : Side) {ts us : List Symbol}
      → Same k d ts us → BothRead k d ts (ports inner start side ts) (ports inner' start' side us)
  unfolding ports
  ports_both start start' side same = also (expect_both by_open same) (λ opened opened' s.
      also (enclosed_both inside insides.Expression s) (λ x y s. given s))

  slider_both : (start start' : ℕ) (kind : SliderKind) {ts us : List Symbol}
      → Same k d ts us → BothRead k d ts (slider inner start kind ts) (slider inner' start' kind us)
  unfolding slider
  slider_both start start' kind same = also (label_both same) (λ text text' s.
      also (argument_both inside s) (λ x0 y0 s.
      also (argument_both inside s) (λ x1 y1 s.
      also (argument_both inside s) (λ x2 y2 s.
      also (enclosed_both inside insides.Argument s) (λ x3 y3 s. given s)))))

  panel_both : (start start' : ℕ) (kind : PanelKind) {ts us : List Symbol}
      → Same k d ts us → BothRead k d ts (panel inner start kind ts) (panel inner' start' kind us)
  unfolding panel
  panel_both start start' kind same = also (label_both same) (λ text text' s.
      also (enclosed_both inside insides.Expression s) (λ x y s. given s))

switch_both : {k : Fork} {d : ℕ} (start start' : ℕ) (kind : SwitchKind) {ts us : List Symbol}
    → Same k d ts us → BothRead k d ts (switch start kind ts) (switch start' kind us)
unfolding switch
switch_both start start' kind same = also (expect_both by_open same) (λ opened opened' s.
    also (a_text_both s) (λ text text' s.
    also (expect_both by_close s) (λ rest rest' s. given s)))

waveform_both : {k : Fork} {d : ℕ} (start start' : ℕ) {ts us : List Symbol} → Same k d ts us → BothRead k d ts (waveform start ts) (waveform start' us)
unfolding waveform
waveform_both start start' same = also (expect_both by_open_brace same) (λ opened opened' s.
    also (literal_list_both s) (λ xs xs' s.
    also (expect_both by_close_brace s) (λ rest rest' s. given s)))

-- ---- by the first token
plus_look : {k : Fork} {d : ℕ} (start start' : ℕ) (t : Symbol) (ts us : List Symbol)
    → Looks k d d (λ x. x.1) t ts us (after_plus start (t ∷ ts)) (after_plus start' (t ∷ us))
plus_look start start' (Integer n) ts us = takes _ (no_bracket (λ p n. n)) given
plus_look start start' t ts us = stays_at given

minus_look : {k : Fork} {d : ℕ} (start start' : ℕ) (t : Symbol) (ts us : List Symbol)
    → Looks k d d (λ x. x.1) t ts us (after_minus start (t ∷ ts)) (after_minus start' (t ∷ us))
minus_look start start' (Integer n) ts us = takes _ (no_bracket (λ p n. n)) given
minus_look start start' (Name n) ts us = takes _ (no_bracket (λ p n. n)) given
minus_look start start' t ts us = stays_at given

-- by readers that agree inside brackets
module _ {k : Fork} {d : ℕ} {inner inner' : Reader} (inside : AgreesInside k (suc d) inner inner') where
  first_look : (t : Symbol) (ts us : List Symbol) → Looks k d d (λ x. x.1) t ts us (by_first inner t (t ∷ ts) ts) (by_first inner' t (t ∷ us) us)
  unfolding by_first
  first_look (Integer n) ts us = takes _ (no_bracket (λ p n. n)) given
  first_look (Name n) ts us = takes _ (no_bracket (λ p n. n)) given
  first_look symbols.Plus ts us = takes _ (no_bracket (λ p n. n))
      (λ s. looked (after_plus (length (symbols.Plus ∷ ts))) (after_plus (length (symbols.Plus ∷ us))) refl (plus_look _ _) s)
  first_look symbols.Minus ts us = takes _ (no_bracket (λ p n. n))
      (λ s. looked (after_minus (length (symbols.Minus ∷ ts))) (after_minus (length (symbols.Minus ∷ us))) refl (minus_look _ _) s)
  first_look (symbols.Primitive p) ts us = takes _ (no_bracket (λ p n. n)) given
  first_look Open ts us = takes _ opens (λ s. group_both inside _ _ s)
  first_look symbols.Backslash ts us = takes _ (no_bracket (λ p n. n)) (λ s. abstraction_both inside _ _ s)
  first_look symbols.Case ts us = takes _ (no_bracket (λ p n. n)) (λ s. case_both inside _ _ s)
  first_look symbols.Waveform ts us = takes _ (no_bracket (λ p n. n)) (λ s. waveform_both _ _ s)
  first_look (symbols.Iteration i) ts us = takes _ (no_bracket (λ p n. n)) (λ s. iteration_both inside _ _ i s)
  first_look (symbols.Ports side) ts us = takes _ (no_bracket (λ p n. n)) (λ s. ports_both inside _ _ side s)
  first_look (symbols.Switch kind) ts us = takes _ (no_bracket (λ p n. n)) (λ s. switch_both _ _ kind s)
  first_look (symbols.Slider kind) ts us = takes _ (no_bracket (λ p n. n)) (λ s. slider_both inside _ _ kind s)
  first_look (symbols.Panel kind) ts us = takes _ (no_bracket (λ p n. n)) (λ s. panel_both inside _ _ kind s)
  first_look t ts us = stays_at halted

  pub primary_both : {ts us : List Symbol} → Same k d ts us → BothRead k d ts (primary inner ts) (primary inner' us)
  primary_both same =
      looked (primary inner) (primary inner') refl first_look same
