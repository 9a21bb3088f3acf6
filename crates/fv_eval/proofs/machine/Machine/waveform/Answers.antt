use Rattle.std.proofs.Common.{◌≡◌, List, map, ap, ◌∙◌}
use Rattle.std.proofs.lemmas.List.{take_all}
use Rattle.fv_parse_grammar.specs.declared.form.Literal.{Literal}
use Rattle.fv_rules.specs.headline.Steps.{waved}
use Rattle.fv_rules.specs.headline.Rules.{flat, literal_value}
use Rattle.fv_eval_drawing.proofs.lemmas.Gathered.{as_value}
use Rattle.fv_eval.proofs.Received.{made_goes}
use Rattle.fv_eval.proofs.machine.Machine.waveform.Goals as goal

pub returns : goal.returns
returns c =
    let m = c.args.self.now in
    let new = c.waveform.new.self in
    let r = c.waveform.result in
    let whole = take_all c.reading.literal-index c.args.literals.now c.reading-test.false in
    let is : c.as_slice.result.now ≡ map literal_value c.args.literals.now =
    c.as_slice.ensures.value ∙ c.reading.invariant ∙ ap (λ (xs : List Literal). map literal_value xs) whole in
    λ p.
    rw (c.give.ensures, ← is)
    (made_goes p m new r (flat (waved c.as_slice.result.now)) c.waveform.ensures.keeps
    (as_value m.drawing new (waved c.as_slice.result.now) r c.waveform.ensures.makes))
