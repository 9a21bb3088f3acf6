use Rattle.std.proofs.Common.{◌<◌, length, get_or, sym, ap, ◌∙◌, subst}
use Rattle.std.proofs.lemmas.List.{get_or_read, get_or_default}
use Rattle.std.proofs.lemmas.List.Elements.{All-get_or}
use Rattle.fv_signal.specs.declared.rate.Rate.TheVariants as rate
use Rattle.fv_signal.specs.headline.Rates.{rate_at, faster}
use Rattle.fv_analysis.proofs.lemmas.RateLemmas.{fastest_more}
use Rattle.fv_analysis.proofs.graph_rates.fastest.Goals as goal

pub loop-signal-preserved : goal.loop-signal-preserved
loop-signal-preserved c =
    let rates = c.args.rates.now in
    let signals = c.args.signals.now in
    let i = c.loop-signal.signal-index in
    let s = c.signal-item.result in
    let there : s < length rates =
    subst (λ x. x < length rates) (sym (get_or_read signals i s c.loop-signal-test.true c.signal-item.is 0))
    (All-get_or (λ a. a < length rates) signals i 0 c.loop-signal-test.true c.requires) in
    c.faster-rate.ensures ∙ ap (λ k. faster c.loop-signal.rate (get_or rates k rate.Constant)) c.number.ensures
    ∙ ap (faster c.loop-signal.rate) (get_or_default rates s rate.Constant rate.Sample there)
    ∙ fastest_more (rate_at rates) signals i s c.loop-signal.rate c.loop-signal-test.true c.signal-item.is c.loop-signal.invariant
