use Rattle.std.proofs.Common.{◌≡◌, ◌+◌, [], ◌∷◌, ◌++◌, length, get_or, sym, ap, ◌∙◌, subst, arith, pos}
use Rattle.std.proofs.lemmas.List.{get_or_read}
use Rattle.fv_signal.specs.declared.signal.Signal.TheVariants.{Const}
use Rattle.fv_signal.specs.headline.Value.{OperandsBelow}
use Rattle.fv_signal.specs.headline.Rates.{rate_in, rate_at}
use Rattle.fv_analysis.specs.headline.Stands.{node}
use Rattle.fv_analysis.specs.inner.Stands.{OperandsThere}
use Rattle.fv_analysis.proofs.Grown.{grown_more}
use Rattle.fv_analysis.proofs.lemmas.RateLemmas.{there_of, rates_long}
use Rattle.fv_analysis.proofs.graph_rates.rates.Goals as goal

pub rate_of-rate-requires : goal.rate_of-rate-requires
rate_of-rate-requires c =
    let g = c.args.graph.now in
    let place = c.loop-place.place in
    let long : length c.deref.result.now ≡ place = ap length (c.deref.ensures.value ∙ c.loop-place.invariant) ∙ rates_long g.signals place (omega arith) in
    subst (λ n. OperandsThere n c.signal-signal.result) (sym long)
    (there_of g place c.signal-signal.result (subst (λ n. OperandsBelow g n c.signal-signal.result) c.new.ensures c.signal-signal.ensures.operands))

pub loop-place-preserved : goal.loop-place-preserved
loop-place-preserved c =
    let g = c.args.graph.now in
    let place = c.loop-place.place in
    let all = c.loop-place.all.items in
    let pushed : c.push.new.self.items ≡ all ++ c.rate_of-rate.result ∷ [] = c.in_ok-push.ensures.items in
    let at : c.signal-signal.result ≡ node g place =
    get_or_read g.signals place c.signal-signal.result (omega arith)
    (subst (λ n. c.signal-signal.result ≡ get_or g.signals n c.signal-signal.result) c.new.ensures c.signal-signal.ensures.node)
    (Const (pos 0)) in
    pushed
    ∙ ap (λ x. all ++ x ∷ [])
    (c.rate_of-rate.ensures ∙ ap (λ xs. rate_in (rate_at xs) c.signal-signal.result) c.deref.ensures.value ∙ ap (rate_in (rate_at all)) at)
    ∙ ap (λ xs. xs ++ rate_in (rate_at xs) (node g place) ∷ []) c.loop-place.invariant
    ∙ sym (grown_more (λ now. rate_in (rate_at now)) g.signals place (Const (pos 0)) (omega arith))

pub returns-clause-long : goal.returns-clause-long
returns-clause-long c =
    let n : c.loop-place.place ≡ length c.args.graph.now.signals = omega arith in
    ap length (c.new-2.ensures ∙ c.loop-place.invariant) ∙ rates_long c.args.graph.now.signals c.loop-place.place (omega arith) ∙ n
