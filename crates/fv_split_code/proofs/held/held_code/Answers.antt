use Rattle.std.proofs.Common.{◌≡◌, ◌+◌, suc, [], length, sym, ap, ◌∙◌, subst, arith}
use Rattle.fv_signal.specs.headline.Rates.{rate_in, rate_at}
use Rattle.fv_signal.proofs.lemmas.Grown.{length_grown}
use Rattle.fv_analysis.specs.headline.Stands.{StandsAt}
use Rattle.fv_split_plan.proofs.lemmas.NodeLemmas.{node_read}
use Rattle.fv_split_code.proofs.HoldLemmas.{AreHeld, holds_if, steady_node}
use Rattle.fv_split_code.proofs.held.held_code.Goals as goal

pub get-rate-requires : goal.get-rate-requires
get-rate-requires c =
    let e = c.new-in-loop-s.ensures in
    omega (arith, e, ap length c.requires.rates, length_grown (λ now. rate_in (rate_at now)) [] c.args.graph.now.signals)

pub hold_if-requires-clause-steady : goal.hold_if-requires-clause-steady
hold_if-requires-clause-steady c fast =
    let g = c.args.graph.now in
    let s = c.loop-s.s in
    let node = c.signal-node.result in
    let is = node_read g s c.new.result node (omega arith) c.new.ensures c.signal-node.ensures.node in
    let rate = c.get-rate.ensures ∙ ap (rate_at c.args.rates.now) c.new-in-loop-s.ensures ∙ ap (λ rs. rate_at rs s) c.requires.rates in
    steady_node g c.requires.graph s (omega arith) node (sym is) (λ e. fast (rate ∙ e))

pub loop-s-preserved : goal.loop-s-preserved
loop-s-preserved c =
    let g = c.args.graph.now in
    let s = c.loop-s.s in
    let node = c.signal-node.result in
    let stands : StandsAt g s node = record {
      within = omega arith;
      is = sym (node_read g s c.new.result node (omega arith) c.new.ensures c.signal-node.ensures.node);
    } in
    let rate = c.get-rate.ensures ∙ ap (rate_at c.args.rates.now) c.new-in-loop-s.ensures ∙ ap (λ rs. rate_at rs s) c.requires.rates in
    let z : suc s ≡ s + 1 = omega arith in
    subst (λ n. AreHeld g n c.hold_if.new.numbers.items c.hold_if.new.steps.items) z
    (holds_if g c.requires.graph s node c.get-rate.result c.loop-s.numbers.items c.loop-s.steps.items
    c.hold_if.new.numbers.items c.hold_if.new.steps.items stands rate c.in_ok-hold_if.ensures c.loop-s.invariant)
