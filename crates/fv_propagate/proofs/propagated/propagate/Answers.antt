use Rattle.std.proofs.Common.{◌≡◌, ℕ, List, length, sym, ap, ◌∙◌, subst}
use Rattle.fv_base.specs.declared.limits.TheConstants.{DELAY_LIMIT}
use Rattle.fv_num.specs.headline.Frames.{Frame, Stream}
use Rattle.fv_num.specs.headline.Interval.{Interval}
use Rattle.fv_num.specs.SpanLaws.{AreSpans}
use Rattle.fv_signal.specs.headline.Value.{Graph, AreAtMost, IsGraph}
use Rattle.fv_signal.specs.Value.{StayWithin}
use Rattle.fv_share.specs.Drafts.{AreClosed, AreDistinct, graph_of}
use Rattle.fv_diagram.specs.Arena.{tree_of}
use Rattle.fv_interval.specs.headline.Delays.{delays_of}
use Rattle.fv_interval.specs.Delays.{AreAccepted}
use Rattle.fv_propagate.specs.inner.Progress.{Progress, IsThere}
use Rattle.fv_propagate.specs.headline.Propagated.{AreTaken, Propagates, NamesWithin}
use Rattle.fv_propagate.specs.Propagated.{DelaysAreAmong}
use Rattle.fv_propagate.proofs.Whole.{made, graph, propagates, stays_within, stays_short, delays_among, names_within}
use Rattle.fv_propagate.proofs.Whole.{made_wide, made_closed, made_is, inputs_there}
use Rattle.fv_propagate.proofs.propagated.propagate.Goals as goal

pub walk-requires-clause-width : goal.walk-requires-clause-width
walk-requires-clause-width c =
    (inputs_there c.args.delays.now c.in_ok-ins.ins.items c.from-count.result c.in_ok-progress.progress c.inputs.new.self c.in_ok-progress.ensures
    c.in_ok-ins.ensures).0
    ∙ c.from-count.ensures ∙ c.arity.ensures.arity.0

pub walk-requires-clause-wires : goal.walk-requires-clause-wires
walk-requires-clause-wires c =
    (inputs_there c.args.delays.now c.in_ok-ins.ins.items c.from-count.result c.in_ok-progress.progress c.inputs.new.self c.in_ok-progress.ensures
    c.in_ok-ins.ensures).1

pub walk-requires-clause-free : goal.walk-requires-clause-free
walk-requires-clause-free c =
    subst (IsThere c.inputs.new.self) (sym c.new-2.ensures)
    (inputs_there c.args.delays.now c.in_ok-ins.ins.items c.from-count.result c.in_ok-progress.progress c.inputs.new.self c.in_ok-progress.ensures
    c.in_ok-ins.ensures).2

pub finish-requires-clause-closed : goal.finish-requires-clause-closed
finish-requires-clause-closed c =
    let r = c.requires in
    let n = c.arity.ensures.numbers in
    let d = tree_of c.args.diagrams.now c.args.root in
    let ds = c.args.delays.now in
    let is : (c.in_ok-outs.outs.items, c.walk.new.signals) ≡ made d ds r.well r.closed n =
    made_is d ds c.in_ok-ins.ins.items c.in_ok-outs.outs.items c.from-count.result c.new-2.result c.in_ok-progress.progress c.inputs.new.self c.walk.new.signals
    (c.from-count.ensures ∙ c.arity.ensures.arity.0) c.in_ok-progress.ensures c.in_ok-ins.ensures c.new-2.ensures c.in_ok-outs.ensures.walked in
    subst (λ (r : List ℕ × Progress). AreClosed r.1.draft) (sym is) (made_closed d ds r.well r.closed n)

pub returns-clause-values : goal.returns-clause-values
returns-clause-values c =
    let r = c.requires in
    let n = c.arity.ensures.numbers in
    let d = tree_of c.args.diagrams.now c.args.root in
    let ds = c.args.delays.now in
    let is : (c.in_ok-outs.outs.items, c.walk.new.signals) ≡ made d ds r.well r.closed n =
    made_is d ds c.in_ok-ins.ins.items c.in_ok-outs.outs.items c.from-count.result c.new-2.result c.in_ok-progress.progress c.inputs.new.self c.walk.new.signals
    (c.from-count.ensures ∙ c.arity.ensures.arity.0) c.in_ok-progress.ensures c.in_ok-ins.ensures c.new-2.ensures c.in_ok-outs.ensures.walked in
    let same : graph_of c.walk.new.signals.draft c.deref.result.now ≡ graph d ds r.well r.closed n =
    ap (graph_of c.walk.new.signals.draft) c.deref.ensures.value ∙ ap (λ (r : List ℕ × Progress). graph_of r.1.draft r.0) is in
    let g : c.in_ok-graph.graph ≡ graph d ds r.well r.closed n = c.in_ok-graph.ensures.graph ∙ same in
    subst (λ (g : Graph). (spans : List Interval) → AreAccepted (delays_of d spans) ds → Propagates d spans g) (sym g)
    (propagates d ds r.well r.closed n (subst IsGraph same c.in_ok-graph.ensures.whole))

pub returns-clause-delays : goal.returns-clause-delays
returns-clause-delays c =
    let r = c.requires in
    let n = c.arity.ensures.numbers in
    let d = tree_of c.args.diagrams.now c.args.root in
    let ds = c.args.delays.now in
    let is : (c.in_ok-outs.outs.items, c.walk.new.signals) ≡ made d ds r.well r.closed n =
    made_is d ds c.in_ok-ins.ins.items c.in_ok-outs.outs.items c.from-count.result c.new-2.result c.in_ok-progress.progress c.inputs.new.self c.walk.new.signals
    (c.from-count.ensures ∙ c.arity.ensures.arity.0) c.in_ok-progress.ensures c.in_ok-ins.ensures c.new-2.ensures c.in_ok-outs.ensures.walked in
    let same : graph_of c.walk.new.signals.draft c.deref.result.now ≡ graph d ds r.well r.closed n =
    ap (graph_of c.walk.new.signals.draft) c.deref.ensures.value ∙ ap (λ (r : List ℕ × Progress). graph_of r.1.draft r.0) is in
    let g : c.in_ok-graph.graph ≡ graph d ds r.well r.closed n = c.in_ok-graph.ensures.graph ∙ same in
    subst (λ (g : Graph). (spans : List Interval) → AreAccepted (delays_of d spans) ds → (X : List Frame) (c : ℕ → Stream)
    → AreTaken d spans X c → StayWithin g X c) (sym g)
    (stays_within d ds r.well r.closed n (subst IsGraph same c.in_ok-graph.ensures.whole))

pub returns-clause-short : goal.returns-clause-short
returns-clause-short c =
    let r = c.requires in
    let n = c.arity.ensures.numbers in
    let d = tree_of c.args.diagrams.now c.args.root in
    let ds = c.args.delays.now in
    let is : (c.in_ok-outs.outs.items, c.walk.new.signals) ≡ made d ds r.well r.closed n =
    made_is d ds c.in_ok-ins.ins.items c.in_ok-outs.outs.items c.from-count.result c.new-2.result c.in_ok-progress.progress c.inputs.new.self c.walk.new.signals
    (c.from-count.ensures ∙ c.arity.ensures.arity.0) c.in_ok-progress.ensures c.in_ok-ins.ensures c.new-2.ensures c.in_ok-outs.ensures.walked in
    let same : graph_of c.walk.new.signals.draft c.deref.result.now ≡ graph d ds r.well r.closed n =
    ap (graph_of c.walk.new.signals.draft) c.deref.ensures.value ∙ ap (λ (r : List ℕ × Progress). graph_of r.1.draft r.0) is in
    let g : c.in_ok-graph.graph ≡ graph d ds r.well r.closed n = c.in_ok-graph.ensures.graph ∙ same in
    subst (λ (g : Graph). (spans : List Interval) → AreSpans spans → AreAccepted (delays_of d spans) ds → AreAtMost DELAY_LIMIT g) (sym g)
    (stays_short d ds r.well r.closed n (subst IsGraph same c.in_ok-graph.ensures.whole))

pub returns-clause-longest : goal.returns-clause-longest
returns-clause-longest c =
    let r = c.requires in
    let n = c.arity.ensures.numbers in
    let d = tree_of c.args.diagrams.now c.args.root in
    let ds = c.args.delays.now in
    let is : (c.in_ok-outs.outs.items, c.walk.new.signals) ≡ made d ds r.well r.closed n =
    made_is d ds c.in_ok-ins.ins.items c.in_ok-outs.outs.items c.from-count.result c.new-2.result c.in_ok-progress.progress c.inputs.new.self c.walk.new.signals
    (c.from-count.ensures ∙ c.arity.ensures.arity.0) c.in_ok-progress.ensures c.in_ok-ins.ensures c.new-2.ensures c.in_ok-outs.ensures.walked in
    let same : graph_of c.walk.new.signals.draft c.deref.result.now ≡ graph d ds r.well r.closed n =
    ap (graph_of c.walk.new.signals.draft) c.deref.ensures.value ∙ ap (λ (r : List ℕ × Progress). graph_of r.1.draft r.0) is in
    let g : c.in_ok-graph.graph ≡ graph d ds r.well r.closed n = c.in_ok-graph.ensures.graph ∙ same in
    subst (DelaysAreAmong ds) (sym g) (delays_among d ds r.well r.closed n)

pub returns-clause-shared : goal.returns-clause-shared
returns-clause-shared c = subst (λ (g : Graph). AreDistinct g.signals) (sym c.in_ok-graph.ensures.graph) c.in_ok-graph.ensures.shared

pub returns-clause-width : goal.returns-clause-width
returns-clause-width c =
    let r = c.requires in
    let n = c.arity.ensures.numbers in
    let d = tree_of c.args.diagrams.now c.args.root in
    let ds = c.args.delays.now in
    let is : (c.in_ok-outs.outs.items, c.walk.new.signals) ≡ made d ds r.well r.closed n =
    made_is d ds c.in_ok-ins.ins.items c.in_ok-outs.outs.items c.from-count.result c.new-2.result c.in_ok-progress.progress c.inputs.new.self c.walk.new.signals
    (c.from-count.ensures ∙ c.arity.ensures.arity.0) c.in_ok-progress.ensures c.in_ok-ins.ensures c.new-2.ensures c.in_ok-outs.ensures.walked in
    let same : graph_of c.walk.new.signals.draft c.deref.result.now ≡ graph d ds r.well r.closed n =
    ap (graph_of c.walk.new.signals.draft) c.deref.ensures.value ∙ ap (λ (r : List ℕ × Progress). graph_of r.1.draft r.0) is in
    let g : c.in_ok-graph.graph ≡ graph d ds r.well r.closed n = c.in_ok-graph.ensures.graph ∙ same in
    ap (λ (g : Graph). length g.outputs) g ∙ made_wide d ds r.well r.closed n

pub returns-clause-names : goal.returns-clause-names
returns-clause-names c =
    let r = c.requires in
    let n = c.arity.ensures.numbers in
    let d = tree_of c.args.diagrams.now c.args.root in
    let ds = c.args.delays.now in
    let is : (c.in_ok-outs.outs.items, c.walk.new.signals) ≡ made d ds r.well r.closed n =
    made_is d ds c.in_ok-ins.ins.items c.in_ok-outs.outs.items c.from-count.result c.new-2.result c.in_ok-progress.progress c.inputs.new.self c.walk.new.signals
    (c.from-count.ensures ∙ c.arity.ensures.arity.0) c.in_ok-progress.ensures c.in_ok-ins.ensures c.new-2.ensures c.in_ok-outs.ensures.walked in
    let same : graph_of c.walk.new.signals.draft c.deref.result.now ≡ graph d ds r.well r.closed n =
    ap (graph_of c.walk.new.signals.draft) c.deref.ensures.value ∙ ap (λ (r : List ℕ × Progress). graph_of r.1.draft r.0) is in
    let g : c.in_ok-graph.graph ≡ graph d ds r.well r.closed n = c.in_ok-graph.ensures.graph ∙ same in
    subst (NamesWithin d) (sym g) (names_within d ds r.well r.closed n)
