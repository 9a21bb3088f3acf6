use Rattle.std.proofs.Common.{◌≡◌, get_or, subst, arith, pos, below_more}
use Rattle.std.proofs.lemmas.List.{get_or_read}
use Rattle.fv_signal.specs.declared.signal.Signal.TheVariants.{Const}
use Rattle.fv_analysis.specs.headline.Stands.{node}
use Rattle.fv_engine_tests.specs.Runs.{IsNamedWithin}
use Rattle.fv_engine_tests.proofs.may.names_beyond.Goals as goal

pub loop-place-preserved : goal.loop-place-preserved
loop-place-preserved c =
    let g = c.args.graph.now in let place = c.loop-place.place in let x = c.signal-signal.result in
    let read : x ≡ get_or g.signals place x = subst (λ n. x ≡ get_or g.signals n x) c.new.ensures c.signal-signal.ensures.node in
    let at : x ≡ node g place = get_or_read g.signals place x (omega arith) read (Const (pos 0)) in
    below_more (λ p. IsNamedWithin c.args.channels c.args.controls (node g p)) place c.loop-place.invariant
    (subst (IsNamedWithin c.args.channels c.args.controls) at (c.is_beyond-beyond.ensures c.if-beyond.false))

pub returns-clause-inputs : goal.returns-clause-inputs
returns-clause-inputs c = λ t i n. (c.loop-place.invariant n.place (let w = n.is.within in omega (arith, w))).inputs i n.is.is

pub returns-clause-controls : goal.returns-clause-controls
returns-clause-controls c = λ t k n. (c.loop-place.invariant n.place (let w = n.within in omega (arith, w))).controls_are k n.is
