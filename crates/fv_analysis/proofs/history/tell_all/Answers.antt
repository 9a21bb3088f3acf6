use Rattle.std.proofs.Common.{◌≡◌, get_or, subst, arith}
use Rattle.fv_analysis.proofs.lemmas.HistoryLemmas.{tell_more}
use Rattle.fv_analysis.proofs.history.tell_all.Goals as goal

pub loop-place-preserved : goal.loop-place-preserved
loop-place-preserved c =
    let g = c.args.graph.now in
    tell_more g c.loop-place.place c.signal-signal.result c.loop-place.delays.items c.tell.new.delays.items c.loop-place.backs.items c.tell.new.backs.items
    (omega arith)
    (subst (λ n. c.signal-signal.result ≡ get_or g.signals n c.signal-signal.result) c.new.ensures c.signal-signal.ensures.node) c.loop-place.invariant
    c.tell.ensures
