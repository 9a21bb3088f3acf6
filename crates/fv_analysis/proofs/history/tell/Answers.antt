use Rattle.std.proofs.Common.{◌≡◌, ◌<◌, length, get_or, sym, ap, ◌∙◌, subst, arith}
use Rattle.std.proofs.lemmas.List.{get_or_read}
use Rattle.fv_signal.specs.headline.Value.{NamesWithin, definition}
use Rattle.fv_analysis.specs.inner.History.{IsOver}
use Rattle.fv_analysis.proofs.lemmas.StandLemmas.{stands_long}
use Rattle.fv_analysis.proofs.history.tell.Goals as goal

pub tell_delay-requires-clause-there : goal.tell_delay-requires-clause-there
tell_delay-requires-clause-there c =
    let g = c.args.graph.now in
    let over = subst (IsOver (length g.signals)) c.in-Delay.is c.requires.over in
    omega (arith, over, ap length c.requires.stands, stands_long g)

pub tell_back-requires-clause-there : goal.tell_back-requires-clause-there
tell_back-requires-clause-there c =
    let g = c.args.graph.now in
    let names = subst (NamesWithin g) c.in-Back.is c.requires.names in
    let is : c.index-group-i.result ≡ definition g c.in-Back.group c.in-Back.i =
    get_or_read c.group.result.now c.in-Back.i c.index-group-i.result (subst (λ xs. c.in-Back.i < length xs) (sym c.group.ensures) names.1) c.index-group-i.is 0
    ∙ ap (λ xs. get_or xs c.in-Back.i 0) c.group.ensures in
    omega (arith, is, names.2, ap length c.requires.stands, stands_long g)
