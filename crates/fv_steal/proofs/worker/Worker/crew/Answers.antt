use Rattle.std.proofs.Common.{◌≡◌, sym, ◌∙◌, subst, length, arith}
use Rattle.fv_steal.specs.inner.Assembled.{AreFrom}
use Rattle.fv_steal.proofs.Together.{long_parts, crew_is, seats_are}
use Rattle.fv_steal.proofs.worker.Worker.crew.Goals as goal

pub returns-clause-crew : goal.returns-clause-crew
returns-clause-crew g c = λ id a fresh.
    let n = c.len.result in let parts = c.in-Ok.ensures in let ps = c.in-Ok.parts.items in
    let many : length c.args.seats.items ≡ n = sym c.args.seats.ok.0 ∙ sym c.len.ensures in
    crew_is g.C.Parcel.edge_of g.C.Parcel.key_of c.args.tasks.now id a n ps c.args.seats.items c.assemble.result.items
    (let s = c.requires.some in let l = c.len.ensures in omega arith) many parts (long_parts c.args.tasks.now.tasks n ps parts)
    (subst (λ ss. AreFrom ps ss 0 c.assemble.result.items) c.reverse.ensures.items c.assemble.ensures.workers) fresh

pub returns-clause-seats : goal.returns-clause-seats
returns-clause-seats g c =
    let n = c.len.result in let parts = c.in-Ok.ensures in let ps = c.in-Ok.parts.items in
    let many : length c.args.seats.items ≡ n = sym c.args.seats.ok.0 ∙ sym c.len.ensures in
    seats_are c.args.tasks.now.tasks n ps c.args.seats.items c.assemble.result.items parts
    (many ∙ sym (long_parts c.args.tasks.now.tasks n ps parts))
    (subst (λ ss. AreFrom ps ss 0 c.assemble.result.items) c.reverse.ensures.items c.assemble.ensures.workers)
