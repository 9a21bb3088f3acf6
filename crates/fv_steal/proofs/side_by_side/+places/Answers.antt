use Rattle.std.specs.Fork.{AcceptsAt, ChangesAt}
use Rattle.fv_steal.proofs.Places.{ready_cut, changed_alone, changed_cut}
use Rattle.fv_steal.proofs.side_by_side.+places.Goals as goal

pub each_from-returns-then-s-eq1 : goal.each_from-returns-then-s-eq1
each_from-returns-then-s-eq1 g t c =
    changed_alone (ChangesAt g.F.Fn c.args.f.now) c.args.from c.args.s.now c.index-s-0.result c.at_one.new.it c.if-s-eq1.true c.at_one.ensures

pub each_from-both-requires-clause-ready : goal.each_from-both-requires-clause-ready
each_from-both-requires-clause-ready g t c κs within = let cut = c.split_at_mut-one in
    ready_cut (AcceptsAt g.F.Fn c.args.f.now) c.args.from c.args.s.now cut.result.0.now cut.result.1.now cut.ensures.value cut.ensures.front_len
    c.requires.ready

pub each_from-returns : goal.each_from-returns
each_from-returns g t c = let cut = c.split_at_mut-one in
    changed_cut (ChangesAt g.F.Fn c.args.f.now) c.args.from c.args.s.now cut.result.0.now cut.result.1.now c.both.new.one c.both.new.others
    cut.ensures.value cut.ensures.front_len c.both.ensures.one c.both.ensures.others
