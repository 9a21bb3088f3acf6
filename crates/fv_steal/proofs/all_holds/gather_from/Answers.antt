use Rattle.std.proofs.Common.{get_or, arith}
use Rattle.fv_steal.proofs.Giving.{loop_at, loop_given_on, loop_low, loop_less, loop_done, no_items}
use Rattle.fv_steal.proofs.all_holds.gather_from.Goals as goal

pub take_back-requires : goal.take_back-requires
take_back-requires g c = loop_at c.args.w c.len-v.result c.args.workers.now c.loop-victim.workers c.index-workers-w.result c.index-workers-w-in-Some.result
    c.pop.new.self c.in-Some.victim c.requires.there c.loop-victim.invariant.given c.loop-victim.invariant.low c.requires.holds.lent c.in-Some.ensures.items
    c.len-v.ensures c.index-workers-v.result

pub loop-victim-smaller : goal.loop-victim-smaller
loop-victim-smaller g c = loop_less c.args.w c.len-v.result c.args.workers.now c.loop-victim.workers c.index-workers-w.result c.index-workers-w-in-Some.result
    c.pop.new.self c.in-Some.victim c.requires.there c.loop-victim.invariant.given c.loop-victim.invariant.low c.requires.holds.lent c.in-Some.ensures.items
    c.len-v.ensures c.index-workers-v.result c.take_back.new.self c.take_back.ensures.room c.take_back.ensures.place c.take_back.ensures.account

pub loop-victim-preserved : goal.loop-victim-preserved
loop-victim-preserved g c = record {
  given = loop_given_on c.args.w c.len-v.result c.args.workers.now c.loop-victim.workers c.index-workers-w.result c.index-workers-w-in-Some.result
      c.pop.new.self c.in-Some.victim c.requires.there c.loop-victim.invariant.given c.loop-victim.invariant.low c.requires.holds.lent c.in-Some.ensures.items
      c.len-v.ensures c.index-workers-v.result c.take_back.new.self c.take_back.ensures.room c.take_back.ensures.place c.take_back.ensures.account;
  low = loop_low c.args.w c.len-v.result c.args.workers.now c.loop-victim.workers c.index-workers-w.result c.index-workers-w-in-Some.result
      c.pop.new.self c.in-Some.victim c.requires.there c.loop-victim.invariant.given c.loop-victim.invariant.low c.requires.holds.lent c.in-Some.ensures.items
      c.len-v.ensures c.index-workers-v.result c.take_back.new.self c.take_back.ensures.room c.take_back.ensures.place c.take_back.ensures.account;
}

pub returns : goal.returns
returns g c = let last = get_or c.loop-victim.workers c.args.w c.index-workers-w.result in let k = c.in_default.ensures.cases in let k0 = k.0 in let k1 = k.1 in
    let o = last.victims.ok.0 in let n = c.pop.new.self.ok.0 in
    record {
      given = loop_done c.args.w c.args.workers.now c.loop-victim.workers c.index-workers-w.result c.pop.new.self c.requires.there
          c.loop-victim.invariant.given (omega arith) (no_items c.pop.new.self.items last.victims.items (omega arith) (omega arith));
    }
