use Rattle.std.proofs.Common.{rules, length, ap, arith}
use Rattle.fv_split_lanes.proofs.RankLemmas.{bit, counts_none, counts_more}
use Rattle.fv_split_lanes.proofs.rank.counts.Goals.{then-bits-i, else-bits-i}
use Rattle.fv_split_lanes.proofs.rank.counts.Goals as goal

pub loop-i-init : goal.loop-i-init
loop-i-init c = counts_none c.args.bits.now c.in_ok-counts.counts.items (ap length c.in_ok-counts.ensures.items)

pub loop-i-preserved : goal.loop-i-preserved
loop-i-preserved c = counts_more c.args.bits.now c.loop-i.counts.items c.push.new.self.items c.loop-i.count c.if-bits-i.count c.loop-i.i c.loop-i.invariant
    (search rules) (elim c.if-bits-i.branch [
      | then-bits-i w ↦ omega (arith, w.count-is, ap bit w.if-bits-i.true)
      | else-bits-i w ↦ omega (arith, w.count-is, ap bit w.if-bits-i.false)
    ])
