use Rattle.std.proofs.Common.{sym, subst, arith}
use Rattle.fv_ready.specs.Begun.{AreRoomy}
use Rattle.fv_ready.proofs.Dealing.{more_roomy}
use Rattle.fv_ready.proofs.begin.roomy_lists.Goals as goal

pub push_reserved-requires : goal.push_reserved-requires
push_reserved-requires c = let i = c.loop-i.invariant.1 in let k = c.loop-i.invariant.2 in let t = c.loop-i-test.true in omega arith

pub loop-i-preserved : goal.loop-i-preserved
loop-i-preserved c = let inv = c.loop-i.invariant in let p = c.push_reserved.ensures in let l = p.len in let k = p.capacity in
    let i = inv.1 in let r = inv.2 in (
      subst (AreRoomy c.args.room) (sym p.items) (more_roomy c.args.room c.loop-i.lists.items c.in_ok-list.list inv.0
          c.in_ok-list.ensures.items c.in_ok-list.ensures.capacity),
      omega arith,
      omega arith,
    )
