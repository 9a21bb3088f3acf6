use Rattle.std.proofs.Common.{length, ap, arith, subst}
use Rattle.fv_eval_lookup.specs.ByName.{AreDefined}
use Rattle.fv_eval_lookup.proofs.Named.{sorted_more}
use Rattle.fv_eval_lookup.proofs.lookup.Definitions.new.Goals as goal

pub loop-i-preserved : goal.loop-i-preserved
loop-i-preserved c =
    sorted_more c.args.tree.now c.loop-i.lists.items _ c.loop-i.i c.in_ok-list.list c.loop-i.invariant
    (subst (λ k. AreDefined c.args.tree.now k c.in_ok-list.list) c.new-id.ensures c.in_ok-list.ensures) c.in_ok-push.ensures.items

pub invariant_of-definitions : goal.invariant_of-definitions
invariant_of-definitions c =
    let so = c.loop-i.invariant in (
      record {
        whole = omega (arith, so.many, c.loop-i-test.false, c.loop-i.auto.i-end, c.len-i-end.ensures);
        each = λ i d l. so.each i d (omega (arith, l, so.many));
      },
      λ k d l. absurd (omega (arith, l, ap length c.new-2.ensures.items)),
      c.in_ok-parameters.ensures,
    )
