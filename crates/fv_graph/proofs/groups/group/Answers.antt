use Rattle.std.proofs.Common.{◌<◌, ◌++◌, ◌∷◌, [], get_or, length, ap, ◌∙◌, refl, arith}
use Rattle.fv_graph.proofs.lemmas.Grouping.{grouped_next, get_any}
use Rattle.fv_graph.proofs.groups.group.Goals as goal

pub loop-k-preserved : goal.loop-k-preserved
loop-k-preserved c =
    let r = get_or c.args.keys.now c.loop-k.k 0 in
    let low : r < c.args.loops = c.requires c.loop-k.k c.loop-k-test.true in
    let i1 = c.loop-k.invariant.1 in let o = c.loop-k.lists.ok.0 in
    let there : r < length c.loop-k.lists.items = omega arith in (
      grouped_next c.args.keys.now c.args.loops c.loop-k.k r c.loop-k.lists.items c.push.new.self c.loop-k.invariant.0 refl there
          (λ d. c.in_ok-push.ensures.items
          ∙ ap (λ v. v.items ++ c.loop-k.k ∷ []) (c.index_mut-list.ensures.value ∙ get_any c.loop-k.lists.items r c.index_mut-list.result.now d there)) low,
      i1,
    )
