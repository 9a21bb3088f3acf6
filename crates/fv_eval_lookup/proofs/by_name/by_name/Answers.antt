use Rattle.fv_eval_lookup.proofs.Named.{still_defined}
use Rattle.fv_eval_lookup.proofs.by_name.by_name.Goals as goal

pub returns : goal.returns
returns c =
    still_defined c.args.tree.now c.args.list c.in_ok-definitions.definitions.items _ c.in_ok-definitions.ensures c.in_ok-sorted.ensures.same
    c.in_ok-sorted.ensures.moved
