use Rattle.fv_eval.proofs.Forms.{is_no_other_binary}
use Rattle.fv_eval.proofs.machine.Machine.right.Goals as goal

pub unreachable-requires : goal.unreachable-requires
unreachable-requires c =
    is_no_other_binary c.args.text.now c.tree.result.now c.args.binary c.node.result.now _ c.tree.ensures c.node.ensures.tree c.requires.form
    c.in_default.not-Binary
