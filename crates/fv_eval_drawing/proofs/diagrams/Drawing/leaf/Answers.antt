use Rattle.fv_eval_drawing.proofs.Leaves.{leaf_refused}
use Rattle.fv_eval_drawing.proofs.diagrams.Drawing.leaf.Goals as goal

pub unreachable-requires : goal.unreachable-requires
unreachable-requires c =
    c.in_default.not-NoMemory
    (leaf_refused c.put_node.new.self.diagrams c.args.self.now.diagrams c.args.node.now c.in-Err.refusal c.requires.leaf c.in-Err.ensures.puts)
