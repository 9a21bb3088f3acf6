use Rattle.fv_eval_drawing.proofs.Operated.{operated_makes}
use Rattle.fv_eval_drawing.proofs.diagrams.Drawing.operate.Goals as goal

pub returns-clause-makes : goal.returns-clause-makes
returns-clause-makes c =
    operated_makes c.args.self.now c.leaf.new.self c.put.new.self c.put-2.new.self c.args.primitive c.args.left c.args.right c.in_ok-operation.operation
    c.in_ok-both.both c.put-2.result c.requires.left c.requires.right
    c.in_ok-operation.ensures.adds c.in_ok-operation.ensures.draws c.in_ok-both.ensures.keeps c.in_ok-both.ensures.makes c.put-2.ensures.makes
