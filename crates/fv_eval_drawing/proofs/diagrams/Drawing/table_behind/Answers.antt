use Rattle.fv_eval_drawing.proofs.Tabling.{behind_makes}
use Rattle.fv_eval_drawing.proofs.diagrams.Drawing.table_behind.Goals as goal

pub returns-clause-makes : goal.returns-clause-makes
returns-clause-makes c =
    behind_makes c.args.self.now c.list.new.self c.leaf.new.self c.put_node.new.self c.args.taken c.in_ok-list.list c.in_ok-table.table
    c.args.values.now c.args.writes c.put_node.result c.requires.taken c.requires.fits c.in_ok-list.ensures.adds c.in_ok-list.ensures.list
    c.in_ok-table.ensures.adds c.in_ok-table.ensures.draws c.put_node.ensures.adds c.put_node.ensures.puts
