use Rattle.std.proofs.Common.{sym, subst}
use Rattle.fv_diagram.specs.headline.Diagram.{Diagram}
use Rattle.fv_diagram.specs.Arena.{tree_with}
use Rattle.fv_rules.specs.headline.Steps.{Eval}
use Rattle.fv_eval_drawing.specs.Makes.{Makes}
use Rattle.fv_eval_drawing.specs.inner.Tables.{PutsTable}
use Rattle.fv_eval_drawing.proofs.Leaves.{puts_makes}
use Rattle.fv_eval_drawing.proofs.diagrams.Drawing.put.Goals as goal

pub returns-in-None-clause-makes : goal.returns-in-None-clause-makes
returns-in-None-clause-makes c =
    let a = c.args.self.now in
    let b = c.put_node.new.self in
    let d = tree_with a.diagrams c.args.node.now in
    let plain = subst (PutsTable a.diagrams d) c.in-None.is c.before_table.ensures in
    subst (λ (m : Eval Diagram). Makes a b m c.put_node.result) (sym plain)
    (puts_makes a b d c.put_node.result c.put_node.ensures.adds.tables c.put_node.ensures.puts)

pub returns-in-Some-clause-makes : goal.returns-in-Some-clause-makes
returns-in-Some-clause-makes c =
    subst (λ (m : Eval Diagram). Makes c.args.self.now c.table.new.self m c.table.result) (sym c.in-Some.ensures.1.1) c.table.ensures.makes

pub table-requires : goal.table-requires
table-requires c = record { before = c.in-Some.ensures.0; outputs = c.in-Some.ensures.1.0 }
