use Rattle.fv_diagram.specs.Arena.{Arena}
use Rattle.fv_eval_drawing.specs.Makes.{Canvas}
use Rattle.fv_eval_drawing.proofs.Remembered.{list_keeps}
use Rattle.fv_eval_drawing.proofs.diagrams.Drawing.list.Goals as goal

pub invariant_of-self : goal.invariant_of-self
invariant_of-self c =
    let canvas : Arena → Canvas = λ a. record { diagrams = a; tables = c.self.inside.tables } in
    list_keeps (canvas c.self.inside.diagrams) (canvas c.table.new.self) c.self.inside.numbers c.self.inside.wires c.self.inside.recent
    c.args.values.now c.table.result
    c.table.ensures.ok c.table.ensures.err c.table.ensures.keeps c.self.invariant
