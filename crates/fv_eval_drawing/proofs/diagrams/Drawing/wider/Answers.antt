use Rattle.std.proofs.Common.{◌+◌, sym, subst}
use Rattle.fv_eval_drawing.specs.Makes.{Canvas}
use Rattle.fv_eval_drawing.specs.Wires.{IsWired}
use Rattle.fv_eval_drawing.proofs.Wired.{wider, wider_refused}
use Rattle.fv_eval_drawing.proofs.diagrams.Drawing.wider.Goals as goal

pub keep_wires-requires : goal.keep_wires-requires
keep_wires-requires c =
    wider c.args.self.now.diagrams c.put_node.new.self.diagrams c.args.wire c.args.whole c.args.count c.in-Ok.id c.requires.wire c.requires.whole
    c.requires.some c.in-Ok.ensures.puts

pub returns-in-Ok-clause-wired : goal.returns-in-Ok-clause-wired
returns-in-Ok-clause-wired c =
    subst (λ (x : Canvas). IsWired x.diagrams (c.args.count + 1) c.in-Ok.id) (sym c.keep_wires.ensures)
    (wider c.args.self.now.diagrams c.put_node.new.self.diagrams c.args.wire c.args.whole c.args.count c.in-Ok.id c.requires.wire
    c.requires.whole c.requires.some c.in-Ok.ensures.puts)

pub returns-in-Err-clause-refused : goal.returns-in-Err-clause-refused
returns-in-Err-clause-refused c =
    wider_refused c.args.self.now.diagrams c.put_node.new.self.diagrams c.args.wire c.args.whole c.args.count c.in-Err.refusal c.requires.wire
    c.requires.whole c.requires.some c.in-Err.ensures.puts
