use Rattle.std.proofs.Common.{◌<◌, sym, subst}
use Rattle.fv_diagram.specs.Arena.{count_of}
use Rattle.fv_eval_drawing.specs.Makes.{Canvas}
use Rattle.fv_eval_drawing.proofs.diagrams.Drawing.keep_node.Goals as goal

pub invariant_of-self : goal.invariant_of-self
invariant_of-self c =
    let here = subst (λ (x : Canvas). c.args.id < count_of x.diagrams) (sym c.self.view_is) c.requires in
    (c.self.invariant.0, c.self.invariant.1, c.self.invariant.2, c.keep.ensures (count_of c.self.inside.diagrams) c.self.invariant.3 here)
