use Rattle.std.proofs.Common.{ap₂}
use Rattle.fv_diagram.specs.Primitive.TheVariants as prim
use Rattle.fv_diagram.specs.headline.Diagram.{Diagram, Seq, Primitive}
use Rattle.fv_diagram.specs.Arena.{tree_of}
use Rattle.fv_rules.specs.headline.Steps.{put}
use Rattle.fv_eval_drawing.proofs.Leaves.{makes_of}
use Rattle.fv_eval_drawing.proofs.diagrams.Drawing.delay.Goals as goal

pub returns-clause-makes : goal.returns-clause-makes
returns-clause-makes c =
    let a = c.args.self.now in
    let b = c.leaf.new.self in
    let right = c.in_ok-right in
    makes_of a b c.put.new.self (put (Seq (tree_of b.diagrams c.args.diagram) (tree_of b.diagrams right.right)))
    (put (Seq (tree_of a.diagrams c.args.diagram) (Primitive prim.Mem))) c.put.result right.ensures.adds.tables
    (ap₂ (λ (x y : Diagram). put (Seq x y))
    (right.ensures.adds.keeps.trees c.args.diagram c.requires) right.ensures.draws.is) c.put.ensures.makes
