use Rattle.std.proofs.Common.{ap₂, pos}
use Rattle.fv_num.specs.declared.op.Op.TheVariants as op
use Rattle.fv_diagram.specs.Primitive.TheVariants as prim
use Rattle.fv_diagram.specs.headline.Diagram.{Diagram, Constant}
use Rattle.fv_diagram.specs.Arena.{tree_of}
use Rattle.fv_rules.specs.headline.Rules.{operated}
use Rattle.fv_eval_drawing.proofs.Leaves.{makes_of}
use Rattle.fv_eval_drawing.proofs.diagrams.Drawing.negate.Goals as goal

pub returns-clause-makes : goal.returns-clause-makes
returns-clause-makes c =
    let a = c.args.self.now in
    let b = c.leaf.new.self in
    let p = prim.Point op.Sub in
    let zero = c.in_ok-zero in
    makes_of a b c.operate.new.self (operated p (tree_of b.diagrams zero.zero) (tree_of b.diagrams c.args.diagram))
    (operated p (Constant (pos 0)) (tree_of a.diagrams c.args.diagram)) c.operate.result zero.ensures.adds.tables
    (ap₂ (λ (x y : Diagram). operated p x y) zero.ensures.draws.is
    (zero.ensures.adds.keeps.trees c.args.diagram c.requires)) c.operate.ensures.makes
