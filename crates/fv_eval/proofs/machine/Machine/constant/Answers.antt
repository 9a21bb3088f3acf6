use Rattle.std.proofs.Common.{ℤ, SFits, w32, to_z-of_z, rules, subst}
use Rattle.fv_eval_drawing.specs.Makes.{Draws}
use Rattle.fv_diagram.specs.headline.Diagram.{Constant}
use Rattle.fv_eval.proofs.Moves.{leaf_goes}
use Rattle.fv_eval.proofs.machine.Machine.constant.Goals as goal

pub returns : goal.returns
returns c =
    let fits : SFits w32 c.args.n = search rules in
    let new = c.leaf.new.self in
    let i = c.in_ok-id.id in
    λ p. leaf_goes p c.args.self.now new i (Constant c.args.n) c.in_ok-id.ensures.adds
    (subst (λ (n : ℤ). Draws new.diagrams i (Constant n)) (to_z-of_z fits) c.in_ok-id.ensures.draws)
