use Rattle.fv_diagram.specs.headline.Diagram.{Control}
use Rattle.fv_eval.proofs.Moves.{leaf_goes}
use Rattle.fv_eval.proofs.machine.Machine.give_control.Goals as goal

pub returns : goal.returns
returns c =
    λ p. leaf_goes p c.args.self.now c.leaf.new.self c.in_ok-id.id (Control c.args.number) c.in_ok-id.ensures.adds c.in_ok-id.ensures.draws
