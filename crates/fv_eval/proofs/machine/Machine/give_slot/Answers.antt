use Rattle.fv_diagram.specs.headline.Diagram.{Slot}
use Rattle.fv_eval.proofs.Moves.{leaf_goes}
use Rattle.fv_eval.proofs.machine.Machine.give_slot.Goals as goal

pub returns : goal.returns
returns c = λ p. leaf_goes p c.args.self.now c.leaf.new.self c.in_ok-id.id (Slot c.args.slot) c.in_ok-id.ensures.adds c.in_ok-id.ensures.draws
