use Rattle.std.proofs.Common.{◌+◌, refl}
use Rattle.fv_eval.proofs.Waiting.{leave_waits}
use Rattle.fv_eval.proofs.machine.Machine.leave.Goals as goal

pub returns : goal.returns
returns c =
    λ p. leave_waits p c.args.self.now c.wait.new.self c.wait.result c.args.application c.args.body c.args.env c.args.at
    (c.args.at + 1) c.args.arguments refl (c.wait.ensures p)
