use Rattle.std.proofs.Common.{rules}
use Rattle.fv_eval.proofs.machine.Machine.ports.Goals as goal

pub returns-in-Inputs : goal.returns-in-Inputs
returns-in-Inputs c = search rules
