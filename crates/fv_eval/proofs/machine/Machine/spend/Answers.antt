use Rattle.std.proofs.Common.{rules}
use Rattle.fv_eval.proofs.machine.Machine.spend.Goals as goal

pub returns-clause-spent : goal.returns-clause-spent
returns-clause-spent c = search rules
