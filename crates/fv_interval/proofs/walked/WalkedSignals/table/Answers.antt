use Rattle.std.proofs.Common.{arith}
use Rattle.std.proofs.lemmas.Grind.{common_steps}
use Rattle.fv_interval.proofs.walked.WalkedSignals.table.Goals as goal

pub returns-then-writes-clause-done : goal.returns-then-writes-clause-done
returns-then-writes-clause-done c = grind (arith, common_steps)
