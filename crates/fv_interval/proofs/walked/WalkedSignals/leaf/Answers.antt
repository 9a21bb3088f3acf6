use Rattle.std.proofs.Common.{arith}
use Rattle.std.proofs.lemmas.Grind.{common_steps}
use Rattle.fv_interval.proofs.walked.WalkedSignals.leaf.Goals as goal

pub returns-in_ok-note-in-Prefix-clause-done : goal.returns-in_ok-note-in-Prefix-clause-done
returns-in_ok-note-in-Prefix-clause-done c = grind (arith, common_steps)
