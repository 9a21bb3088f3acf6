use Rattle.std.proofs.Common.{◌-◌, vec_len}
use Rattle.fv_eval.proofs.Applying.{AppliesOn}
use Rattle.fv_eval.proofs.machine.Machine.apply.Given as goal

abbrev pub invariant-applying : goal.invariant-applying
invariant-applying l = AppliesOn l.text l.initial.self l.self l.fn.function l.function l.arguments.items l.next l.at

abbrev pub decreases-applying : goal.decreases-applying
decreases-applying l = vec_len l.arguments - l.at
