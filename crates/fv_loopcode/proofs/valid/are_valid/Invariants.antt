use Rattle.std.proofs.Common.{ℕ, ◌<◌, get_or}
use Rattle.fv_loopcode.specs.declared.step.Step.{Step}
use Rattle.fv_loopcode.specs.Code.{IsValid}
use Rattle.fv_loopcode.proofs.valid.are_valid.Given as goal

abbrev pub invariant-loop-i : goal.invariant-loop-i
invariant-loop-i l = (k : ℕ) (d : Step) → k < l.i → IsValid k l.counts (get_or l.steps k d)
