use Rattle.std.proofs.Common.{ℕ, ◌<◌, get_or}
use Rattle.fv_loopcode.specs.declared.step.Step.{Step}
use Rattle.fv_loops_random_tests.specs.Shelves.{state_on}
use Rattle.fv_loops_random_tests.specs.MayGo.{MayDo}
use Rattle.fv_loops_random_tests.proofs.checks.may_each.Given as goal

abbrev pub invariant-loop-place : goal.invariant-loop-place
invariant-loop-place l = (k : ℕ) (d : Step) → k < l.place → MayDo l.steps (state_on l.shelves) l.block.from l.block.count k (get_or l.steps k d)
