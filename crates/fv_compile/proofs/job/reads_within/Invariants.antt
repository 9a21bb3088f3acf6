use Rattle.std.proofs.Common.{◌<◌, ℕ, get_or}
use Rattle.fv_signal.specs.declared.signal.Signal.{Signal}
use Rattle.fv_compile.specs.Jobs.{NamesBelow}
use Rattle.fv_compile.proofs.job.reads_within.Given as goal

abbrev pub invariant-loop-place : goal.invariant-loop-place
invariant-loop-place l = ((s : ℕ) (d : Signal) → s < l.place → NamesBelow l.inputs l.controls (get_or l.graph.signals s d))
