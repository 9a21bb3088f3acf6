use Rattle.std.proofs.Common.{◌≡◌, take}
use Rattle.fv_propagate.proofs.progress.Progress.new.Given as goal

abbrev pub invariant-loop-i : goal.invariant-loop-i
invariant-loop-i l = l.all.items ≡ take l.i l.delays
