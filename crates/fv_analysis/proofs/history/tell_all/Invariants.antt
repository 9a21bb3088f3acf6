use Rattle.fv_analysis.specs.inner.History.{Tell}
use Rattle.fv_analysis.proofs.history.tell_all.Given as goal

abbrev pub invariant-loop-place : goal.invariant-loop-place
invariant-loop-place l = Tell l.graph l.place l.delays.items l.backs.items
