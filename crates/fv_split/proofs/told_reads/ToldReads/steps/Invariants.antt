use Rattle.std.proofs.Common.{◌≡◌, drop}
use Rattle.fv_split.specs.inner.ToldReads.{reads_of_steps, view_of}
use Rattle.fv_split.proofs.told_reads.ToldReads.steps.Given as goal

abbrev pub invariant-loop-step : goal.invariant-loop-step
invariant-loop-step l = reads_of_steps l.owners l.reader (view_of l.self) (drop l.step-index l.steps) ≡ reads_of_steps l.owners l.reader
    (view_of l.fn.self) l.steps
