use Rattle.std.proofs.Common.{◌≡◌}
use Rattle.fv_split.specs.inner.ToldReads.{reads_of_loops, view_of}
use Rattle.fv_split.proofs.told_reads.reads.Given as goal

abbrev pub invariant-loop-j : goal.invariant-loop-j
invariant-loop-j l = view_of l.told_reads ≡ reads_of_loops l.owners l.codes l.j
