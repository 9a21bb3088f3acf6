use Rattle.fv_split_lanes.specs.inner.Rows.{reads_of, AreRows}
use Rattle.fv_split_lanes.proofs.rows.reads.Given as goal

abbrev pub invariant-loop-s : goal.invariant-loop-s
invariant-loop-s l = AreRows (reads_of l.graph) l.s l.rows
