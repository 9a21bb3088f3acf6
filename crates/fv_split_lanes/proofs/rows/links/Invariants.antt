use Rattle.fv_split_plan.specs.headline.Separated.{links_of}
use Rattle.fv_split_lanes.specs.inner.Rows.{AreRows}
use Rattle.fv_split_lanes.proofs.rows.links.Given as goal

abbrev pub invariant-loop-s : goal.invariant-loop-s
invariant-loop-s l = AreRows (links_of l.graph) l.s l.rows
