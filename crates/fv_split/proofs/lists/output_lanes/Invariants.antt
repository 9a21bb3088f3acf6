use Rattle.std.proofs.Common.{◌≡◌, take, map}
use Rattle.fv_split.specs.inner.Lists.{lane_of}
use Rattle.fv_split.proofs.lists.output_lanes.Given as goal

abbrev pub invariant-loop-output : goal.invariant-loop-output
invariant-loop-output l = l.list.items ≡ map (lane_of l.stands l.lanes) (take l.output-index l.outputs)
