use Rattle.std.proofs.Common.{◌≡◌, ◌++◌}
use Rattle.std.specs.List.{flat_map}
use base.Fml.{GName}
use Rattle.fv_lines.specs.Writer.{content_of}
use Rattle.fv_lines.specs.Cut.{IsChain, HoldsStart}
use Rattle.fv_lines.proofs.States.{AreLeft}
use Rattle.fv_lines.proofs.lane_ends.stop_lanes.Given as goal

abbrev pub invariant-loop-writer : goal.invariant-loop-writer
invariant-loop-writer l = record {
  left : AreLeft HoldsStart l.fn.all.items l.all.items l.states;
  names : (γ : GName) → IsChain γ l.fn.rest.name l.fn.all.items → IsChain γ l.ended.name l.all.items;
  last : flat_map content_of l.fn.all.items ++ l.fn.rest.last ≡ flat_map content_of l.all.items ++ l.ended.last;
}

abbrev pub decreases-loop-writer : goal.decreases-loop-writer
decreases-loop-writer l = goal.left-loop-writer l
