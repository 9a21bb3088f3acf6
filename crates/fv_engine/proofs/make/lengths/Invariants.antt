use Rattle.std.proofs.Common.{◌≡◌, map, take}
use Rattle.fv_lines.specs.declared.shape.LaneShape.{LaneShape}
use Rattle.fv_engine.proofs.make.lengths.Given as goal

abbrev pub invariant-loop-shape : goal.invariant-loop-shape
invariant-loop-shape l = l.lengths.items ≡ map (λ (s : LaneShape). s.len) (take l.shape-index l.shapes)
