use Rattle.std.proofs.Common.{◌≡◌, ◌<◌, length, take, All}
use Rattle.fv_simplify.specs.Passing.{room_in}
use Rattle.fv_simplify.specs.Runs.{steps, begun}
use Rattle.fv_simplify.proofs.pass.passed.Given as goal

abbrev pub invariant-loop-place : goal.invariant-loop-place
invariant-loop-place l = record {
  pass : steps l.graph l.marks (room_in l.rooms) (begun l.graph) (take l.place l.graph.signals) ≡ record { draft = l.builder; images = l.images.items };
  there : All (λ a. a < length l.builder.signals) l.images.items;
}
