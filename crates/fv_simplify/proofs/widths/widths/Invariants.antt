use Rattle.std.proofs.Common.{◌≡◌, ◌<◌, ℕ, length}
use Rattle.fv_simplify.specs.Nodes.{node}
use Rattle.fv_simplify.specs.Passing.{HasWidth}
use Rattle.fv_simplify.specs.Runs.{AreNamed}
use Rattle.fv_simplify.proofs.widths.widths.Given as goal

abbrev pub invariant-loop-place : goal.invariant-loop-place
invariant-loop-place l = record {
  long : length l.widths.items ≡ length l.graph.groups;
  named : AreNamed l.graph l.marks l.widths.items l.place;
  wide : (s : ℕ) → s < l.place → HasWidth (node l.graph s);
}
