use Rattle.std.proofs.Common.{ℕ, ◌<◌, ◌≤◌}
use Rattle.std.specs.Prelude.{slice_index}
use Rattle.fv_lines.specs.Solo.{AreLists, IsHeld, history_at, len_at, block_at, start_at}
use Rattle.fv_lines_tests.proofs.blocks.may_begin.Given as goal

abbrev pub invariant-loop-lane : goal.invariant-loop-lane
invariant-loop-lane l = record {
  lists : AreLists l.layout l.shapes l.states l.begun l.cells;
  held : (j : ℕ) → j < l.lane → IsHeld (history_at l.shapes j) (len_at l.shapes j) (slice_index l.layout j) (start_at l.states j);
  framed : (j : ℕ) → j < l.lane → l.frames ≤ block_at l.shapes j;
}
