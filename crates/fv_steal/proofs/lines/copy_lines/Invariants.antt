use Rattle.std.proofs.Common.{◌≡◌, ◌≤◌, length, take, vec_capacity}
use Rattle.std.specs.List.{flat_map}
use Rattle.fv_steal.specs.Crews.{lines_of}
use Rattle.fv_steal.proofs.lines.copy_lines.Given as goal

abbrev pub invariant-loop-worker : goal.invariant-loop-worker
invariant-loop-worker g l = record {
  lines : length (flat_map lines_of l.workers) ≤ vec_capacity l.fn.lines → l.lines.items ≡ flat_map lines_of (take l.worker-index l.workers);
  room : vec_capacity l.fn.lines ≤ vec_capacity l.lines;
}
