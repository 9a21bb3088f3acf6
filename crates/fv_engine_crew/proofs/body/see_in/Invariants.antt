use Rattle.std.proofs.Common.{◌≡◌, ◌≤◌, length, map, take, vec_len, vec_capacity}
use Rattle.fv_lines.specs.Seen.{lane_seen}
use Rattle.fv_lines.specs.Writer.{lane_written}
use Rattle.fv_engine_crew.proofs.body.see_in.Given as goal

abbrev pub invariant-loop-writer : goal.invariant-loop-writer
invariant-loop-writer l = record {
  so_far : vec_len l.list ≡ l.writer-index;
  seen : map lane_seen l.list.items ≡ map lane_written (take l.writer-index l.own);
  room : length l.own ≤ vec_capacity l.list;
}
