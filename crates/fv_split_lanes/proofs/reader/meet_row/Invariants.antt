use Rattle.std.proofs.Common.{◌≡◌, drop, length}
use Rattle.fv_split_lanes.specs.inner.Readers.{with_row}
use Rattle.fv_split_lanes.proofs.reader.meet_row.Given as goal

abbrev pub invariant-loop-s : goal.invariant-loop-s
invariant-loop-s l = record {
  long : length l.readers.items ≡ length l.fn.readers.items;
  rest : with_row l.readers.items (drop l.s-index l.row) l.r ≡ with_row l.fn.readers.items l.row l.r;
}
