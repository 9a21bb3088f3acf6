use Rattle.std.proofs.Common.{length}
use Rattle.fv_components.specs.Reach.{next_of}
use Rattle.fv_split_lanes.specs.inner.Readers.{AreReaders}
use Rattle.fv_split_lanes.proofs.reader.readers.Given as goal

abbrev pub invariant-loop-r : goal.invariant-loop-r
invariant-loop-r l = AreReaders (next_of l.reads) (length l.reads) l.r l.readers.items
