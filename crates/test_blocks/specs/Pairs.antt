-- Pairs of loops that are put one after another (this project's profile).
use Rattle.std.specs.Prelude.{◌≡◌, ℕ, ◌<◌, ◌≤◌, List, length, slice_index_or}
use Rattle.fv_outside.specs.declared.tasks.Reads.{Reads}
use Rattle.fv_graph.specs.Graph.{no_reads, ArePairs}

-- pairs of loops, each of a lower reader or of this one and a lower source
pub record AreBefore (loops reader source : ℕ) (reads : List Reads) : Type 0 where
  pub pairs : ArePairs loops reads
  pub lower : (k : ℕ) → k < length reads → (slice_index_or reads k no_reads).reader ≤ reader
  pub below : (k : ℕ) → k < length reads → (slice_index_or reads k no_reads).reader ≡ reader → (slice_index_or reads k no_reads).source < source
