use Rattle.std.proofs.Common.{◌≤◌, length, vec_capacity}
use Rattle.fv_engine_codes.proofs.PlacedSoFar.{ArePlacedSoFar}
use Rattle.fv_engine_codes.proofs.cells.place_cells.Given as goal

abbrev pub invariant-loop-k : goal.invariant-loop-k
invariant-loop-k l = record {
  placed : ArePlacedSoFar l.plan l.k l.places.items l.counts.items;
  room : length l.cells ≤ vec_capacity l.places;
}
