use Rattle.std.proofs.Common.{◌≤◌, ◌+◌, map, take, vec_capacity}
use Rattle.fv_engine_crew.specs.Contents.{AreSeenOf}
use Rattle.fv_engine_crew.specs.inner.Turns.{lanes_by}
use Rattle.fv_engine_crew.proofs.body.LoopBody.gather.Given as goal

abbrev pub invariant-loop-parcel : goal.invariant-loop-parcel
invariant-loop-parcel l = record {
  seen : AreSeenOf l.self.start (lanes_by l.self.start (map (λ p. p.edge) (take l.parcel-index l.parcels))) (l.vector + 1) l.seen.items;
  room : vec_capacity l.fn.seen ≤ vec_capacity l.seen;
}
