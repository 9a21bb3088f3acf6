use Rattle.std.proofs.Common.{◌≡◌, ◌≤◌, length, drop}
use Rattle.std.specs.Vec.Iter.{into_iter_items, into_iter_len}
use Rattle.fv_engine_crew.proofs.DealtSoFar.{AreDealtSoFar}
use Rattle.fv_engine_crew.proofs.handed_lanes.deal.Given as goal

abbrev pub invariant-loop-info : goal.invariant-loop-info
invariant-loop-info l = record {
  lanes : l.info-iterator.a.rest.now ≡ drop (length l.yielded) l.plan.lanes;
  writers : into_iter_items l.info-iterator.b ≡ drop (length l.yielded) l.fn.all.items;
  long : into_iter_len l.info-iterator.b ≡ length (into_iter_items l.info-iterator.b);
  fewer : length l.yielded ≤ length l.plan.lanes;
  dealt : AreDealtSoFar l.plan l.fn.all.items (length l.yielded) l.fn.rooms l.rooms;
}
