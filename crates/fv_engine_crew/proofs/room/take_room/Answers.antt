use Rattle.std.proofs.Common.{◌≡◌, ◌*◌, ◌+◌, ◌<◌, ℕ, List, length, get_or, sym, ap, ap₂, ◌∙◌, subst, arith}
use Rattle.std.specs.Global.{Box}
use Rattle.fv_split_plan.specs.TasksBeside.{Tasks}
use Rattle.fv_split_plan.specs.headline.View.{PlanView, code_of}
use Rattle.fv_engine_codes.specs.Plans.{own_lanes, sources_of, lanes_of_all, readers_of}
use Rattle.fv_engine_codes.specs.declared.loop_cells.CellPlaces.{CellPlaces}
use Rattle.fv_engine_codes.specs.declared.loop_cells.LoopCells.{LoopCells}
use Rattle.fv_engine_codes.specs.declared.counts.LaneCount.{LaneCount}
use Rattle.fv_engine_codes.specs.Codes.{IsLaneCount}
use Rattle.fv_engine_crew.specs.declared.content.Writers.{Writers}
use Rattle.fv_engine_crew.specs.Rooms.{IsRoom, HasCells}
use Rattle.fv_engine_crew.proofs.LoopRooms.{IsLoopRoom, AreFirstRooms, one_room}
use Rattle.fv_engine_crew.proofs.room.take_room.Goals as goal

room_same : (w : Writers) (o p s t a b l m : ℕ) → o ≡ p → s ≡ t → a ≡ b → l ≡ m → IsRoom o s a l w → IsRoom p t b m w
room_same w o p s t a b l m e f g h r =
    subst (λ (x : ℕ). IsRoom x t b m w) e (subst (λ (x : ℕ). IsRoom o x b m w) f (subst (λ (x : ℕ). IsRoom o s x m w) g
    (subst (λ (x : ℕ). IsRoom o s a x w) h r)))

pub loop-j-preserved : goal.loop-j-preserved
loop-j-preserved c =
    let p : PlanView = c.args.plan.now in
    let g : Tasks = c.args.tasks.now.tasks in
    let places : CellPlaces = c.args.places.now in
    let j : ℕ = c.loop-j.j in
    let old : List (Box Writers) = c.loop-j.rooms.items in
    let room : Box Writers = c.in_ok-room-2.room in
    let there : j < p.loops = omega (arith, c.loop-j-test.true, c.loops-j-end.ensures.loops) in
    let n : LaneCount = get_or c.args.counts.now j (record { own = 0; seen = 0 }) in
    let counted : IsLaneCount p g j n = c.requires.counts.each j (record { own = 0; seen = 0 }) there in
    let lists : c.in_ok-lists.lists ≡ g.vectors * readers_of g j =
    c.in_ok-lists.ensures ∙ ap₂ (λ (a b : ℕ). a * b) (c.from.ensures ∙ c.vectors.ensures.value) c.count_readers.ensures in
    let steps : c.len-steps.result ≡ length (code_of p j) = c.len-steps.ensures ∙ ap length c.code.ensures in
    let long : length old ≡ j = omega (arith, c.loop-j.invariant.count, c.loop-j.rooms.ok) in
    let here : IsLoopRoom p g places j c.in_ok-room.room = record {
      room = room_same c.in_ok-room.room n.own (length (own_lanes p j)) n.seen (length (lanes_of_all p (sources_of g j))) c.len-steps.result
          (length (code_of p j)) c.in_ok-lists.lists (g.vectors * readers_of g j) counted.own counted.seen steps lists c.in_ok-room.ensures.room;
      cells = subst (λ (cs : LoopCells). HasCells p places j cs) (sym c.in_ok-room.ensures.cells) c.in_ok-cells.ensures;
    } in
    record {
      each = subst (AreFirstRooms p g places (j + 1)) (sym c.push_reserved.ensures.items)
          (one_room p g places j old room long (subst (IsLoopRoom p g places j) (sym c.in_ok-room-2.ensures.ok) here) c.loop-j.invariant.each);
      count = omega (arith, c.push_reserved.ensures.len, c.loop-j.invariant.count);
      room = omega (arith, c.push_reserved.ensures.capacity, c.loop-j.invariant.room);
    }
