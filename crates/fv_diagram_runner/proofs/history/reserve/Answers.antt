use Rattle.std.proofs.Common.{◌<◌, length, arith, ◌∙◌}
use Rattle.std.proofs.lemmas.List.{get_or_default, length-set}
use Rattle.fv_diagram_runner.specs.declared.step.Change.TheVariants as change
use Rattle.fv_diagram_runner.proofs.Histories.{numbers_set, room_more}
use Rattle.fv_diagram_runner.proofs.history.reserve.Goals as goal

pub returns-in_err-make_room-clause-numbers : goal.returns-in_err-make_room-clause-numbers
returns-in_err-make_room-clause-numbers c =
    let l : c.loop-i.i < length c.loop-i.lists = omega (arith, c.loop-i.auto.lists, c.loop-i-test.true) in
    numbers_set c.loop-i.lists c.loop-i.i c.make_room.new.list c.index-lists-i.result l c.make_room.ensures.numbers ∙ c.loop-i.invariant.0

pub loop-i-preserved : goal.loop-i-preserved
loop-i-preserved c =
    let l : c.loop-i.i < length c.loop-i.lists = omega (arith, c.loop-i.auto.lists, c.loop-i-test.true) in
    let k : c.loop-i.i < length c.args.changes.now = omega (arith, l, c.loop-i.invariant.1, c.requires) in (
      numbers_set c.loop-i.lists c.loop-i.i c.make_room.new.list c.index-lists-i.result l c.make_room.ensures.numbers ∙ c.loop-i.invariant.0,
      length-set c.loop-i.lists c.loop-i.i c.make_room.new.list ∙ c.loop-i.invariant.1,
      room_more c.args.changes.now c.loop-i.lists c.loop-i.i c.make_room.new.list _ l c.loop-i.invariant.2
          (get_or_default c.args.changes.now c.loop-i.i (change.Append 0) _ k)
          c.in_ok-make_room.ensures.room,
    )
