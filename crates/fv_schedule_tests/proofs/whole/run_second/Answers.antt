use Rattle.std.proofs.Common.{refl, sym, ap, ◌∙◌, subst, Some, None}
use Rattle.std.specs.Option.{IsSome}
use Rattle.fv_ready.specs.Carried.{slot_at, with_slot}
use Rattle.fv_ready.specs.Seats.{slots_of}
use Rattle.fv_schedule_tests.specs.declared.board_rows.Note.{Note}
use Rattle.fv_schedule_tests.proofs.Slots.{of_hand, second_taken, second_handed, when_handed}
use Rattle.fv_schedule_tests.proofs.whole.run_second.Goals as goal

pub receive-handed-requires-clause-full : goal.receive-handed-requires-clause-full
receive-handed-requires-clause-full g c =
    let f = second_taken (λ (n : Note). n.edge) (λ (n : Note). n.block) c.args.board.now c.requires.tasks (slots_of c.args.seat.now) c.requires.slots in
    let is = (of_hand _ _ _ c.requires.hand c.stamp-start.ensures.start refl).1 ∙ f.2 in
    subst (λ l. IsSome (slot_at l 2)) (sym is) refl

pub receive-entry-requires-clause-full : goal.receive-entry-requires-clause-full
receive-entry-requires-clause-full g c =
    let f = second_taken (λ (n : Note). n.edge) (λ (n : Note). n.block) c.args.board.now c.requires.tasks (slots_of c.args.seat.now) c.requires.slots in
    let is = (of_hand _ _ _ c.requires.hand c.stamp-start.ensures.start refl).1 ∙ f.2 in
    subst (λ l. IsSome (slot_at l 1)) (sym (c.receive-handed.ensures.slots ∙ ap (λ l. with_slot l 2 None) is)) refl

pub hand-requires-clause-empty : goal.hand-requires-clause-empty
hand-requires-clause-empty g c =
    let f = second_taken (λ (n : Note). n.edge) (λ (n : Note). n.block) c.args.board.now c.requires.tasks (slots_of c.args.seat.now) c.requires.slots in
    let is = (of_hand _ _ _ c.requires.hand c.stamp-start.ensures.start refl).1 ∙ f.2 in
    let one = c.receive-handed.ensures.slots ∙ ap (λ l. with_slot l 2 None) is in
    ap (λ l. slot_at l 4) (c.receive-entry.ensures.slots ∙ ap (λ l. with_slot l 1 None) one)

pub stamp-finish-requires-clause-hand : goal.stamp-finish-requires-clause-hand
stamp-finish-requires-clause-hand g c =
    let f = second_taken (λ (n : Note). n.edge) (λ (n : Note). n.block) c.args.board.now c.requires.tasks (slots_of c.args.seat.now) c.requires.slots in
    let start = of_hand _ _ _ c.requires.hand c.stamp-start.ensures.start refl in
    let one = c.receive-handed.ensures.slots ∙ ap (λ l. with_slot l 2 None) (start.1 ∙ f.2) in
    let both = c.receive-entry.ensures.slots ∙ ap (λ l. with_slot l 1 None) one in
    let exit : Note = record { edge = 4; block = c.receive-entry.result.block; text = 62 } in
    when_handed c.args.board.now c.requires.tasks c.hand.new.seat 1
    (c.hand.ensures.same.1 ∙ c.receive-entry.ensures.same.1 ∙ c.receive-handed.ensures.same.1 ∙ start.0)
    (second_handed c.args.board.now c.requires.tasks c.hand.new.seat exit (c.hand.ensures.slots ∙ ap (λ l. with_slot l 4 (Some exit)) both))
