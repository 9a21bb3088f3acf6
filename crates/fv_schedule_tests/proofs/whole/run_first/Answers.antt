use Rattle.std.proofs.Common.{refl, sym, ap, ◌∙◌, subst, Some, None}
use Rattle.std.specs.Option.{IsSome}
use Rattle.fv_ready.specs.Carried.{slot_at, with_slot}
use Rattle.fv_ready.specs.Seats.{slots_of}
use Rattle.fv_schedule_tests.specs.declared.board_rows.Note.{Note}
use Rattle.fv_schedule_tests.proofs.Slots.{of_hand, first_taken, first_handed, when_handed}
use Rattle.fv_schedule_tests.proofs.whole.run_first.Goals as goal

pub receive-entry-requires-clause-full : goal.receive-entry-requires-clause-full
receive-entry-requires-clause-full g c =
    let f = first_taken (λ (n : Note). n.edge) (λ (n : Note). n.block) c.args.board.now c.requires.tasks (slots_of c.args.seat.now) c.requires.slots in
    let is = (of_hand _ _ _ c.requires.hand c.stamp-start.ensures.start refl).1 ∙ f.1 in
    subst (λ l. IsSome (slot_at l 0)) (sym is) refl

pub hand-requires-clause-empty : goal.hand-requires-clause-empty
hand-requires-clause-empty g c =
    let f = first_taken (λ (n : Note). n.edge) (λ (n : Note). n.block) c.args.board.now c.requires.tasks (slots_of c.args.seat.now) c.requires.slots in
    let is = (of_hand _ _ _ c.requires.hand c.stamp-start.ensures.start refl).1 ∙ f.1 in
    let emptied = c.receive-entry.ensures.slots ∙ ap (λ l. with_slot l 0 None) is in
    ap (λ l. slot_at l 3) emptied

pub hand-requires-2-clause-empty : goal.hand-requires-2-clause-empty
hand-requires-2-clause-empty g c =
    let f = first_taken (λ (n : Note). n.edge) (λ (n : Note). n.block) c.args.board.now c.requires.tasks (slots_of c.args.seat.now) c.requires.slots in
    let is = (of_hand _ _ _ c.requires.hand c.stamp-start.ensures.start refl).1 ∙ f.1 in
    let emptied = c.receive-entry.ensures.slots ∙ ap (λ l. with_slot l 0 None) is in
    let exit : Note = record { edge = 3; block = c.receive-entry.result.block; text = 60 } in
    let handed = c.hand.ensures.slots ∙ ap (λ l. with_slot l 3 (Some exit)) emptied in
    ap (λ l. slot_at l 2) handed

pub stamp-finish-requires-clause-hand : goal.stamp-finish-requires-clause-hand
stamp-finish-requires-clause-hand g c =
    let f = first_taken (λ (n : Note). n.edge) (λ (n : Note). n.block) c.args.board.now c.requires.tasks (slots_of c.args.seat.now) c.requires.slots in
    let start = of_hand _ _ _ c.requires.hand c.stamp-start.ensures.start refl in
    let emptied = c.receive-entry.ensures.slots ∙ ap (λ l. with_slot l 0 None) (start.1 ∙ f.1) in
    let exit : Note = record { edge = 3; block = c.receive-entry.result.block; text = 60 } in
    let lane : Note = record { edge = 2; block = c.receive-entry.result.block; text = 61 } in
    let one = c.hand.ensures.slots ∙ ap (λ l. with_slot l 3 (Some exit)) emptied in
    let both = c.hand-2.ensures.slots ∙ ap (λ l. with_slot l 2 (Some lane)) one in
    when_handed c.args.board.now c.requires.tasks c.hand-2.new.seat 0
    (c.hand-2.ensures.same.1 ∙ c.hand.ensures.same.1 ∙ c.receive-entry.ensures.same.1 ∙ start.0)
    (first_handed c.args.board.now c.requires.tasks c.hand-2.new.seat exit lane both)
