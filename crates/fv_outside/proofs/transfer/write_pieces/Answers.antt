use Rattle.std.proofs.Common.{List, ℕ, ◌++◌, ap, arith, length, length-append, take, [], subst}
use Rattle.std.proofs.lemmas.List.{take_all}
use denote.Ref.{Bor}
use Rattle.std.proofs.lemmas.Result.{err_from_is_err_and}
use Rattle.fv_outside.specs.Desk.{Appends, joined}
use Rattle.fv_outside.proofs.lemmas.States.{appends_then, joined_part, joined_room, told_before, unfailing_later}
use Rattle.fv_outside.proofs.transfer.write_pieces.Goals as goal

pub returns-in_err-write_all-clause-err : goal.returns-in_err-write_all-clause-err
returns-in_err-write_all-clause-err g c =
    let p = err_from_is_err_and c.from_residual.result c.from_residual.ensures.1 in
    let e = c.in_err-write_all.ensures.err in
    let before = joined (take c.loop-piece.piece-index c.args.pieces.now) in
    rw p.1 (
      before ++ e.0,
      joined_part c.args.pieces.now c.loop-piece.piece-index _ e.0 c.loop-piece-test.true e.1,
      appends_then c.loop-piece.invariant.written e.2,
    )

pub returns-in_err-write_all-clause-answers : goal.returns-in_err-write_all-clause-answers
returns-in_err-write_all-clause-answers g c = λ t safe room.
    let state = g.D.Desk.state in
    let i = c.loop-piece.piece-index in
    let so_far = c.loop-piece.invariant.written in
    let longer = ap length (so_far.appended t) in
    let free = so_far.goes_on.room t c.args.role in
    let there = joined_room c.args.pieces.now i (record { ref_ptr = (0, 0); now = [] }) c.loop-piece-test.true in
    let answered = c.in_err-write_all.ensures.answers (told_before so_far.goes_on t) (unfailing_later c.args.role so_far.goes_on t safe)
    (omega (arith, longer, free, there, length-append ((state c.args.desk.now).written c.args.role) (joined (take i c.args.pieces.now)))) in
    absurd cc

pub returns-clause-ok : goal.returns-clause-ok
returns-clause-ok g c =
    let all = take_all c.loop-piece.piece-index c.args.pieces.now c.loop-piece-test.false in
    subst (λ (ps : List (Bor (List ℕ))). Appends c.args.role (joined ps) (g.D.Desk.state c.args.desk.now) (g.D.Desk.state c.loop-piece.desk)) all
    c.loop-piece.invariant.written
