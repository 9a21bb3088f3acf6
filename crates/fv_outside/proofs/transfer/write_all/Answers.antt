use Rattle.std.proofs.Common.{sym, ◌<◌, ◌∙◌, ap, arith, subst, length, length-append, length-take, take, drop, ℕ, List}
use Rattle.fv_outside.specs.Desk.{Appends}
use Rattle.std.proofs.lemmas.List.{take_all, take-append-drop, append-nil}
use Rattle.std.proofs.Math.Seq.{take-add}
use Rattle.std.proofs.lemmas.Result.{err_from_is_err_and}
use Rattle.fv_outside.proofs.lemmas.States.{appends_then, told_before, answers_next}
use Rattle.fv_outside.proofs.transfer.write_all.Goals as goal

pub returns-in_err-at-clause-err : goal.returns-in_err-at-clause-err
returns-in_err-at-clause-err g c =
    let p = err_from_is_err_and c.from_residual.result c.from_residual.ensures.1 in
    rw p.1 (
      take c.pieces.at c.args.bytes.now,
      record { rest = drop c.pieces.at c.args.bytes.now; is = sym (take-append-drop c.pieces.at c.args.bytes.now) },
      subst (λ (w : List ℕ). Appends c.args.role w (g.D.Desk.state c.args.desk.now) (g.D.Desk.state c.write_part.new.desk)) (append-nil _)
          (appends_then c.pieces.invariant.written c.in_err-at.ensures.err),
    )

pub returns-in_err-at-clause-answers : goal.returns-in_err-at-clause-answers
returns-in_err-at-clause-answers g c = λ t safe room.
    let state = g.D.Desk.state in
    let so_far = c.pieces.invariant.written in
    let longer = ap length (so_far.appended t) in
    let free = so_far.goes_on.room t c.args.role in
    let within : length ((state c.pieces.desk).written c.args.role) < (state c.pieces.desk).room c.args.role = omega (
      arith,
      longer,
      free,
      length-append ((state c.args.desk.now).written c.args.role)
          (take c.pieces.at c.args.bytes.now),
      length-take c.pieces.at c.args.bytes.now,
    ) in
    let answered = c.in_err-at.ensures.answers (told_before so_far.goes_on t) (answers_next c.args.role so_far.goes_on t safe) within in
    absurd cc

pub pieces-preserved : goal.pieces-preserved
pieces-preserved g c =
    let joined = take-add c.pieces.at c.in_ok-at.field-0 c.args.bytes.now in
    record {
      within = omega (arith, c.in_ok-at.ensures.count.1);
      steady = λ r. c.in_ok-at.ensures.steady r ∙ c.pieces.invariant.steady r;
      written = subst (λ (w : List ℕ). Appends c.args.role w (g.D.Desk.state c.args.desk.now) (g.D.Desk.state c.write_part.new.desk)) (sym joined)
          (appends_then c.pieces.invariant.written c.in_ok-at.ensures.ok);
    }

pub returns-clause-ok : goal.returns-clause-ok
returns-clause-ok g c =
    let all = take_all c.pieces.at c.args.bytes.now c.pieces-test.false in
    subst (λ (w : List ℕ). Appends c.args.role w (g.D.Desk.state c.args.desk.now) (g.D.Desk.state c.pieces.desk)) all c.pieces.invariant.written
