use Rattle.std.proofs.Common.{◌∙◌, arith}
use Rattle.fv_outside.proofs.lemmas.States.{takes_then, told_before, answers_next}
use Rattle.fv_outside.proofs.transfer.fill.Goals as goal

pub returns-in_err-n-clause-answers : goal.returns-in_err-n-clause-answers
returns-in_err-n-clause-answers g c = λ t safe.
    let so_far = c.pieces.invariant.taken.goes_on in
    let answered = c.in_err-n.ensures.answers (told_before so_far t) (answers_next c.args.role so_far t safe) in
    absurd cc

pub pieces-preserved : goal.pieces-preserved
pieces-preserved g c =
    let more = c.in_ok-n.ensures.taken in
    record {
      within = omega (arith, c.in_ok-n.ensures.count);
      taken = rw more.2 (takes_then c.pieces.invariant.taken more.3);
      steady = λ r. c.in_ok-n.ensures.steady r ∙ c.pieces.invariant.steady r;
    }
