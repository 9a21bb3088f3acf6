use Rattle.std.proofs.Common.{◌++◌, ◌∙◌, arith, rules, length-append}
use Rattle.fv_outside.proofs.lemmas.States.{takes_then, told_before, answers_next}
use Rattle.fv_outside.proofs.transfer.skip.Goals as goal

pub returns-in_err-n-clause-answers : goal.returns-in_err-n-clause-answers
returns-in_err-n-clause-answers g c = λ t safe.
    let so_far = c.pieces.invariant.taken.2.goes_on in
    let answered = c.in_err-n.ensures.answers (told_before so_far t) (answers_next c.args.role so_far t safe) in
    absurd cc

pub returns-then-n-eq0-clause-taken : goal.returns-then-n-eq0-clause-taken
returns-then-n-eq0-clause-taken g c =
    let before = c.pieces.invariant.taken in
    let more = c.in_ok-n.ensures.taken in
    (before.0 ++ more.0, omega (arith, length-append before.0 more.0, before.1, more.1, c.if-n-eq0.true), takes_then before.2 more.2)

pub pieces-preserved : goal.pieces-preserved
pieces-preserved g c =
    let before = c.pieces.invariant.taken in
    let more = c.in_ok-n.ensures.taken in
    record {
      within = omega (arith, c.in_ok-n.ensures.count);
      piece = search rules;
      taken = (before.0 ++ more.0, omega (arith, length-append before.0 more.0, before.1, more.1), takes_then before.2 more.2);
      steady = λ r. c.in_ok-n.ensures.steady r ∙ c.pieces.invariant.steady r;
    }
