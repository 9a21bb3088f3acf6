use Rattle.std.proofs.Common.{◌∙◌, take, sym, ap, take_at, arith}
use Rattle.fv_base.specs.declared.role.Role.TheVariants.{Input}
use Rattle.fv_outside.proofs.lemmas.States.{answers_next}
use Rattle.fv_au.proofs.ahead.Ahead.peek.Goals as goal

pub returns-in_err-n-clause-answers : goal.returns-in_err-n-clause-answers
returns-in_err-n-clause-answers g c = λ t u.
    let so_far = c.bytes.invariant.left.goes_on in
    let answered = c.in_err-n.ensures.answers (so_far.tells ∙ t) (answers_next Input so_far t u) in
    absurd cc

pub returns-clause-some : goal.returns-clause-some
returns-clause-some g c = λ t.
    c.four.ensures
    ∙ sym (ap (take 4) (c.bytes.invariant.left.taken t) ∙ take_at c.bytes.self.kept ((g.D.Desk.state c.bytes.self.desk.now).left Input) 4 (omega arith))
