use Rattle.std.proofs.lemmas.Result.{err_from_is_err_and}
use Rattle.fv_top.proofs.make.made_sum.Goals as goal

pub returns-in_err-made-clause-none : goal.returns-in_err-made-clause-none
returns-in_err-made-clause-none g c =
    let p = err_from_is_err_and c.from_residual-in_err-made.result c.from_residual-in_err-made.ensures.1 in
    rw p.1 p.2

pub returns-clause-sum : goal.returns-clause-sum
returns-clause-sum g c =
    let made = c.in_ok-playable.ensures.made in
    record { compiled = made.0; made = made.1; is = c.in_ok-made.ensures.sum made.0 made.2 }

pub returns-clause-ran : goal.returns-clause-ran
returns-clause-ran g c =
    let made = c.in_ok-playable.ensures.made in
    (made.0, made.1, c.in_ok-made.ensures.ran made.0 made.2)
