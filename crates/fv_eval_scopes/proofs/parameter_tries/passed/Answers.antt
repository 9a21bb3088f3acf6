use Rattle.std.proofs.Common.{inr, ◌-◌, arith}
use Rattle.fv_eval_scopes.proofs.parameter_tries.passed.Goals as goal

pub returns-then-place-k-clause-past : goal.returns-then-place-k-clause-past
returns-then-place-k-clause-past c =
    let less = c.if-end-parameter.false in
    let near = c.if-place-k.true in
    inr (
      c.args.end - 1 - c.args.parameter,
      omega (arith, near),
      omega (arith, c.requires, near, c.number.ensures, c.new.ensures),
      λ _. omega (arith, less),
    )
