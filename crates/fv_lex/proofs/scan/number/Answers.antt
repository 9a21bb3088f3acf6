use Rattle.std.proofs.Common.{◌≤◌, arith, length}
use Rattle.fv_lex.proofs.lemmas.Runs.{decimal_after-first}
use Rattle.fv_lex.proofs.scan.number.Goals as goal

pub returns-then-n-gt-GREATEST_LITERAL : goal.returns-then-n-gt-GREATEST_LITERAL
returns-then-n-gt-GREATEST_LITERAL c =
    let some : 1 ≤ length c.loop-rest.rest.now = omega (arith, c.in-len1-up.len_at_least) in
    omega (arith, decimal_after-first c.loop-rest.n c.loop-rest.rest.now some, c.loop-rest.invariant.same)
