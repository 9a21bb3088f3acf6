use Rattle.std.proofs.Common.{inl, inr, refl, arith}
use Rattle.fv_eval_lookup.proofs.lookup.nearer.Goals as goal

pub returns-else-number : goal.returns-else-number
returns-else-number c = inr (refl, omega (arith, c.if-number.false, c.number.ensures, c.number-2.ensures))

pub returns-then-number : goal.returns-then-number
returns-then-number c = inl (refl, omega (arith, c.if-number.true, c.number.ensures, c.number-2.ensures))
