use Rattle.std.proofs.Common.{◌≡◌, length}
use Rattle.fv_parse.specs.inner.StaticErrors.{AreErrors}
use Rattle.fv_parse.proofs.static_errors.errors_of.Given as goal

abbrev pub invariant-loop-i : goal.invariant-loop-i
invariant-loop-i l = record { counted : l.i ≡ length l.errors.items; known : AreErrors l.tree l.errors.items }
