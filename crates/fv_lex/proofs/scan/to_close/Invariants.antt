use Rattle.std.proofs.Common.{◌≡◌, ◌+◌, length}
use Rattle.fv_lex.specs.inner.Steps.{to_close, more_by}
use Rattle.fv_lex.proofs.scan.to_close.Given as goal

abbrev pub invariant-loop-rest : goal.invariant-loop-rest
invariant-loop-rest l = record { here : l.n + length l.rest ≡ length l.bytes; same : more_by l.n (to_close l.rest) ≡ to_close l.bytes }

abbrev pub decreases-loop-rest : goal.decreases-loop-rest
decreases-loop-rest l = length l.rest
