use Rattle.std.proofs.Common.{◌≡◌, ◌+◌, length}
use Rattle.std.specs.List.{prefix_len}
use Rattle.fv_lex.specs.inner.Steps.{is_in}
use Rattle.fv_lex.proofs.scan.prefix_len.Given as goal

abbrev pub invariant-loop-rest : goal.invariant-loop-rest
invariant-loop-rest l =
    record { here : l.n + length l.rest ≡ length l.bytes; same : l.n + prefix_len (is_in l.class) l.rest ≡ prefix_len (is_in l.class) l.bytes }

abbrev pub decreases-loop-rest : goal.decreases-loop-rest
decreases-loop-rest l = length l.rest
