use Rattle.std.proofs.Common.{◌≡◌, ◌+◌, ◌≤◌, length}
use Rattle.fv_lex.specs.headline.Cuts.{place_after}
use Rattle.fv_lex.proofs.lexer.place_after.Given as goal

abbrev pub invariant-loop-rest : goal.invariant-loop-rest
invariant-loop-rest l = record {
  line : l.here.line + length l.rest ≤ l.fn.place.line + length l.bytes;
  column : l.here.column + length l.rest ≤ l.fn.place.column + length l.bytes;
  same : place_after l.here l.rest ≡ place_after l.fn.place l.bytes;
}

abbrev pub decreases-loop-rest : goal.decreases-loop-rest
decreases-loop-rest l = length l.rest
