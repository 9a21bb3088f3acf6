use Rattle.std.proofs.Common.{◌≡◌, drop}
use Rattle.fv_parse.specs.headline.Unsupported.{unsupported_from, first_unsupported}
use Rattle.fv_parse.proofs.unsupported.first_unsupported.Given as goal

abbrev pub invariant-loop-i : goal.invariant-loop-i
invariant-loop-i l = unsupported_from l.before l.last (drop l.i l.tokens.tokens) ≡ first_unsupported l.tokens.tokens
