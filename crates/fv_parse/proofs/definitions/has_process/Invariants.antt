use Rattle.std.proofs.Common.{◌≡◌, take, false}
use Rattle.fv_parse.specs.headline.Definitions.{has_process}
use Rattle.fv_parse.proofs.definitions.has_process.Given as goal

abbrev pub invariant-loop-defined : goal.invariant-loop-defined
invariant-loop-defined l = has_process l.tokens (take l.defined-index l.definitions) ≡ false
