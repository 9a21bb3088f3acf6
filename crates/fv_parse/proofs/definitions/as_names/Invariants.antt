use Rattle.std.proofs.Common.{◌≡◌, take, map}
use Rattle.fv_parse.specs.headline.Definitions.{as_name}
use Rattle.fv_parse.proofs.definitions.as_names.Given as goal

abbrev pub invariant-loop-n : goal.invariant-loop-n
invariant-loop-n l = l.names.items ≡ map as_name (take l.n-index l.numbers)
