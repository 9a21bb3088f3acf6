use Rattle.std.proofs.Common.{rules}
use Rattle.fv_parse.proofs.parsed.place_from.Goals as goal

pub returns-then-i-count : goal.returns-then-i-count
returns-then-i-count c = search rules
