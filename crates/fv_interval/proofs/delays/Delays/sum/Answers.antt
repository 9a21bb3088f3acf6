use Rattle.std.proofs.Common.{rules}
use Rattle.fv_interval.proofs.delays.Delays.sum.Goals as goal

pub returns : goal.returns
returns c = search rules
