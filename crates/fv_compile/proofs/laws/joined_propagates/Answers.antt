use Rattle.fv_compile.proofs.Propagating.{joined_propagates}
use Rattle.fv_compile.proofs.laws.joined_propagates.Goals as goal

pub returns : goal.returns
returns c = joined_propagates
