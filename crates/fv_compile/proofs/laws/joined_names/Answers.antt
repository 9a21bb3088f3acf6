use Rattle.fv_compile.proofs.Naming.{joined_names}
use Rattle.fv_compile.proofs.laws.joined_names.Goals as goal

pub returns : goal.returns
returns c = joined_names
