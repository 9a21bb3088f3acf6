use Rattle.fv_compile.proofs.Naming.{joined_are_wide}
use Rattle.fv_compile.proofs.laws.joined_are_wide.Goals as goal

pub returns : goal.returns
returns c = joined_are_wide
