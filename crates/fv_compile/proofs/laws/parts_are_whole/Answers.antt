use Rattle.fv_compile.proofs.Whole.{parts_are_whole}
use Rattle.fv_compile.proofs.laws.parts_are_whole.Goals as goal

pub returns : goal.returns
returns c = parts_are_whole
