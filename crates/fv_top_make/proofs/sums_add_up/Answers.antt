use Rattle.fv_top_make.proofs.Sounding.{sums_added}
use Rattle.fv_top_make.proofs.sums_add_up.Goals as goal

pub returns : goal.returns
returns c = sums_added
