use Rattle.fv_au.proofs.OutcomeLaws.{one_au_outcome}
use Rattle.fv_au.proofs.laws.one_au_outcome.Goals as goal

pub returns : goal.returns
returns c = one_au_outcome
