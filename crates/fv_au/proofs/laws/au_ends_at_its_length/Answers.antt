use Rattle.fv_au.proofs.OutcomeLaws.{au_ends}
use Rattle.fv_au.proofs.laws.au_ends_at_its_length.Goals as goal

pub returns : goal.returns
returns c = au_ends
