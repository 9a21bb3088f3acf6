use Rattle.fv_share.proofs.lemmas.Groups.{groups_stay}
use Rattle.fv_share.proofs.laws.groups_stay.Goals as goal

pub returns : goal.returns
returns c = groups_stay
