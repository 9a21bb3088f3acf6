use Rattle.fv_share.proofs.lemmas.Puts.{backs_stay_within}
use Rattle.fv_share.proofs.laws.backs_stay_within.Goals as goal

pub returns : goal.returns
returns c = backs_stay_within
