use Rattle.fv_wav.proofs.Following.{follow}
use Rattle.fv_wav.proofs.laws.samples_follow.Goals as goal

pub returns : goal.returns
returns c = follow
