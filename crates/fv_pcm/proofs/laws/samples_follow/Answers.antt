use Rattle.fv_pcm.proofs.lemmas.Following.{follow}
use Rattle.fv_pcm.proofs.laws.samples_follow.Goals as goal

pub returns : goal.returns
returns c = follow
