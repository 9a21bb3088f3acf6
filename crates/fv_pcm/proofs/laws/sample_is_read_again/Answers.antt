use Rattle.fv_pcm.proofs.lemmas.Again.{sample_again}
use Rattle.fv_pcm.proofs.laws.sample_is_read_again.Goals as goal

pub returns : goal.returns
returns c = sample_again
