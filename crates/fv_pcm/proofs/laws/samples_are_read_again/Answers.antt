use Rattle.fv_pcm.proofs.lemmas.Again.{samples_again}
use Rattle.fv_pcm.proofs.laws.samples_are_read_again.Goals as goal

pub returns : goal.returns
returns c = samples_again
