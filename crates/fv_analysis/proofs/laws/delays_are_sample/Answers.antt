use Rattle.fv_analysis.proofs.lemmas.RateLemmas.{delays_are_sample}
use Rattle.fv_analysis.proofs.laws.delays_are_sample.Goals as goal

pub returns : goal.returns
returns c = delays_are_sample
