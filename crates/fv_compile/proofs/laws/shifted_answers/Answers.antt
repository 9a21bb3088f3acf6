use Rattle.fv_compile.proofs.lemmas.Shifted.{shifted_answers}
use Rattle.fv_compile.proofs.laws.shifted_answers.Goals as goal

pub returns : goal.returns
returns c = shifted_answers
