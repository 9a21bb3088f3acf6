use Rattle.fv_top_words.proofs.Cutting.{are_cut}
use Rattle.fv_top_words.proofs.laws.words_are_cut.Goals as goal

pub returns : goal.returns
returns c = are_cut
