use Rattle.fv_analysis.proofs.lemmas.HistoryLemmas.{histories_cover}
use Rattle.fv_analysis.proofs.laws.histories_cover.Goals as goal

pub returns : goal.returns
returns c = histories_cover
