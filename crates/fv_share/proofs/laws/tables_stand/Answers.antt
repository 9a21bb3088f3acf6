use Rattle.fv_share.proofs.lemmas.Puts.{tables_stand}
use Rattle.fv_share.proofs.laws.tables_stand.Goals as goal

pub returns : goal.returns
returns c = tables_stand
