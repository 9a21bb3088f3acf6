use Rattle.fv_engine.proofs.Alike.{stands_alike}
use Rattle.fv_engine.proofs.laws.stands_alike.Goals as goal

pub returns : goal.returns
returns c = stands_alike
