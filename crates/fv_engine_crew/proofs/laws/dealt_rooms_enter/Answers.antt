use Rattle.fv_engine_crew.proofs.Opens.{rooms_enter}
use Rattle.fv_engine_crew.proofs.laws.dealt_rooms_enter.Goals as goal

pub returns : goal.returns
returns c = rooms_enter
