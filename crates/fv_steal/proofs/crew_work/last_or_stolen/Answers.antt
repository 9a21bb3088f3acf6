use Rattle.fv_steal.proofs.TurnSteps.{popped}
use Rattle.fv_steal.proofs.crew_work.last_or_stolen.Goals as goal

pub returns-then-is_some-clause-found : goal.returns-then-is_some-clause-found
returns-then-is_some-clause-found g c = popped c.pop-own.result c.args.worker.now c.pop-own.new.self _ c.pop-own.ensures.found
