use Rattle.fv_steal.proofs.Balances.{steals}
use Rattle.fv_steal.proofs.handles.Victim.steal.Goals as goal

pub steal_as-requires-clause-takes : goal.steal_as-requires-clause-takes
steal_as-requires-clause-takes c = steals _ _ c.args.self.now.out
