use Rattle.fv_steal.proofs.Balances.{comes_back}
use Rattle.fv_steal.proofs.handles.TaskDeque.take_back.Goals as goal

pub absorb-requires-clause-rule : goal.absorb-requires-clause-rule
absorb-requires-clause-rule c = comes_back _ _ _ _ c.args.self.now.owns c.args.victim.out
