use Rattle.fv_steal.proofs.Balances.{pops, drained}
use Rattle.fv_steal.proofs.handles.TaskDeque.pop.Goals as goal

pub pop_as-requires-clause-lifo : goal.pop_as-requires-clause-lifo
pop_as-requires-clause-lifo c = λ _. pops _ _ c.args.self.now.owns

pub pop_as-requires-clause-empty : goal.pop_as-requires-clause-empty
pop_as-requires-clause-empty c = drained _ _ c.args.self.now.owns
