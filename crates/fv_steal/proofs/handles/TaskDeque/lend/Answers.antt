use Rattle.fv_steal.proofs.Balances.{gives_out}
use Rattle.fv_steal.proofs.handles.TaskDeque.lend.Goals as goal

pub another-pass-requires : goal.another-pass-requires
another-pass-requires c = gives_out _ _ c.args.self.now.owns
