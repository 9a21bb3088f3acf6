use Rattle.std.proofs.Common.{take}
use Rattle.fv_eval_scopes.proofs.Scoped.{Binds}
use Rattle.fv_eval_scopes.proofs.scopes.Scopes.bind_all.Given as goal

abbrev pub invariant-loop-binding : goal.invariant-loop-binding
invariant-loop-binding l = Binds l.fn.self l.self l.fn.outer l.env (take l.binding-index l.bindings)
