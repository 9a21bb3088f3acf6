use Rattle.std.proofs.Common.{arith}
use Rattle.fv_graph.proofs.lemmas.Ranges.{quotient_small, task_in}
use Rattle.fv_graph.proofs.tasks.Tasks.task.Goals as goal

pub overflow_cast-result : goal.overflow_cast-result
overflow_cast-result c = let q = quotient_small c.args.t c.self.inside.vectors c.self.inside.loops
    (task_in _ c.args.self.now c.args.t c.self.view_is c.requires) in let v = c.self.invariant.1 in let m = c.self.invariant.5 in omega arith
