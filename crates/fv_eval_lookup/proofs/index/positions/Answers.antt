use Rattle.fv_eval_lookup.specs.Chosen.{nodes_of}
use Rattle.fv_eval_lookup.proofs.RuleNodes.{rules_at}
use Rattle.fv_eval_lookup.proofs.index.positions.Goals as goal

pub paths-preserved : goal.paths-preserved
paths-preserved c = c.in_ok-keep.ensures (rules_at c.args.tree.now (nodes_of c.args.rules)) c.paths.invariant c.in_ok-position.ensures
