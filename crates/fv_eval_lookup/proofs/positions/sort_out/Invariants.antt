use Rattle.fv_eval_lookup.specs.Chosen.{nodes_of}
use Rattle.fv_eval_lookup.specs.Positions.{Sorts}
use Rattle.fv_eval_lookup.proofs.RuleNodes.{rules_at}
use Rattle.fv_eval_lookup.proofs.positions.sort_out.Given as goal

abbrev pub invariant-loop-i : goal.invariant-loop-i
invariant-loop-i l = Sorts (rules_at l.tree (nodes_of l.rules)) l.path l.i l.free l.wants.items
