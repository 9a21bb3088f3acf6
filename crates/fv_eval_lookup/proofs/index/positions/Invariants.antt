use Rattle.std.proofs.Common.{All}
use Rattle.fv_eval_lookup.specs.Chosen.{nodes_of}
use Rattle.fv_eval_lookup.specs.Leaving.{Knows}
use Rattle.fv_eval_lookup.proofs.RuleNodes.{rules_at}
use Rattle.fv_eval_lookup.proofs.index.positions.Given as goal

abbrev pub invariant-paths : goal.invariant-paths
invariant-paths l = All (Knows (rules_at l.tree (nodes_of l.rules))) l.positions.items
