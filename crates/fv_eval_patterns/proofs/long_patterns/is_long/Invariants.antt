use Rattle.std.proofs.Common.{◌<◌}
use Rattle.fv_parse.specs.Trees.{size_of}
use Rattle.fv_eval_patterns.proofs.long_patterns.is_long.Given as goal

abbrev pub invariant-leftward : goal.invariant-leftward
invariant-leftward l = l.first < size_of l.tree
