use Rattle.test_blocks.specs.Pairs.{AreBefore}
use Rattle.test_blocks.proofs.plans.add_pairs.Given as goal

abbrev pub invariant-loop-source : goal.invariant-loop-source
invariant-loop-source l = record { before : AreBefore l.loops l.reader l.source l.pairs.items }
