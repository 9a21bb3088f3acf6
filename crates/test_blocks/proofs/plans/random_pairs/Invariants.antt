use Rattle.test_blocks.specs.Pairs.{AreBefore}
use Rattle.test_blocks.proofs.plans.random_pairs.Given as goal

abbrev pub invariant-loop-reader : goal.invariant-loop-reader
invariant-loop-reader l = record { before : AreBefore l.loops l.reader 0 l.pairs.items }
