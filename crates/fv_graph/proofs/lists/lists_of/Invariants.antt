use Rattle.std.proofs.Common.{◌≡◌}
use Rattle.fv_graph.specs.inner.Lists.{again}
use Rattle.fv_graph.proofs.lists.lists_of.Given as goal

abbrev pub invariant-loop-vector : goal.invariant-loop-vector
invariant-loop-vector l = record {
  edges : l.lists.edges.items ≡ again l.initial.lists.edges.items l.stride l.vector;
  begins : l.lists.begins ≡ l.initial.lists.begins;
  wide : l.lists.wide ≡ l.initial.lists.wide;
}
