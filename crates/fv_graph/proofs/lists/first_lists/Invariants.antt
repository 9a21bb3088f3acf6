use Rattle.std.proofs.Common.{◌+◌, ◌<◌, All}
use Rattle.fv_graph.specs.inner.Lists.{AreFirst, first_list}
use Rattle.fv_graph.proofs.lists.first_lists.Given as goal

abbrev pub invariant-loop-own : goal.invariant-loop-own
invariant-loop-own l = record {
  lists : AreFirst (first_list l.loops l.ahead l.groups) l.own l.begins.items l.edges.items;
  small : All (λ e. e < l.loops + l.stride) l.edges.items;
}
