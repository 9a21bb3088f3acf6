use Rattle.std.proofs.Common.{◌≡◌, drop}
use Rattle.fv_components.specs.inner.Search.{finished}
use Rattle.fv_components.proofs.search.finish.Given as goal

abbrev pub invariant-loop-node : goal.invariant-loop-node
invariant-loop-node l = finished l.marks (drop l.node-index l.nodes) l.count ≡ finished l.fn.marks l.nodes l.count
