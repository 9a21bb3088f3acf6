use Rattle.fv_compile.specs.inner.Copied.{IsUnderWay}
use Rattle.fv_compile.proofs.graph_copy.images.Given as goal

abbrev pub invariant-loop : goal.invariant-loop
invariant-loop l = IsUnderWay l.graph l.offsets l.counter l.fn.builder l.builder l.images.items
