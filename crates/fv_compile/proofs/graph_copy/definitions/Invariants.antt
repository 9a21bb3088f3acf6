use Rattle.std.proofs.Common.{◌≡◌, take, map}
use Rattle.fv_base.specs.headline.Lists.{at}
use Rattle.fv_share.specs.Drafts.{lists_in}
use Rattle.fv_compile.proofs.graph_copy.definitions.Given as goal

abbrev pub invariant-loop-group : goal.invariant-loop-group
invariant-loop-group l = (lists_in l.lists.items ≡ map (λ ms. map (at l.images) ms) (take l.group l.graph.groups))
