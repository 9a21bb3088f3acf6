use Rattle.std.proofs.Common.{◌≡◌, map, take}
use Rattle.fv_base.specs.headline.Lists.{at}
use Rattle.fv_share.specs.Drafts.{lists_in}
use Rattle.fv_simplify.proofs.redirected.groups.Given as goal

abbrev pub invariant-loop-group : goal.invariant-loop-group
invariant-loop-group l = lists_in l.lists.items ≡ map (map (at l.images)) (take l.group l.graph.groups)
