use Rattle.std.proofs.Common.{◌≡◌, map, take}
use Rattle.fv_base.specs.headline.Lists.{at}
use Rattle.fv_simplify.proofs.redirected.images_of.Given as goal

abbrev pub invariant-loop-s : goal.invariant-loop-s
invariant-loop-s l = l.list.items ≡ map (at l.images) (take l.s-index l.signals)
