use Rattle.std.proofs.Common.{◌≡◌, take, map, get_or}
use Rattle.fv_simplify.proofs.pass.images_of.Given as goal

abbrev pub invariant-loop-s : goal.invariant-loop-s
invariant-loop-s l = l.list.items ≡ map (λ r. get_or l.images r 0) (take l.s-index l.signals)
