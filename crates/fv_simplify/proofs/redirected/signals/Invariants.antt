use Rattle.std.proofs.Common.{◌≡◌, map, take}
use Rattle.fv_base.specs.headline.Lists.{at}
use Rattle.fv_simplify.specs.Folded.{with_images}
use Rattle.fv_simplify.proofs.redirected.signals.Given as goal

abbrev pub invariant-loop-place : goal.invariant-loop-place
invariant-loop-place l = l.list.items ≡ map (with_images (at l.images)) (take l.place l.graph.signals)
