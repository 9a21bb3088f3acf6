use Rattle.std.proofs.Common.{◌≡◌, ◌<◌, [], take, length, All}
use Rattle.fv_signal.specs.headline.Grown.{grown}
use Rattle.fv_analysis.specs.headline.Stands.{stand_in}
use Rattle.fv_analysis.proofs.resolve.stands.Given as goal

abbrev pub invariant-loop-place : goal.invariant-loop-place
invariant-loop-place l = (l.all.items ≡ grown (stand_in l.graph) [] (take l.place l.graph.signals)) × All (λ r. r < length l.graph.signals) l.all.items
