use Rattle.std.proofs.Common.{◌≡◌, take}
use Rattle.fv_signal.specs.headline.Rates.{rates}
use Rattle.fv_analysis.proofs.graph_rates.rates.Given as goal

abbrev pub invariant-loop-place : goal.invariant-loop-place
invariant-loop-place l = l.all.items ≡ rates (take l.place l.graph.signals)
