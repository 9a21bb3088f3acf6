use Rattle.std.proofs.Common.{◌≡◌, take, map}
use Rattle.fv_signal.specs.headline.Rates.{rate_at, fastest}
use Rattle.fv_analysis.proofs.graph_rates.fastest.Given as goal

abbrev pub invariant-loop-signal : goal.invariant-loop-signal
invariant-loop-signal l = l.rate ≡ fastest (map (rate_at l.rates) (take l.signal-index l.signals))
