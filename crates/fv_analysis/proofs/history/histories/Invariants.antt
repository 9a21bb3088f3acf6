use Rattle.std.proofs.Common.{◌≡◌, ℕ, take, map, get_or, false}
use Rattle.fv_analysis.specs.headline.History.{history_from}
use Rattle.fv_analysis.proofs.history.histories.Given as goal

abbrev pub invariant-loop-stand : goal.invariant-loop-stand
invariant-loop-stand l = l.all.items ≡ map (λ (r : ℕ). history_from (get_or l.delays r 0) (get_or l.backs r false)) (take l.stand-index l.stands)
