use Rattle.std.proofs.Common.{ℕ, ◌-◌, ◌<◌, All, vec_len}
use Rattle.fv_eval_drawing.proofs.recent.Recent.widen.Given as goal

abbrev pub invariant-widen : goal.invariant-widen
invariant-widen l = (n : ℕ) → All (λ i. i < n) l.fn.self → l.id < n → All (λ i. i < n) l.self-inside.places.items

abbrev pub decreases-widen : goal.decreases-widen
decreases-widen l = l.wanted - vec_len l.self-inside.places
