use Rattle.std.proofs.Common.{ℕ, ◌<◌, length, All}
use Rattle.fv_components.specs.Reach.{next_of}
use Rattle.fv_components.proofs.search.are_links.Given as goal

abbrev pub invariant-loop-node : goal.invariant-loop-node
invariant-loop-node l = (a : ℕ) → a < l.node → All (λ b. b < length l.links) (next_of l.links a)
