use Rattle.std.proofs.Common.{◌≡◌, ◌%◌, length, get_or}
use Rattle.fv_num.specs.headline.Frames.{table}
use Rattle.fv_diagram.proofs.pending.deal.Given as goal

abbrev pub invariant-loop-i : goal.invariant-loop-i
invariant-loop-i g l = l.all.items ≡ table l.i (λ k. get_or l.from.items (k % length l.from.items) l.fn.free)
