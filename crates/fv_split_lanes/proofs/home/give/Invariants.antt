use Rattle.std.proofs.Common.{◌≡◌, drop}
use Rattle.fv_split_lanes.specs.inner.Homes.{bit_at, given}
use Rattle.fv_split_lanes.proofs.home.give.Given as goal

abbrev pub invariant-loop-r : goal.invariant-loop-r
invariant-loop-r l = given (bit_at l.inner) l.homes.items (drop l.r-index l.signals) l.home ≡ given (bit_at l.inner) l.fn.homes.items l.signals l.home
