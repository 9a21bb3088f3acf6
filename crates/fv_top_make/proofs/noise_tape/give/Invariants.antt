use Rattle.std.proofs.Common.{◌≡◌, take}
use Rattle.fv_top_make.specs.Made.{sum_from}
use Rattle.fv_top_make.proofs.noise_tape.give.Given as goal

abbrev pub invariant-adding : goal.invariant-adding
invariant-adding l = l.sum ≡ sum_from l.noise.sum (take l.sample-index l.samples)
