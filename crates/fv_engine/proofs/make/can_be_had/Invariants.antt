use Rattle.std.proofs.Common.{◌+◌, ◌<◌, ◌^◌, take, sum}
use Rattle.fv_engine.proofs.make.can_be_had.Given as goal

abbrev pub invariant-loop-length : goal.invariant-loop-length
invariant-loop-length l = sum (take l.length-index l.lengths) + l.left < 2 ^ 63
