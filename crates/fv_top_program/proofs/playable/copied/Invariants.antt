use Rattle.std.proofs.Common.{◌≡◌, take}
use Rattle.fv_top_program.proofs.playable.copied.Given as goal

abbrev pub invariant-loop-control : goal.invariant-loop-control
invariant-loop-control l = l.all.items ≡ take l.control-index l.controls
