use Rattle.std.proofs.Common.{◌≡◌, take}
use Rattle.fv_pcm.specs.Coded.{samples_in}
use Rattle.fv_pcm.proofs.decoder.decode.Given as goal

-- the samples up to here are decoded
abbrev pub invariant-loop-i : goal.invariant-loop-i
invariant-loop-i l = take l.i l.to ≡ samples_in l.coding l.bits l.i l.bytes
