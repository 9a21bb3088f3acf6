use Rattle.std.proofs.Common.{◌≡◌, ◌*◌, ◌/◌, take}
use Rattle.std.specs.Prelude.{flat_map}
use Rattle.fv_pcm.specs.headline.Coded.{sample_bytes}
use Rattle.fv_pcm.proofs.encoder.encode_all.Given as goal

-- the samples up to here are encoded
abbrev pub invariant-loop-i : goal.invariant-loop-i
invariant-loop-i l = take (l.i * (l.bits / 8)) l.bytes ≡ flat_map (sample_bytes l.coding l.bits) (take l.i l.samples)
