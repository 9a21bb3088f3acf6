-- The samples after some frames are the next frames.
use Rattle.fv_pcm.specs.declared.coding.Coding.TheVariants as coding
use Rattle.fv_pcm.proofs.lemmas.Following as samples
use Rattle.fv_wav.specs.Samples.{Follow, layout_of}

pub follow : Follow
follow head bytes t n some wide h = samples.follow coding.Wave (layout_of head) bytes t n some wide h
