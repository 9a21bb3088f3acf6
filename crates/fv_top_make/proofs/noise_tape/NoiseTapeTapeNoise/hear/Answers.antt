use Rattle.std.proofs.Common.{length}
use Rattle.fv_top_make.proofs.Sounding.{sounds_on}
use Rattle.fv_top_make.proofs.noise_tape.NoiseTapeTapeNoise.hear.Goals as goal

pub returns-clause-ok : goal.returns-clause-ok
returns-clause-ok c first start h s went =
    sounds_on start c.args.noise.now c.sound.new.noise h s c.sound.new.to (length c.args.to.now) went c.sound.auto.to c.sound.ensures.heard
    c.sound.ensures.state c.sound.ensures.sum
