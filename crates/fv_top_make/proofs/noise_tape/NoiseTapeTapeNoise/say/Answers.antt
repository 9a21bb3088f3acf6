use Rattle.fv_top_make.proofs.Sounding.{sounds_given}
use Rattle.fv_top_make.proofs.noise_tape.NoiseTapeTapeNoise.say.Goals as goal

pub returns-clause-ok : goal.returns-clause-ok
returns-clause-ok c first start h s went =
    sounds_given start c.args.noise.now c.give.new.noise h s c.args.samples.now went c.give.ensures.state c.give.ensures.sum
