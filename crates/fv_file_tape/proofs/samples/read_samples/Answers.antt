use Rattle.std.proofs.Common.{◌≡◌, ◌*◌, ◌/◌, length, arith, ◌∙◌}
use Rattle.fv_wav.proofs.lemmas.FramesRead.{all_read}
use Rattle.fv_file_tape.proofs.samples.read_samples.Goals as goal

pub returns-clause-ok : goal.returns-clause-ok
returns-clause-ok g c =
    let long : length c.read_samples.new.bytes ≡ length c.args.to.now * (c.args.bits / 8) = c.read_samples.auto.bytes ∙ c.requires.room in
    all_read c.args.to.now c.in-Ok.ensures.read c.read_samples.auto.to c.in-Ok.ensures.few (omega (arith, long))
