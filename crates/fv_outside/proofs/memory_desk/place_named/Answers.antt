use Rattle.std.proofs.Common.{arith}
use Rattle.std.proofs.lemmas.Grind.{common_steps}
use Rattle.fv_outside.proofs.StoredLemmas.{file_named-take_more}
use Rattle.fv_outside.proofs.memory_desk.place_named.Goals as goal

pub loop-i-preserved : goal.loop-i-preserved
loop-i-preserved c =
    let more = file_named-take_more c.args.files.now c.args.name.now c.loop-i.i c.index-files-i.result c.loop-i-test.true in
    grind (arith, common_steps, more)
