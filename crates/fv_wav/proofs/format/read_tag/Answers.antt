use Rattle.std.proofs.Common.{rules, arith}
use Rattle.fv_wav.proofs.lemmas.Steps.{fails_now}
use Rattle.fv_wav.proofs.Parts.{tag_short}
use Rattle.fv_wav.proofs.format.read_tag.Goals as goal

pub returns-then-size-lt16-clause-err : goal.returns-then-size-lt16-clause-err
returns-then-size-lt16-clause-err g c = fails_now _ _ _ (tag_short c.args.size _ (omega arith))

pub returns-clause-size : goal.returns-clause-size
returns-clause-size g c = search rules
