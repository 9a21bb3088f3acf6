use Rattle.fv_top_program.proofs.OneFile.{one_file, one_or_other, some_file}
use Rattle.fv_top_program.proofs.rack_laws.one_file.Goals as goal

pub returns-clause-once : goal.returns-clause-once
returns-clause-once c = one_file c.one_program.ensures.once

pub returns-clause-some : goal.returns-clause-some
returns-clause-some c = some_file c.one_program.ensures.some

pub returns-clause-either : goal.returns-clause-either
returns-clause-either c = one_or_other c.one_program.ensures.either c.one_program.ensures.some
