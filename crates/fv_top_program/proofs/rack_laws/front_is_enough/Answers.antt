use Rattle.fv_top_program.proofs.OneFile.{front_is_enough, program_is_whole}
use Rattle.fv_top_program.proofs.rack_laws.front_is_enough.Goals as goal

pub returns-clause-same : goal.returns-clause-same
returns-clause-same c = front_is_enough c.front_is_enough.ensures.same c.front_is_enough-2.ensures.same

pub returns-clause-whole : goal.returns-clause-whole
returns-clause-whole c = program_is_whole c.front_is_enough.ensures.whole c.front_is_enough-2.ensures.whole
