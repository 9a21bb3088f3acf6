use Rattle.fv_top_program.proofs.RackParts.{racks_are_jobs}
use Rattle.fv_top_program.proofs.rack_laws.racks_are_jobs.Goals as goal

pub returns : goal.returns
returns c = racks_are_jobs
