use Rattle.fv_jobs.proofs.Found.{found, others}
use Rattle.fv_jobs.proofs.Asked.{requests}
use Rattle.fv_jobs.proofs.control_laws.labels_are_of_jobs.Goals as goal

pub returns-clause-found : goal.returns-clause-found
returns-clause-found c = found

pub returns-clause-others : goal.returns-clause-others
returns-clause-others c = others

pub returns-clause-asked : goal.returns-clause-asked
returns-clause-asked c = requests
