use Rattle.std.proofs.Common.{rules}
use Rattle.fv_top_words.proofs.command.job_in.Goals as goal

pub returns-clause-job : goal.returns-clause-job
returns-clause-job c = search rules
