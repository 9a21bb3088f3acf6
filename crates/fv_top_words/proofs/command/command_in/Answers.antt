use Rattle.std.proofs.Common.{rules}
use Rattle.fv_top_words.proofs.command.command_in.Goals as goal

pub returns-in_ok-run_of-in-au-clause-job : goal.returns-in_ok-run_of-in-au-clause-job
returns-in_ok-run_of-in-au-clause-job c = search rules

pub returns-in_ok-run_of-in-rack-clause-job : goal.returns-in_ok-run_of-in-rack-clause-job
returns-in_ok-run_of-in-rack-clause-job c = search rules

pub returns-in-check-clause-job : goal.returns-in-check-clause-job
returns-in-check-clause-job c = search rules
