use Rattle.std.proofs.Common.{rules}
use Rattle.fv_au.proofs.ahead.AheadDesk.begin_read.Goals as goal

pub returns-in_err-begin_read-clause-others : goal.returns-in_err-begin_read-clause-others
returns-in_err-begin_read-clause-others g c = search rules

pub returns-in_err-begin_read-clause-err : goal.returns-in_err-begin_read-clause-err
returns-in_err-begin_read-clause-err g c = search rules

pub returns-else-eq-clause-others : goal.returns-else-eq-clause-others
returns-else-eq-clause-others g c = search rules
