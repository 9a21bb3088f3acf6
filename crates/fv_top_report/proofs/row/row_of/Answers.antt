use Rattle.std.proofs.Common.{rules}
use Rattle.fv_top_report.proofs.row.row_of.Goals as goal

pub returns-in-Job : goal.returns-in-Job
returns-in-Job c = search rules
