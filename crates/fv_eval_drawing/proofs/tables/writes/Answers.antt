use Rattle.std.proofs.Common.{rules}
use Rattle.fv_eval_drawing.proofs.tables.writes.Goals as goal

pub returns-in-ReadTable : goal.returns-in-ReadTable
returns-in-ReadTable c = search rules
