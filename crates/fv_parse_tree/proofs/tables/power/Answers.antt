use Rattle.std.proofs.Common.{rules}
use Rattle.fv_parse_tree.proofs.tables.power.Goals as goal

pub returns-in-Plus : goal.returns-in-Plus
returns-in-Plus c = search rules

pub returns-in-Colon : goal.returns-in-Colon
returns-in-Colon c = search rules
