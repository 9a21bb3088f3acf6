use Rattle.std.proofs.Common.{rules}
use Rattle.fv_top_words.proofs.run.is_same.Goals as goal

pub returns-in-Some : goal.returns-in-Some
returns-in-Some c = search rules
