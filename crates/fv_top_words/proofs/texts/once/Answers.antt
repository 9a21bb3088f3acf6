use Rattle.std.proofs.Common.{rules}
use Rattle.fv_top_words.proofs.texts.once.Goals as goal

pub returns-in-Some : goal.returns-in-Some
returns-in-Some c = search rules
