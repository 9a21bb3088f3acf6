use Rattle.std.proofs.Common.{rules}
use Rattle.fv_top_words.proofs.run.vectors_in.Goals as goal

pub returns : goal.returns
returns c = search rules
