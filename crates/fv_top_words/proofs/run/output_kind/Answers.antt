use Rattle.std.proofs.Common.{rules}
use Rattle.fv_top_words.proofs.run.output_kind.Goals as goal

pub returns-then-ends_with : goal.returns-then-ends_with
returns-then-ends_with c = search rules

pub returns-else-ends_with : goal.returns-else-ends_with
returns-else-ends_with c = search rules
