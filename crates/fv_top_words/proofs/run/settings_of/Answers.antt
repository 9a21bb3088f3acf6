use Rattle.std.proofs.Common.{rules}
use Rattle.fv_top_words.proofs.run.settings_of.Goals as goal

pub returns-in_err-rate : goal.returns-in_err-rate
returns-in_err-rate c = search rules

pub returns-then-vectors_in-gt-MOST_VECTORS : goal.returns-then-vectors_in-gt-MOST_VECTORS
returns-then-vectors_in-gt-MOST_VECTORS c = search rules

pub returns : goal.returns
returns c = search rules
