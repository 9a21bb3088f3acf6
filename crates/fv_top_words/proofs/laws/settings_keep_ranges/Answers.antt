use Rattle.fv_top_words.proofs.Ranges.{keep_ranges}
use Rattle.fv_top_words.proofs.laws.settings_keep_ranges.Goals as goal

pub returns : goal.returns
returns c = keep_ranges
