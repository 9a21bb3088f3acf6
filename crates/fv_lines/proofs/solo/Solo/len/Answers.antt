use Rattle.std.proofs.Common.{length, sym, ◌∙◌}
use Rattle.fv_base.proofs.lemmas.Lists.{length_table}
use Rattle.fv_lines.specs.Solo.{lane_at, lengths_in}
use Rattle.fv_lines.proofs.solo.Solo.len.Goals as goal

pub returns : goal.returns
returns c = c.len.ensures ∙ sym (length_table (length (lengths_in c.args.self.now)) (lane_at c.args.self.now))
