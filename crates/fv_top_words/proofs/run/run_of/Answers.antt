use Rattle.std.proofs.Common.{rules, sym}
use Rattle.fv_top_words.specs.Views.{numbers_in, settings_in}
use Rattle.fv_top_words.proofs.run.run_of.Goals as goal

pub returns-clause-ranges : goal.returns-clause-ranges
returns-clause-ranges c = c.settings_keep_ranges.ensures (numbers_in c.in_ok-numbers.numbers) (settings_in c.in_ok-settings.settings)
    (sym c.in_ok-settings.ensures)

pub returns-then-is_together-clause-run : goal.returns-then-is_together-clause-run
returns-then-is_together-clause-run c = search rules
