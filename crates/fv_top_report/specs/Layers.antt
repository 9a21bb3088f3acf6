-- What calls say beside `headline/Layers`: the refusals of the layers, as those of a run (this project's profile).
use Rattle.fv_interval.specs.declared.refusal.DelayRefusal.{DelayRefusal}
use Rattle.fv_interval.specs.declared.refusal.DelayRefusal.TheVariants as delay
use Rattle.fv_top_report.specs.declared.refusal.Refusal.{Refusal}
use Rattle.fv_top_report.specs.declared.refusal.Refusal.TheVariants as no

-- the refusals of a program's delays, as those of a run
abbrev pub of_delay : DelayRefusal → Refusal
of_delay (delay.DelayNegative least) = no.DelayNegative least
of_delay (delay.DelayTooLong greatest) = no.DelayTooLong greatest
of_delay (delay.DelayBudget total) = no.DelayBudget total
of_delay delay.NoMemory = no.NoMemory
