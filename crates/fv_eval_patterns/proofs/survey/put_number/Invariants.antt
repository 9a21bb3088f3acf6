use Rattle.std.proofs.Common.{◌-◌, suc, vec_len}
use Rattle.fv_eval_patterns.proofs.survey.put_number.Given as goal

abbrev pub decreases-widen : goal.decreases-widen
decreases-widen l = suc l.i - vec_len l.list
