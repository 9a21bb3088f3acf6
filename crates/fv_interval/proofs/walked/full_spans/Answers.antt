use Rattle.std.proofs.Common.{rules}
use Rattle.fv_interval.proofs.walked.full_spans.Goals as goal

pub loop-preserved : goal.loop-preserved
loop-preserved c = search rules
