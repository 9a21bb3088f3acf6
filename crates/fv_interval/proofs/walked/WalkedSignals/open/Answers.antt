use Rattle.std.proofs.Common.{rules}
use Rattle.std.proofs.Common.{length, ap, ◌∙◌}
use Rattle.std.proofs.lemmas.Result.{IfOk-weaker}
use Rattle.fv_base.proofs.lemmas.Lists.{length_table}
use Rattle.fv_num.specs.headline.Interval.{full}
use Rattle.fv_interval.proofs.walked.WalkedSignals.open.Goals as goal

pub returns-clause-width : goal.returns-clause-width
returns-clause-width c = IfOk-weaker c.full_spans.result _ _ (λ v e. ap length e ∙ length_table c.args.count (λ i. full)) c.full_spans.ensures

pub returns-clause-done : goal.returns-clause-done
returns-clause-done c = search rules
