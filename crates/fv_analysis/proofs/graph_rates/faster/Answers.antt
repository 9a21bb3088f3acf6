use Rattle.std.proofs.Common.{rules}
use Rattle.fv_analysis.proofs.graph_rates.faster.Goals as goal

pub returns-in-Control-Sample : goal.returns-in-Control-Sample
returns-in-Control-Sample c = search rules
