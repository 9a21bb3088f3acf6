use Rattle.std.proofs.Common.{rules}
use Rattle.fv_analysis.proofs.graph_rates.rate_of.Goals as goal

pub returns-in-Control : goal.returns-in-Control
returns-in-Control c = search rules
