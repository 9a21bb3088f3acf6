-- What calls say beside `headline/Plans`: when a plan stands for a graph (this project's profile).
use Rattle.fv_signal.specs.headline.Value.{Graph}
use Rattle.fv_split_plan.specs.headline.View.{PlanView}
use Rattle.fv_split_plan.specs.headline.Plans.{IsPlanOf}

-- a plan of some graph
abbrev pub IsPlan : PlanView → Type 0
IsPlan p = (g : Graph) × IsPlanOf g p
