-- A plan from its parts.
use Rattle.fv_split_plan.specs.declared.plan.PlanParts.{PlanParts}
use Rattle.fv_split_plan.specs.headline.View.{PlanView}
use Rattle.fv_split_plan.specs.Rows.{lists_of, plan_with}

-- the plan of these parts
abbrev pub plan_of : PlanParts → PlanView
plan_of p = plan_with p.loops p.lanes.items (lists_of p.tables.items) p.cells.items p.codes.items p.reads.items p.outputs.items p.held
