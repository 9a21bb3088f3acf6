-- A plan from what holds it.
use Rattle.std.specs.Prelude.{ℕ, List, map, Vec, ℤ}
use Rattle.std.specs.declared.alloc.Global.{Global}
use Rattle.fv_outside.specs.declared.tasks.Reads.{Reads}
use Rattle.fv_loopcode.specs.declared.step.Step.{Step}
use Rattle.fv_split_plan.specs.declared.lane.LaneInfo.{LaneInfo}
use Rattle.fv_split_plan.specs.declared.lane.CellsInfo.{CellsInfo}
use Rattle.fv_split_plan.specs.headline.View.{PlanView}

-- the numbers of these lists
abbrev pub lists_of : List (Vec ℤ Global) → List (List ℤ)
lists_of rows = map (λ (row : Vec ℤ Global). row.items) rows

-- the plan of these loops, lanes, tables, cells, codes, reads, outputs and held code
abbrev pub plan_with : ℕ → List LaneInfo → List (List ℤ) → List CellsInfo → List (List Step) → List Reads → List ℕ → List Step → PlanView
plan_with loops lanes tables cells codes reads outputs held = record {
  loops = loops;
  lanes = lanes;
  tables = tables;
  cells = cells;
  codes = codes;
  reads = reads;
  outputs = outputs;
  held = held;
}
