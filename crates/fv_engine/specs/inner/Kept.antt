-- What one worker's block works on.
use Rattle.std.specs.Prelude.{List, Vec, ℤ}
use Rattle.std.specs.declared.alloc.Global.{Global}
use base.Fml.{GName}
use Rattle.fv_loopcode.specs.headline.Lanes.{Lane}
use Rattle.fv_loopcode.specs.headline.State.{State}
use Rattle.fv_split_plan.specs.headline.View.{PlanView}
use Rattle.fv_split_plan.specs.Rows.{lists_of}

-- lanes, a plan's tables and the items of lists
abbrev pub state_of : PlanView → List Lane → List (Vec ℤ Global) → State
state_of p lanes lists = record { lanes = lanes; tables = p.tables; cells = lists_of lists }

-- what no call changes: the plan, which loans these are, and what no call changes of the lanes
pub record KeptRest (R : Type 0) : Type 0 where
  pub plan : PlanView
  pub lanes : GName
  pub of_lanes : R
  pub lists : GName

abbrev pub rest_with : {R : Type 0} → PlanView → GName → R → GName → KeptRest R
rest_with p lanes of_lanes lists = record { plan = p; lanes = lanes; of_lanes = of_lanes; lists = lists }
