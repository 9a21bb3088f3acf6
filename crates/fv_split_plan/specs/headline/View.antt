-- What a plan has, and the parts of each of its loops.
use Rattle.std.specs.Prelude.{ℕ, List, [], ◌∷◌, length, slice_index_or, Bool, false, nat_lt, nat_eq, ◌&&◌, ◌||◌, ℤ}
use Rattle.fv_outside.specs.declared.tasks.Reads.{Reads}
use Rattle.fv_loopcode.specs.declared.step.Step.{Step}
use Rattle.fv_loopcode.specs.declared.step.Step.TheVariants as step
use Rattle.fv_loopcode.specs.headline.Obeys.{Roles, Place, OfLane, OfCells}
use Rattle.fv_split_plan.specs.declared.lane.LaneInfo.{LaneInfo}
use Rattle.fv_split_plan.specs.declared.lane.CellsInfo.{CellsInfo}

-- What a plan has: how many loops there are, the lanes, the tables, the cells, and the code of each loop. Then which loop reads
-- which other, the lane of each output, and the code of the held values.
pub record PlanView : Type 0 where
  pub loops : ℕ
  pub lanes : List LaneInfo
  pub tables : List (List ℤ)
  pub cells : List CellsInfo
  pub codes : List (List Step)
  pub reads : List Reads
  pub outputs : List ℕ
  pub held : List Step

-- a lane's loop and history
abbrev pub lane_info : PlanView → ℕ → LaneInfo
lane_info p l = slice_index_or p.lanes l (record { owner = 0; history = 0 })

-- the loop and the table of cells
abbrev pub cells_info : PlanView → ℕ → CellsInfo
cells_info p k = slice_index_or p.cells k (record { owner = 0; table = 0 })

-- the code of a loop
abbrev pub code_of : PlanView → ℕ → List Step
code_of p j = slice_index_or p.codes j []

-- one of the steps loads the lane
abbrev pub loads_lane : ℕ → List Step → Bool
loads_lane l [] = false
loads_lane l (step.Load lane back max ∷ ss) = nat_eq l lane || loads_lane l ss
loads_lane l (_ ∷ ss) = loads_lane l ss

-- a loop's own places
abbrev pub is_own : PlanView → ℕ → Place → Bool
is_own p j (OfLane l) = nat_lt l (length p.lanes) && nat_eq (lane_info p l).owner j
is_own p j (OfCells k) = nat_lt k (length p.cells) && nat_eq (cells_info p k).owner j

-- what a loop may change and load: its own places, and the lanes that its code loads
abbrev pub roles_of : PlanView → ℕ → Roles
roles_of p j = record { own = is_own p j; loaded = λ l. loads_lane l (code_of p j) }
