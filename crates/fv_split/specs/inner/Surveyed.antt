-- What is found out about a graph before the code of its loops is made.
use Rattle.std.specs.Prelude.{◌≡◌, ℕ, List, length, Vec}
use Rattle.std.specs.declared.alloc.Global.{Global}
use Rattle.fv_signal.specs.headline.Value.{Graph, IsGraph}
use Rattle.fv_signal.specs.headline.Rates.{rates}
use Rattle.fv_loopcode.specs.declared.step.Step.{Step}
use Rattle.fv_analysis.specs.headline.Stands.{stands_of}
use Rattle.fv_split_plan.specs.declared.lane.CellsInfo.{CellsInfo}
use Rattle.fv_split_lanes.specs.declared.lanes.Lanes.{Lanes}
use Rattle.fv_split_lanes.specs.Placed.{ArePlaced}
use Rattle.fv_split_code.specs.declared.kind.Kind.{Kind}
use Rattle.fv_split_code.specs.Held.{HoldsUpTo}
use Rattle.fv_split.specs.declared.cells.Cells.{Cells}
use Rattle.fv_split.specs.declared.surveyed.Surveyed.{Surveyed}
use Rattle.fv_split.specs.inner.Bases.{AreBases, AreKinds}
use Rattle.fv_split.specs.inner.Cells.{AreCells}

-- what the passes over the signals say of the lists that they make
pub record Passes (g : Graph) (p : Lanes) (stands : Vec ℕ Global) (bases kinds : Vec Kind Global) (cells : Cells) (numbers : List ℕ) (steps : List Step) :
    Type 0 where
  pub graph : IsGraph g
  pub placed : ArePlaced g p
  pub is_stands : stands.items ≡ stands_of g
  pub held : HoldsUpTo g (length g.signals) numbers steps
  pub are_bases : AreBases g (stands_of g) (rates g.signals) p.lanes.items numbers (length g.signals) bases.items
  pub are_kinds : AreKinds bases.items p.lanes.items (length g.signals) kinds.items
  pub are_cells : AreCells g p.homes.items (length g.signals) cells

-- the lanes and loops that were found
abbrev pub lanes_in : Surveyed → Lanes
lanes_in t = record { lanes = t.survey.lanes; signals = t.signals; owners = t.survey.owners; loops = t.loops; homes = t.survey.homes }

-- the cells that were found, whose loops and tables stand in a list of their own
abbrev pub cells_in : Surveyed → (infos : Vec CellsInfo Global) → Cells
cells_in t infos = record { numbers = t.survey.cells; infos = infos }

-- so a graph was surveyed
pub record IsSurveyed (g : Graph) (t : Surveyed) (infos : Vec CellsInfo Global) : Type 0 where
  pub numbers : List ℕ
  pub passes : Passes g (lanes_in t) t.survey.stands t.survey.bases t.survey.kinds (cells_in t infos) numbers t.held.items
