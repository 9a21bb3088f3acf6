-- The lists of a plan: its lanes, the lanes of its outputs, and its codes.
use Rattle.std.specs.Prelude.{◌≡◌, ℕ, ◌<◌, List, [], length, slice_index_or, Option, unwrap_or, Vec}
use Rattle.std.specs.declared.alloc.Global.{Global}
use Rattle.fv_components.specs.headline.Reach.{at}
use Rattle.fv_loopcode.specs.declared.step.Step.{Step}
use Rattle.fv_split_plan.specs.declared.lane.LaneInfo.{LaneInfo}
use Rattle.fv_split_plan.specs.Separated.{lane_at}
use Rattle.fv_split_code.specs.Emitted.{code_in}

-- the first n lanes have the loops and the histories of their signals
pub record AreInfos (signals owners histories : List ℕ) (n : ℕ) (infos : List LaneInfo) : Type 0 where
  pub long : length infos ≡ n
  pub each : (l : ℕ) (d : LaneInfo) → l < n → slice_index_or infos l d ≡ record { owner = at owners l; history = at histories (at signals l) }

-- the lane of what a signal stands for
abbrev pub lane_of : (stands : List ℕ) → (lanes : List (Option ℕ)) → ℕ → ℕ
lane_of stands lanes s = unwrap_or (lane_at lanes (at stands s)) 0

-- the codes of the first n loops
pub record AreCoded (codes : List (Vec Step Global)) (n : ℕ) (all : List (List Step)) : Type 0 where
  pub long : length all ≡ n
  pub each : (j : ℕ) → j < n → slice_index_or all j [] ≡ code_in codes j
