-- Lanes while they get their new numbers (this project's profile).
use Rattle.std.specs.Prelude.{◌≡◌, ℕ, ◌<◌, ◌≤◌, List, length, slice_index, slice_index_or}
use Rattle.std.specs.Global.{Vec}
use Rattle.fv_outside.specs.Tasks.{times}
use Rattle.fv_split_plan.specs.headline.View.{PlanView}
use Rattle.fv_engine_codes.specs.Plans.{own_lanes}

-- each of these lanes has its place among them as its new number
abbrev pub AreNumbered : (places lanes : List ℕ) → Type 0
AreNumbered places lanes = (k : ℕ) → k < length lanes → slice_index places (slice_index lanes k) ≡ k

-- nothing stands twice
abbrev pub AreOnce : List ℕ → Type 0
AreOnce xs = (x : ℕ) → times x xs ≤ 1

-- list j has the lanes of loop j
pub record AreLanesByLoop (p : PlanView) (lists : List (Vec ℕ)) : Type 0 where
  pub count : length lists ≡ p.loops
  pub each : (j : ℕ) (d : Vec ℕ) → j < p.loops → (slice_index_or lists j d).items ≡ own_lanes p j
