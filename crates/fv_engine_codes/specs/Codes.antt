-- The codes of a plan's loops over the lanes that the loops see (this project's profile).
use Rattle.std.specs.Prelude.{◌≡◌, ℕ, ◌<◌, List, [], length, slice_index_or}
use Rattle.fv_outside.specs.headline.Tasks.{Tasks, reads_loop}
use Rattle.fv_loopcode.specs.declared.step.Step.{Step}
use Rattle.fv_split_plan.specs.headline.View.{PlanView}
use Rattle.fv_engine_codes.specs.Plans.{own_lanes, sources_of, lanes_of_all, IsLocalCode}
use Rattle.fv_engine_codes.specs.declared.counts.LaneCount.{LaneCount}

-- the tasks are those of the plan's loops
pub record AreOfPlan (p : PlanView) (g : Tasks) : Type 0 where
  pub loops : g.loops ≡ p.loops
  pub pairs : (j i : ℕ) → reads_loop g.reads j i ≡ reads_loop p.reads j i

-- code j is that of loop j, over the lanes that it sees
pub record AreLocalCodes (p : PlanView) (g : Tasks) (codes : List (List Step)) : Type 0 where
  pub count : length codes ≡ p.loops
  pub each : (j : ℕ) → j < p.loops → IsLocalCode p g j (slice_index_or codes j [])

-- how many lanes loop j has, and how many it sees of those that it reads
pub record IsLaneCount (p : PlanView) (g : Tasks) (j : ℕ) (n : LaneCount) : Type 0 where
  pub own : n.own ≡ length (own_lanes p j)
  pub seen : n.seen ≡ length (lanes_of_all p (sources_of g j))

-- number j is that of loop j
pub record AreLaneCounts (p : PlanView) (g : Tasks) (counts : List LaneCount) : Type 0 where
  pub count : length counts ≡ p.loops
  pub each : (j : ℕ) (d : LaneCount) → j < p.loops → IsLaneCount p g j (slice_index_or counts j d)
