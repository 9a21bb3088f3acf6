-- What the loops of a block hand on, loop by loop (this project's profile).
use Rattle.std.specs.Prelude.{◌≡◌, ℕ, ◌<◌, List, length, slice_index_or}
use Rattle.std.specs.Global.{Box}
use Rattle.fv_engine_crew.specs.declared.start.Start.{Start}
use Rattle.fv_engine_crew.specs.declared.content.Writers.{Writers}
use Rattle.fv_engine_codes.specs.Plans.{own_lanes}
use Rattle.fv_engine_crew.specs.Contents.{tasks_in, AreWritersOf, AreHandedOn}

-- each loop's writers, loop by loop, after v vectors
pub record AreLoopsWriters (k : Start) (v : ℕ) (ws : List (Box Writers)) : Type 0 where
  pub count : length ws ≡ (tasks_in k).loops
  pub each : (j : ℕ) (d : Box Writers) → j < (tasks_in k).loops → AreHandedOn k j v 0 (slice_index_or ws j d).value

-- each loop's lane writers, loop by loop, after v vectors
pub record AreLoopsLanes (k : Start) (v : ℕ) (ws : List (Box Writers)) : Type 0 where
  pub count : length ws ≡ (tasks_in k).loops
  pub each : (j : ℕ) (d : Box Writers) → j < (tasks_in k).loops → AreWritersOf k (own_lanes k.plan.now j) v (slice_index_or ws j d).value.lanes.own.items

-- before any vector
abbrev pub AreEntered : Start → List (Box Writers) → Type 0
AreEntered k ws = AreLoopsWriters k 0 ws
