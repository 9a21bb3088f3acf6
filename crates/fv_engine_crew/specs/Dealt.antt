-- The lanes of a block, dealt to the lists of their loops (this project's profile).
use Rattle.std.specs.Prelude.{◌≡◌, ℕ, ◌<◌, List, length, map, slice_index_or}
use Rattle.std.specs.Global.{Box}
use Rattle.fv_split_plan.specs.headline.View.{PlanView}
use Rattle.fv_lines.specs.declared.writer.LaneWriter.{LaneWriter}
use Rattle.fv_engine_codes.specs.Plans.{own_lanes}
use Rattle.fv_engine_crew.specs.declared.content.Writers.{Writers}

-- the lists of loop j, with its lanes of these as its own ones, and all else as it was
pub record IsDealt (p : PlanView) (all : List LaneWriter) (j : ℕ) (old new : Writers) : Type 0 where
  pub count : length new.lanes.own.items ≡ length (own_lanes p j)
  pub own : (d : LaneWriter) → new.lanes.own.items ≡ map (λ l. slice_index_or all l d) (own_lanes p j)
  pub seen : new.lanes.seen ≡ old.lanes.seen
  pub cells : new.lanes.cells ≡ old.lanes.cells
  pub scratch : new.scratch ≡ old.scratch
  pub lists : new.lists ≡ old.lists

-- so it is with each loop
pub record AreDealt (p : PlanView) (all : List LaneWriter) (old new : List (Box Writers)) : Type 0 where
  pub count : length new ≡ length old
  pub each : (j : ℕ) (d : Box Writers) → j < p.loops → IsDealt p all j (slice_index_or old j d).value (slice_index_or new j d).value
