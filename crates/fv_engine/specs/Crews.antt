-- What several workers need of a plan (this project's profile).
use Rattle.std.specs.Prelude.{◌≤◌}
use Rattle.fv_base.specs.declared.limits.TheConstants.{MOST_WORKERS}
use Rattle.fv_outside.specs.headline.Tasks.{Tasks}
use Rattle.fv_split_plan.specs.headline.View.{PlanView}
use Rattle.fv_engine_codes.specs.Cells.{ArePlaced}
use Rattle.fv_engine_codes.specs.Codes.{AreLocalCodes, AreLaneCounts}
use Rattle.fv_engine.specs.declared.crew_codes.CrewCodes.{CrewCodes}

-- What several workers keep of a plan: the codes of its loops over the lanes that they see, how many these are, and the cells'
-- places in their loops. There is at least one worker, and at most as many as a run may ask for and as there are loops.
pub record IsCrewOf (p : PlanView) (g : Tasks) (c : CrewCodes) : Type 0 where
  pub codes : AreLocalCodes p g c.codes.items
  pub counts : AreLaneCounts p g c.counts.items
  pub cells : ArePlaced p c.places.places.items c.places.counts.items
  pub workers : (1 ≤ c.workers) × (c.workers ≤ MOST_WORKERS)
  pub loops : c.workers ≤ p.loops
