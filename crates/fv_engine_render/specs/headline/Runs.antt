-- What a run of an engine over blocks answers (this project's profile).
use Rattle.std.specs.Prelude.{◌≡◌, ℕ, ◌*◌, nat_lt, if◌then◌else◌, List, length, Option}
use Rattle.fv_signal.specs.headline.Value.{Graph}
use Rattle.fv_outside.specs.headline.Journal.{Told}
use Rattle.fv_control.specs.declared.script.Change.{Change}
use Rattle.fv_split_plan.specs.headline.View.{PlanView}
use Rattle.fv_split_plan.specs.headline.Plans.{IsPlanOf}
use Rattle.fv_engine_render.specs.headline.Blocks.{AreBlocks, RanBlocks, StillTells, loop_runs_of}
use Rattle.fv_engine_render.specs.declared.blocks.RunSizes.{RunSizes}
use Rattle.fv_engine_render.specs.declared.blocks.Ran.{Ran}

-- the loops that are counted of some blocks: 0 where there is no block
abbrev pub loops_in : (blocks loops : ℕ) → ℕ
loops_in blocks loops = if nat_lt 0 blocks then loops else 0

-- The blocks of a plan's run up to frame f, what was told of them and what is counted.
pub record HasRun (p : PlanView) (s : RunSizes) (changes : List Change) (f : ℕ) (r : Ran) (old new : Option Told) : Type 0 where
  -- the blocks' lengths: they are cut at the block size, at the end and at each change
  pub lengths : List ℕ
  pub cut : AreBlocks s.block s.frames changes 0 f lengths
  -- Where the gate still tells its list, it was told one entry for each block: the plan's loops and reads, the block's vectors, and
  -- a journal. In the journal each loop ran once on each vector, after all that it reads, by one of the workers that were asked
  -- for.
  pub told : RanBlocks s.workers p.loops p.reads s.vector lengths old new
  pub blocks_are : r.blocks ≡ length lengths
  pub loops_are : r.loops ≡ loops_in r.blocks p.loops
  pub runs_are : r.loop_runs ≡ loop_runs_of p.loops s.vector lengths

-- The blocks of a graph's run up to a frame, of a plan of the graph.
pub record RanGraphTo (g : Graph) (changes : List Change) (s : RunSizes) (upto : ℕ) (r : Ran) (old new : Option Told) : Type 0 where
  pub plan : PlanView
  pub planned : IsPlanOf g plan
  pub run : HasRun plan s changes upto r old new
  -- a gate that has room for a call for each block, a line for each loop that ran and the pairs of each block still tells it
  pub room : StillTells r.blocks r.loop_runs (r.blocks * (r.loops * r.loops)) old new
