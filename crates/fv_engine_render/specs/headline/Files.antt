-- A diagram that is played from an input to an output, block by block (RIFF WAVE 1991; Sun audio; this project's profile).
use Rattle.std.specs.Prelude.{ℕ, ◌+◌, ◌<◌, ◌≤◌, List}
use Rattle.fv_control.specs.declared.script.Change.{Change}
use Rattle.fv_engine_render.specs.headline.Blocks.{AreBlocks, block_at}

-- The blocks of n frames lie within the frames that are there up to frame g, and the next one does not.
pub record IsCutAt (block n : ℕ) (changes : List Change) (there g : ℕ) : Type 0 where
  pub lengths : List ℕ
  pub cut : AreBlocks block n changes 0 g lengths
  pub within : g ≤ there
  pub next : there < g + block_at block n changes g
