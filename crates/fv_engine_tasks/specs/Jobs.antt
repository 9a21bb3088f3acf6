-- What the tasks of a block need.
use Rattle.std.specs.Prelude.{◌≡◌, ℕ, ◌*◌, ◌<◌, ◌≤◌, true, List, length, get_or, All, Bool, not, ℤ}
use Rattle.fv_outside.specs.headline.Tasks.{Tasks, reads_loop, bit, total}
use Rattle.fv_loopcode.specs.Code.{IsWithin}
use Rattle.fv_loopcode.specs.headline.Obeys.{OfLane}
use Rattle.fv_loopcode.specs.Blocks.{AreApart}
use Rattle.fv_loopcode_machine.specs.Scratches.{HasRoom, Serves}
use Rattle.fv_loopcode_machine.specs.declared.scratch.Scratch.{Scratch}
use Rattle.fv_engine_tasks.specs.headline.Block.{vectors_of}
use Rattle.fv_engine_tasks.specs.Block.{Parts, Block}
use Rattle.fv_engine_tasks.specs.declared.turns.Job.{Job}

-- the block of a job
abbrev pub block_of : {P : Type 0} → (P → Parts) → Job P → Block
block_of parts j = record {
  plan = parts j.plan.now;
  vector = j.vector;
  frames = j.frames;
  channels = j.channels;
  held = j.held.now;
  input = j.input.now;
}

-- the tasks are the block's, and its codes read what is there
pub record IsJob (b : Block) (g : Tasks) : Type 0 where
  pub some : 0 < g.loops
  pub loops : g.loops ≡ b.plan.count
  pub vectors : g.vectors ≡ vectors_of b.frames b.vector
  pub same : (k i : ℕ) → b.plan.loops.reads k i ≡ reads_loop g.reads k i
  pub lower : (k i : ℕ) → reads_loop g.reads k i ≡ true → i < k
  pub apart : AreApart b.plan.loops b.plan.lanes b.plan.cells
  -- each lane has a loop
  pub owned : (l : ℕ) → l < b.plan.lanes → (j : ℕ) × (j < b.plan.count) × ((b.plan.loops.roles j).own (OfLane l) ≡ true)
  pub vector : 1 ≤ b.vector
  pub within : (j : ℕ) → j < b.plan.count → All (λ s. IsWithin (length b.held) b.channels s) (b.plan.loops.code j)
  pub input : b.frames * b.channels ≤ length b.input

-- there is scratch for each loop's code
pub record HaveScratch (p : Parts) (ss : List Scratch) : Type 0 where
  pub count : length ss ≡ p.count
  pub each : (j : ℕ) (d : Scratch) → j < p.count → HasRoom (p.loops.code j) (get_or ss j d)

-- the scratch of each loop serves runs of its code with these held values
pub record ServeAll (p : Parts) (held : ℕ → ℤ) (ss : List Scratch) : Type 0 where
  pub count : length ss ≡ p.count
  pub each : (j : ℕ) (d : Scratch) → j < p.count → Serves (p.loops.code j) held (get_or ss j d)

-- how many tasks are not done
abbrev pub left_to_do : List Bool → ℕ
left_to_do done = total (λ d. bit (not d)) done
