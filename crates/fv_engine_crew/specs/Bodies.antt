-- The body of a block (this project's profile).
use Rattle.std.specs.Prelude.{◌≡◌, ℕ, ◌<◌, List, [], length, slice_index_or}
use Rattle.fv_loopcode.specs.declared.step.Step.{Step}
use Rattle.fv_engine_tasks.specs.Jobs.{IsJob}
use Rattle.fv_engine_codes.specs.Plans.{IsLocalCode}
use Rattle.fv_engine_crew.specs.Contents.{tasks_in, block_of}
use Rattle.fv_engine_crew.specs.declared.start.Start.{Start}

-- the tasks are the block's, and these are the codes of its loops over the lanes that each of them sees
pub record IsBody (k : Start) (codes : List (List Step)) : Type 0 where
  pub job : IsJob (block_of k) (tasks_in k)
  pub count : length codes ≡ (tasks_in k).loops
  pub codes_are : (j : ℕ) → j < (tasks_in k).loops → IsLocalCode k.plan.now (tasks_in k) j (slice_index_or codes j [])
