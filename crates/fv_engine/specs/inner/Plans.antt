-- A plan as a block sees it (this project's profile).
use Rattle.std.specs.Prelude.{◌≡◌, ℕ, ◌<◌, List, length, ℤ, pos}
use Rattle.fv_signal.specs.Words.{argument}
use Rattle.fv_loopcode.specs.headline.Code.{registers_after, NamesHeld, NamesInput}
use Rattle.fv_split_plan.specs.headline.View.{PlanView, code_of}
use Rattle.fv_split_plan.specs.headline.Plans.{tables_alone}
use Rattle.fv_engine_tasks.specs.Block.{Block}
use Rattle.fv_engine_crew.specs.Contents.{parts_of}

-- a block of a plan
abbrev pub block_from : PlanView → (vector frames channels : ℕ) → (held input : List ℤ) → Block
block_from p vector frames channels held input =
    record { plan = parts_of p; vector = vector; frames = frames; channels = channels; held = held; input = input }

-- the held values that these controls give: the registers of their code
abbrev pub held_by : PlanView → (controls : List ℤ) → List ℤ
held_by p controls = registers_after p.held (argument controls) (λ n i. pos 0) 0 1 (tables_alone p.tables)

-- the codes name held values and channels that are there, and the held values' code names controls that are there
pub record NamesThere (p : PlanView) (channels controls : ℕ) : Type 0 where
  pub held : (j k : ℕ) → NamesHeld (code_of p j) k → k < length p.held
  pub inputs : (j i : ℕ) → NamesInput (code_of p j) i → i < channels
  pub knobs : (k : ℕ) → NamesHeld p.held k → k < controls
