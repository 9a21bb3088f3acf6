-- What calls say beside `headline/Block`: a block, by what determines its samples (this project's profile).
use Rattle.std.specs.Prelude.{◌≡◌, ℕ, ◌<◌, List, ℤ}
use Rattle.fv_loopcode.specs.Words.{argument}
use Rattle.fv_loopcode.specs.headline.State.{State}
use Rattle.fv_loopcode.specs.Code.{frame_of}
use Rattle.fv_loopcode.specs.Obeys.{Content, ObeysAt}
use Rattle.fv_loopcode.specs.Blocks.{Loops, IsUpTo}

-- What a block needs of a plan: how many loops, lanes and cells there are, the history of each lane, and each loop's code, places and
-- reads.
pub record Parts : Type 0 where
  pub count : ℕ
  pub lanes : ℕ
  pub cells : ℕ
  pub history : ℕ → ℕ
  pub loops : Loops

-- the plan and the vector size, and the block's frames, held values and input
pub record Block : Type 0 where
  pub plan : Parts
  pub vector : ℕ
  pub frames : ℕ
  pub channels : ℕ
  pub held : List ℤ
  pub input : List ℤ

-- numbers that the block's codes obey
pub record ObeysBlock (b : Block) (f : Content) : Type 0 where
  pub history : (l : ℕ) → l < b.plan.lanes → f.history l ≡ b.plan.history l
  pub obeys : (j n : ℕ) → n < b.frames → ObeysAt (b.plan.loops.roles j) f (argument b.held) (frame_of b.input b.channels n) n (b.plan.loops.code j)

-- each place holds what it is to hold up to these vectors of its loop
abbrev pub HoldUpTo : Block → Content → (vectors : ℕ → ℕ) → State → Type 0
HoldUpTo b f vectors state = IsUpTo b.plan.loops f b.vector b.frames (record { vectors = vectors; state = state })

-- no vector of any loop is done
abbrev pub none_done : ℕ → ℕ
none_done j = 0

-- what the places hold as the block begins goes on in some numbers that its codes obey
pub record IsReal (b : Block) (first : State) : Type 0 where
  pub content : Content
  pub obeys : ObeysBlock b content
  pub begins : HoldUpTo b content none_done first
