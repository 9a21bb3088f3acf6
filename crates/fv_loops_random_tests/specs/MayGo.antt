-- Code that may run, as a test can see (this project's profile).
use Rattle.std.specs.Prelude.{◌≡◌, ◌⊎◌, ℕ, ◌+◌, ◌*◌, ◌<◌, ◌≤◌, List, length, slice_index_or, ℤ, pos, ◌≤ℤ◌}
use Rattle.fv_loopcode.specs.declared.step.Step.{Step}
use Rattle.fv_loopcode.specs.declared.step.Step.TheVariants as step
use Rattle.fv_loopcode.specs.headline.Lanes.{lane_of}
use Rattle.fv_loopcode.specs.headline.State.{State}
use Rattle.fv_loopcode.specs.Code.{HasItems}

-- one of the steps before this one appends the lane
pub record IsAppended (steps : List Step) (upto lane : ℕ) : Type 0 where
  pub place : ℕ
  pub value : ℕ
  pub before : place < upto
  pub there : place < length steps
  pub is : (d : Step) → slice_index_or steps place d ≡ step.Append lane value

-- a load goes back by this number, one sample at least
pub record GoesBack (steps : List Step) (back max : ℕ) : Type 0 where
  pub by : ℤ
  pub is : (d : Step) → slice_index_or steps back d ≡ step.Number by
  pub positive : pos 1 ≤ℤ by
  pub far : 1 ≤ max

-- a load finds a sample of the lane before it is appended, or after
abbrev pub IsInTime : (steps : List Step) (place lane back max : ℕ) → Type 0
IsInTime steps place lane back max = IsAppended steps place lane ⊎ (GoesBack steps back max × IsAppended steps (length steps) lane)

-- a lane has the samples before this one of the block
abbrev pub HasUpTo : State → (lane upto : ℕ) → Type 0
HasUpTo s lane upto = (lane_of s.lanes lane).history + upto ≤ length (lane_of s.lanes lane).items

-- the step at this place may be done for each of the samples from .. from + count
abbrev pub MayDo : List Step → State → (from count place : ℕ) → Step → Type 0
MayDo steps s from count place (step.Number n) = Unit {0}
MayDo steps s from count place (step.Held k) = Unit {0}
MayDo steps s from count place (step.Input k) = Unit {0}
MayDo steps s from count place (step.Point op args) = Unit {0}
MayDo steps s from count place (step.Load lane back max) =
    (lane < length s.lanes) × (max ≤ (lane_of s.lanes lane).history)
    × (HasUpTo s lane (from + count) ⊎ (HasUpTo s lane from × IsInTime steps place lane back max))
MayDo steps s from count place (step.Append lane value) = lane < length s.lanes
MayDo steps s from count place (step.Read table arg) = HasItems s.tables table
MayDo steps s from count place (step.Write cells args) = HasItems s.cells cells

-- each lane has room for a sample of each step, and each step may be done
pub record MayGo (steps : List Step) (s : State) (from count : ℕ) : Type 0 where
  pub room : (l : ℕ) → l < length s.lanes → count * length steps ≤ (lane_of s.lanes l).room
  pub each : (i : ℕ) (d : Step) → i < length steps → MayDo steps s from count i (slice_index_or steps i d)
