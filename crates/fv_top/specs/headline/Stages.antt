-- Stages in order: each asks the desk for its files, takes its turns of reading or writing, and judges what it found; the
-- first that cannot go on ends all (this project's profile).
use Rattle.std.specs.Prelude.{◌⊎◌, IsTrue, List, [], ◌∷◌, ◌++◌}
use Rattle.fv_base.specs.declared.role.Role.{Role}
use Rattle.fv_outside.specs.headline.Requests.{Request}
use Rattle.fv_outside.specs.headline.Desk.{DeskState, HasFault}
use Rattle.fv_top_report.specs.declared.refusal.Refusal.{Refusal}
use Rattle.fv_top_report.specs.declared.refusal.Refusal.TheVariants.{ReadFault, WriteFault, NoMemory}

-- a role is read, or it is written
pub data Turn : Type 0 where
  reads : Role → Turn
  writes : Role → Turn

-- the role of a turn
abbrev pub role_of : Turn → Role
role_of (reads role) = role
role_of (writes role) = role

-- how a fault of a turn is answered
abbrev pub fault_of : Turn → Refusal
fault_of (reads role) = ReadFault role
fault_of (writes role) = WriteFault role

-- What the stages S are, on the files that a desk had at first.
pub record Rules (S : Type 0) : Type 1 where
  -- what the desk is asked to begin
  pub requests : S → List Request
  -- the turns of a stage
  pub Takes : S → Turn → Type 0
  -- the turn is answered: no call of the role is told to fail, its file is there, and there is room
  pub Answers : S → Turn → Type 0
  -- the refusals that a stage has
  pub Has : S → Refusal → Type 0
  -- the stage takes memory
  pub Wants : S → Type 0
  -- what the stage judges passes, or is refused for this
  pub Passes : S → Type 0
  pub Refuses : S → Refusal → Type 0
  -- it is known what the stages judge: where they judge files, the desk tells them
  pub Known : Type 0

-- Why a stage ends all: a fault of a turn that was not sure to be answered, a refusal of what it judges, or want of memory in a
-- stage that takes some.
pub data Halts {S : Type 0} (k : Rules S) (old new : DeskState) (s : S) : Refusal → Type 0 where
  fault : (t : Turn) → k.Takes s t → HasFault (role_of t) old new → (IsTrue old.tells → k.Answers s t → ⊥) → Halts k old new s (fault_of t)
  judged : {refusal : Refusal} → k.Has s refusal → (k.Known → k.Refuses s refusal) → Halts k old new s refusal
  want_of_memory : k.Wants s → Halts k old new s NoMemory

-- Why stages in order end, and what the desk was asked for by then: a stage halts, and all before it passed.
pub data Ends {S : Type 0} (k : Rules S) (old new : DeskState) : List S → Refusal → List Request → Type 0 where
  here : {s : S} {rest : List S} {refusal : Refusal} → Halts k old new s refusal → Ends k old new (s ∷ rest) refusal (k.requests s)
  later : {s : S} {rest : List S} {refusal : Refusal} {asked : List Request} → (k.Known → k.Passes s) → Ends k old new rest refusal asked
      → Ends k old new (s ∷ rest) refusal (k.requests s ++ asked)

-- all that the desk is asked for where each stage passes
abbrev pub all_requests : {S : Type 0} → Rules S → List S → List Request
all_requests k [] = []
all_requests k (s ∷ rest) = k.requests s ++ all_requests k rest

-- each turn of the stage is sure to be answered, by a desk that tells, or no fault of its role is counted
abbrev pub IsQuiet : {S : Type 0} → Rules S → (old new : DeskState) → S → Type 0
IsQuiet k old new s = (t : Turn) → k.Takes s t → (IsTrue old.tells × k.Answers s t) ⊎ (HasFault (role_of t) old new → ⊥)

-- A stage refuses what it judges, and all before it pass.
pub data Stops {S : Type 0} (k : Rules S) (old new : DeskState) : List S → Refusal → Type 0 where
  at : {s : S} {rest : List S} {refusal : Refusal} → IsQuiet k old new s → k.Refuses s refusal → Stops k old new (s ∷ rest) refusal
  behind : {s : S} {rest : List S} {refusal : Refusal} → IsQuiet k old new s → k.Passes s → Stops k old new rest refusal → Stops k old new (s ∷ rest) refusal

-- All of these stages pass.
pub data PassesAll {S : Type 0} (k : Rules S) (old new : DeskState) : List S → Type 0 where
  none : PassesAll k old new []
  more : {s : S} {rest : List S} → IsQuiet k old new s → k.Passes s → PassesAll k old new rest → PassesAll k old new (s ∷ rest)
