-- The code of held values.
use Rattle.std.specs.Prelude.{◌≡◌, ◌≢◌, ℕ, ◌-◌, ◌<◌, ◌≤◌, List, [], ◌∷◌, ◌++◌, length, map, slice_set, ℤ, pos, All}
use Rattle.fv_num.specs.headline.Frames.{Frame, Stream}
use Rattle.fv_signal.specs.declared.signal.Signal.{Signal}
use Rattle.fv_signal.specs.declared.signal.Signal.TheVariants as signal
use Rattle.fv_signal.specs.declared.rate.Rate.{Rate}
use Rattle.fv_signal.specs.declared.rate.Rate.TheVariants as rate
use Rattle.fv_signal.specs.headline.Value.{Graph, table_of, value}
use Rattle.fv_signal.specs.headline.Rates.{rate_of, NamesControl}
use Rattle.fv_split_plan.specs.Reach.{at}
use Rattle.fv_loopcode.specs.declared.step.Step.{Step}
use Rattle.fv_loopcode.specs.declared.step.Step.TheVariants as step
use Rattle.fv_loopcode.specs.headline.Code.{passed, opening, NamesHeld}
use Rattle.fv_loopcode.specs.Code.{AreOrdered, IsWhole}
use Rattle.fv_split_plan.specs.headline.Plans.{IsHeldCode, tables_alone}

-- the registers of a code that reads no sample and no lane
abbrev pub held_registers : (tables : List (List ℤ)) → (controls : ℕ → ℤ) → List Step → List ℤ
held_registers tables controls steps = (passed controls (λ i. pos 0) 0 (opening (tables_alone tables)) steps).numbers

-- a read is of a table of the graph that has items
abbrev pub ReadsWithin : Graph → Step → Type 0
ReadsWithin g (step.Number n) = Unit {0}
ReadsWithin g (step.Held k) = Unit {0}
ReadsWithin g (step.Input i) = Unit {0}
ReadsWithin g (step.Point op args) = Unit {0}
ReadsWithin g (step.Load lane back max) = Unit {0}
ReadsWithin g (step.Append lane value) = Unit {0}
ReadsWithin g (step.Read table arg) = 0 < length (table_of g table)
ReadsWithin g (step.Write cells args) = Unit {0}

-- The code has a register for each of these signals. It has the signal's value at each time at which the controls that the code
-- names are those of that time. Each held value below s is one of them, and its number says which.
pub record HoldsUpTo (g : Graph) (s : ℕ) (numbers : List ℕ) (steps : List Step) : Type 0 where
  pub signals : List ℕ
  pub long : length signals ≡ length steps
  pub steady : (k : ℕ) → k < length steps → rate_of g (at signals k) ≢ rate.Sample
  pub values : (X : List Frame) (c : ℕ → Stream) (t : ℕ) (controls : ℕ → ℤ) → ((k : ℕ) → NamesHeld steps k → controls k ≡ c k t) →
      held_registers g.tables controls steps ≡ map (λ q. value g q X c t) signals
  -- the number of what is no held value is that of some register too, where there is one
  pub within : (q : ℕ) → at numbers q ≤ length steps - 1
  pub numbered : (q : ℕ) → q < s → rate_of g q ≢ rate.Sample → (at numbers q < length steps) × (at signals (at numbers q) ≡ q)
  pub controls : (k : ℕ) → NamesHeld steps k → NamesControl g k
  pub held_code : IsHeldCode steps
  pub reads : All (ReadsWithin g) steps
  pub ordered : AreOrdered steps

-- the node of a held value is no input, delay, signal of a group or table that is written: these are of rate sample
abbrev pub IsSteady : Signal → Type 0
IsSteady (signal.Input i) = ⊥
IsSteady (signal.Const n) = Unit {0}
IsSteady (signal.Control k) = Unit {0}
IsSteady (signal.Point op args) = Unit {0}
IsSteady (signal.Delay d w max) = ⊥
IsSteady (signal.Back group i) = ⊥
IsSteady (signal.Member group i) = ⊥
IsSteady (signal.Read table r) = Unit {0}
IsSteady (signal.Write table w y r) = ⊥

-- the step of a held value
abbrev pub StepIs : (numbers : List ℕ) → Signal → Step → Type 0
StepIs numbers (signal.Input i) x = Unit {0}
StepIs numbers (signal.Const n) x = x ≡ step.Number n
StepIs numbers (signal.Control k) x = x ≡ step.Held k
StepIs numbers (signal.Point op args) x = x ≡ step.Point op (map (at numbers) args)
StepIs numbers (signal.Delay d w max) x = Unit {0}
StepIs numbers (signal.Back group i) x = Unit {0}
StepIs numbers (signal.Member group i) x = Unit {0}
StepIs numbers (signal.Read table r) x = x ≡ step.Read table (at numbers r)
StepIs numbers (signal.Write table w y r) x = Unit {0}

-- one held value more
pub record HoldsNow (s : ℕ) (n : Signal) (old_numbers : List ℕ) (old : List Step) (new_numbers : List ℕ) (new : List Step) : Type 0 where
  pub step : Step
  pub is : StepIs old_numbers n step
  pub whole : IsWhole step
  pub numbers : new_numbers ≡ slice_set old_numbers s (length old)
  pub steps : new ≡ old ++ step ∷ []

-- one signal more, which is a held value where its rate is not that of samples
abbrev pub HoldsIf : (s : ℕ) (n : Signal) → Rate → (old_numbers : List ℕ) (old : List Step) (new_numbers : List ℕ) (new : List Step) → Type 0
HoldsIf s n rate.Sample a b c d = (c ≡ a) × (d ≡ b)
HoldsIf s n rate.Constant a b c d = HoldsNow s n a b c d
HoldsIf s n rate.Control a b c d = HoldsNow s n a b c d
