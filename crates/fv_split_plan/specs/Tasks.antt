-- Laws of plans.
use Rattle.std.specs.Prelude.{◌≡◌, ℕ, ◌+◌, ◌<◌, ◌≤◌, List, length, ℤ}
use Rattle.fv_num.specs.headline.Frames.{Frame, Stream, column}
use Rattle.fv_signal.specs.declared.signal.Signal.TheVariants as signal
use Rattle.fv_signal.specs.headline.Value.{Graph, value}
use Rattle.fv_loopcode.specs.headline.State.{State}
use Rattle.fv_loopcode.specs.headline.Code.{ran, NamesHeld, NamesInput}
use Rattle.fv_loopcode.specs.Code.{MayRun}
use Rattle.fv_loopcode.specs.Obeys.{IsReady, IsTaskDone, window}
use Rattle.fv_loopcode.specs.Blocks.{AreApart}
use Rattle.fv_analysis.specs.headline.Stands.{StandsAt}
use Rattle.fv_split_plan.specs.headline.View.{PlanView, lane_info, code_of, roles_of}
use Rattle.fv_split_plan.specs.View.{loops_of}
use Rattle.fv_split_plan.specs.headline.Fits.{flows}
use Rattle.fv_split_plan.specs.headline.Plans.{PlanStands, PlanReads}

-- The property of each task, in a block that starts at time start. The inputs are those of X, and the held values those of the
-- samples of this task. Where lanes and cells hold what they are to hold before the task, the code may run, and after it they hold
-- what they are to hold then.
abbrev pub DoesTasks : Graph → PlanView → Type 0
DoesTasks g p =
    (s : PlanStands g p) (X : List Frame) (c : ℕ → Stream) (start from count rest j : ℕ) (held : ℕ → ℤ) (inputs : ℕ → ℕ → ℤ) (state : State) →
    j < p.loops →
    ((n k : ℕ) → n < count → NamesHeld (code_of p j) k → held k ≡ value g (s.names.held k) X c (start + (from + n))) →
    ((n i : ℕ) → n < count → NamesInput (code_of p j) i → inputs (from + n) i ≡ column X i (start + (from + n))) →
    IsReady (roles_of p j) (window s.names.history (flows g s.names X c) start) from count rest state →
    MayRun (code_of p j) held inputs from count state
    × IsTaskDone (roles_of p j) (window s.names.history (flows g s.names X c) start) (from + count) rest state (ran
    (code_of p j) held inputs from count state)

-- a plan's loops have lanes and cells of their own, and load no other lanes but those of loops that they are told to read
abbrev pub PlansAreApart : Type 0
PlansAreApart = (p : PlanView) → PlanReads p → AreApart (loops_of p) (length p.lanes) (length p.cells)

-- a plan of a program with outputs has a loop
abbrev pub OutputsNeedLoops : Graph → PlanView → Type 0
OutputsNeedLoops g p = PlanStands g p → 0 < length g.outputs → 0 < p.loops

-- no lane keeps more history than the greatest delay of the graph, and one sample
abbrev pub HistoriesWithin : Graph → PlanView → Type 0
HistoriesWithin g p =
    PlanStands g p → (most : ℕ) → 1 ≤ most → ((r x d max : ℕ) → StandsAt g r (signal.Delay x d max) → max ≤ most) →
    (l : ℕ) → l < length p.lanes → (lane_info p l).history ≤ most
