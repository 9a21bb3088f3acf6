-- What calls say beside `headline/Fits`: when the code of a loop fits a graph: each of its registers is for something (this project's profile).
use Rattle.std.specs.Prelude.{◌≡◌, ◌⊎◌, ℕ, ◌<◌, ◌≤◌, List, [], ◌∷◌, ◌++◌, length, take, map, slice_index_or, ℤ, pos, Bool, true, false, All}
use Rattle.fv_num.specs.headline.Words.{inputs_of}
use Rattle.fv_num.specs.declared.op.Op.{Op}
use Rattle.fv_num.specs.declared.op.Op.TheVariants.{Max}
use Rattle.fv_num.specs.headline.Frames.{Frame, Stream, column}
use Rattle.fv_signal.specs.declared.signal.Signal.TheVariants as signal
use Rattle.fv_signal.specs.headline.Value.{Graph, definition, table_of, value, IsOrdered}
use Rattle.fv_loopcode.specs.declared.step.Step.{Step}
use Rattle.fv_loopcode.specs.declared.step.Step.TheVariants as step
use Rattle.fv_loopcode.specs.headline.Obeys.{Roles, Place, OfLane, OfCells, nothing, done_after, ObeysStreams}
use Rattle.fv_analysis.specs.headline.Stands.{stand, StandsAt}
use Rattle.fv_split_plan.specs.headline.Fits.{Names, flows}

-- what a register is for: a signal's value, or a number
pub data Mean : Type 0 where
  Value : (signal : ℕ) → Mean
  Literal : (number : ℤ) → Mean

-- what a register is for, the number 0 where there is none
abbrev pub mean_at : List Mean → ℕ → Mean
mean_at ms w = slice_index_or ms w (Literal (pos 0))

-- What a load is for: a delay of the lane's signal; its value one sample ago; or its value now, of a lane of another loop.
pub data LoadFits (g : Graph) (p : Names) (r : Roles) (done : Place → Bool) (ms : List Mean) (lane back max : ℕ) (m : Mean) : Type 0 where
  OfDelay : (s x d : ℕ) → StandsAt g s (signal.Delay x d max) → x < length g.signals → d < length g.signals → stand g x ≡ p.lane lane →
      mean_at ms back ≡ Value (stand g d) → max ≤ p.history lane → (r.own (OfLane lane) ≡ true → done (OfLane lane) ≡ true) → m ≡ Value s
      → LoadFits g p r done ms lane back max m
  OfBack : (s group i : ℕ) → StandsAt g s (signal.Back group i) → definition g group i < length g.signals → stand g (definition g group i) ≡ p.lane lane →
      mean_at ms back ≡ Literal (pos 1) → max ≡ 1 → 1 ≤ p.history lane → m ≡ Value s → LoadFits g p r done ms lane back max m
  OfNow : back < length ms →
      mean_at ms back ≡ Literal (pos 0) → max ≡ 0 → r.own (OfLane lane) ≡ false → m ≡ Value (p.lane lane) → LoadFits g p r done ms lane back max m

-- What an operation is for: a signal's own operation, or a delay that never goes back, whose first operand is the greater
-- one of itself and itself.
pub data PointFits (g : Graph) (ms : List Mean) (op : Op) (args : List ℕ) (m : Mean) : Type 0 where
  OfPoint : (s : ℕ) (operands : List ℕ) → StandsAt g s (signal.Point op operands) → All (λ o. o < length g.signals) operands →
      All (λ a. a < length ms) args → map (mean_at ms) (take (inputs_of op) args) ≡ map (λ o. Value (stand g o)) (take (inputs_of op) operands) → m ≡ Value s →
      PointFits g ms op args m
  OfStill : (s x d w : ℕ) → StandsAt g s (signal.Delay x d 0) → x < length g.signals → op ≡ Max → args ≡ w ∷ w ∷ w ∷ w ∷ [] →
      mean_at ms w ≡ Value (stand g x) → m ≡ Value s → PointFits g ms op args m

-- What a read is for: an item of the graph's table of this number.
pub record ReadFits (g : Graph) (ms : List Mean) (table arg : ℕ) (m : Mean) : Type 0 where
  pub items : 0 < length (table_of g table)
  pub reader : ℕ
  pub place : ℕ
  pub stands : StandsAt g reader (signal.Read table place)
  pub within : place < length g.signals
  pub operand : mean_at ms arg ≡ Value (stand g place)
  pub is : m ≡ Value reader

-- What a write is for: the table that is written whose cells these are.
pub record WriteFits (g : Graph) (p : Names) (r : Roles) (done : Place → Bool) (ms : List Mean) (cells : ℕ) (args : List ℕ) (m : Mean) : Type 0 where
  pub own : r.own (OfCells cells) ≡ true
  pub waits : done (OfCells cells) ≡ false
  pub table : ℕ
  pub items : 0 < length (table_of g table)
  pub w : ℕ
  pub x : ℕ
  pub place : ℕ
  pub stands : StandsAt g (p.cells cells) (signal.Write table w x place)
  pub w_within : w < length g.signals
  pub x_within : x < length g.signals
  pub place_within : place < length g.signals
  pub operands : map (mean_at ms) args ≡ Value (stand g w) ∷ Value (stand g x) ∷ Value (stand g place) ∷ []
  pub is : m ≡ Value (p.cells cells)

-- a signal has this value at all times, whatever it hears
abbrev pub IsAlways : Graph → ℕ → ℤ → Type 0
IsAlways g s n = (X : List Frame) (c : ℕ → Stream) (t : ℕ) → value g s X c t ≡ n

-- what a step is for, after registers with these means
abbrev pub StepFits : Graph → Names → Roles → (done : Place → Bool) → List Mean → Step → Mean → Type 0
StepFits g p r done ms (step.Number n) m = (m ≡ Literal n) ⊎ ((s : ℕ) × IsAlways g s n × (m ≡ Value s))
StepFits g p r done ms (step.Held k) m = (k < p.count) × (m ≡ Value (p.held k))
StepFits g p r done ms (step.Input i) m = (s : ℕ) × StandsAt g s (signal.Input i) × (m ≡ Value s)
StepFits g p r done ms (step.Point op args) m = PointFits g ms op args m
StepFits g p r done ms (step.Load lane back max) m = (r.loaded lane ≡ true) × LoadFits g p r done ms lane back max m
StepFits g p r done ms (step.Append lane value) m =
    (r.own (OfLane lane) ≡ true) × (done (OfLane lane) ≡ false) × (mean_at ms value ≡ Value (p.lane lane)) × (m ≡ Value (p.lane lane))
StepFits g p r done ms (step.Read table arg) m = ReadFits g ms table arg m
StepFits g p r done ms (step.Write cells args) m = WriteFits g p r done ms cells args m

-- each step has a use, and in the end each place of the code's own was changed
abbrev pub CodeFits : Graph → Names → Roles → (done : Place → Bool) → List Mean → List Step → Type 0
CodeFits g p r done ms [] = (q : Place) → r.own q ≡ true → done q ≡ true
CodeFits g p r done ms (s ∷ ss) = (m : Mean) × StepFits g p r done ms s m × CodeFits g p r (done_after done s) (ms ++ m ∷ []) ss

-- code that fits obeys the values of the signals of its lanes and cells
abbrev pub CodesObey : Graph → Type 0
CodesObey g =
    IsOrdered g → (p : Names) (r : Roles) (steps : List Step) → CodeFits g p r nothing [] steps → (X : List Frame) (c : ℕ → Stream) (t : ℕ) →
    ObeysStreams r p.history (flows g p X c) (λ k. value g (p.held k) X c t) (λ i. column X i t) t steps
