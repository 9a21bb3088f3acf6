-- When an engine stands for frames and controls (this project's profile).
use Rattle.std.specs.Prelude.{◌≡◌, ℕ, ◌+◌, ◌<◌, ◌≤◌, List, ◌++◌, length, take, drop, slice_index, slice_index_or, ℤ}
use Rattle.std.specs.Prelude.{nat_lt, if◌then◌else◌}
use Rattle.fv_signal.specs.Words.{argument}
use Rattle.fv_signal.specs.Frames.{Frame, Stream, table, rows}
use Rattle.fv_signal.specs.headline.Value.{Graph, value}
use Rattle.fv_loopcode.specs.headline.Lanes.{lane_of}
use Rattle.fv_loopcode.specs.headline.State.{State, list_at}
use Rattle.fv_pool.specs.Layout.{part}
use Rattle.fv_lines.specs.Hold.{from_start}
use Rattle.fv_lines.specs.Shape.{copied_history, IsLaneLength}
use Rattle.fv_analysis.specs.headline.Stands.{node}
use Rattle.fv_split_plan.specs.headline.Fits.{Names, written_by}
use Rattle.fv_split_plan.specs.headline.View.{PlanView, lane_info}
use Rattle.fv_split_plan.specs.headline.Plans.{PlanStands, IsPlanOf}
use Rattle.fv_engine.specs.Past.{past}

-- What an engine keeps: its plan and sizes, the memory of its one region, and the lengths of the lanes' parts there. Then the place
-- in its part where each lane's history starts, and the items of each of the plan's cells.
pub record EngineView : Type 0 where
  pub plan : PlanView
  pub channels : ℕ
  pub workers : ℕ
  pub block : ℕ
  pub vector : ℕ
  pub region : List ℤ
  pub lengths : List ℕ
  pub starts : List ℕ
  pub cells : List (List ℤ)

-- Each lane has a part, of the length for its history and a block.
pub record HaveLengths (p : PlanView) (block : ℕ) (lengths : List ℕ) : Type 0 where
  pub count : length lengths ≡ length p.lanes
  pub each : (l : ℕ) → l < length p.lanes → IsLaneLength (lane_info p l).history block (slice_index lengths l)

-- A history of h samples starts at this cell of a part of n cells: where it is copied it lies within the part, and where its lane is a
-- ring it starts in it.
abbrev pub StartsIn : (h n start : ℕ) → Type 0
StartsIn h n start = (h ≤ copied_history → start + h ≤ n) × (copied_history < h → start < n)

-- a lane's history, as the region holds it
abbrev pub history_in : EngineView → ℕ → List ℤ
history_in e l = take (lane_info e.plan l).history (from_start (slice_index e.starts l) (part e.lengths l e.region))

-- What the region holds of each lane is what its signal was at the latest samples of X. The items of cells are what their table has
-- become after all its writes there.
pub record StandsFor (e : EngineView) (g : Graph) (names : Names) (X : List Frame) (c : ℕ → Stream) : Type 0 where
  pub histories : (l : ℕ) → l < length e.plan.lanes → history_in e l ≡ past (lane_info e.plan l).history (value g (names.lane l) X c) (length X)
  pub cells : (k : ℕ) → k < length e.plan.cells → list_at e.cells k ≡ written_by g X c (node g (names.cells k)) (length X)

-- the outputs' values at n times from t on
abbrev pub played : Graph → (X : List Frame) → (c : ℕ → Stream) → (t n : ℕ) → List Frame
played g X c t n = table n (λ u. table (length g.outputs) (λ j. value g (slice_index_or g.outputs j 0) X c (t + u)))

-- the controls have these numbers in the n frames from t on
abbrev pub AreGiven : (controls : List ℤ) → (c : ℕ → Stream) → (t n : ℕ) → Type 0
AreGiven controls c t n = (k u : ℕ) → k < length controls → u < n → c k (t + u) ≡ argument controls k

-- The next frames: for all frames X and controls c for which the engine stood, where c has the given numbers in the block, the
-- output is that of X and the input after it, and the engine then stands for both together.
abbrev pub GoesOn : (old new : EngineView) → (frames : ℕ) → (input controls output : List ℤ) → Type 0
GoesOn old new frames input controls output =
    (g : Graph) (s : PlanStands g old.plan) (X : List Frame) (c : ℕ → Stream) → StandsFor old g s.names X c → AreGiven controls c (length X) frames →
    (rows (length g.outputs) frames output ≡ played g (X ++ rows old.channels frames input) c (length X) frames)
    × StandsFor new g s.names (X ++ rows old.channels frames input) c

-- What an engine stands for depends on the controls before the end of X alone.
abbrev pub StandsAlike : Type 0
StandsAlike =
    (e : EngineView) (g : Graph) (names : Names) (X : List Frame) (c d : ℕ → Stream) → ((k u : ℕ) → u < length X → c k u ≡ d k u) →
    StandsFor e g names X c → StandsFor e g names X d

-- controls that go on with these numbers from time t on
abbrev pub continued : (ℕ → Stream) → (t : ℕ) → List ℤ → ℕ → Stream
continued c t controls k u = if nat_lt u t then c k u else argument controls k

-- An engine's plan is one of some graph, and the engine stands for some frames and controls.
pub record Standing (e : EngineView) : Type 0 where
  pub graph : Graph
  pub plan : IsPlanOf graph e.plan
  pub frames : List Frame
  pub controls : ℕ → Stream
  pub stands : StandsFor e graph plan.stands.names frames controls

-- the places as a block of n frames begins: the histories that the region holds, with room for the block, the plan's tables, and the
-- items of the cells
pub record AreBegun (e : EngineView) (n : ℕ) (s : State) : Type 0 where
  pub count : length s.lanes ≡ length e.plan.lanes
  pub histories : (l : ℕ) → l < length e.plan.lanes → (lane_of s.lanes l).history ≡ (lane_info e.plan l).history
  pub items : (l : ℕ) → l < length e.plan.lanes → (lane_of s.lanes l).items ≡ history_in e l
  pub room : (l : ℕ) → l < length e.plan.lanes → n ≤ (lane_of s.lanes l).room
  pub tables : s.tables ≡ e.plan.tables
  pub cells : s.cells ≡ e.cells

-- the places as a block of n samples ends: what the region then holds of each lane is what lies after them, and the cells have
-- their items
pub record AreEnded (e : EngineView) (n : ℕ) (s : State) : Type 0 where
  pub items : (l : ℕ) → l < length e.plan.lanes → history_in e l ≡ drop n (lane_of s.lanes l).items
  pub cells : s.cells ≡ e.cells

-- the plan and the sizes stay
abbrev pub SameParts : (old new : EngineView) → Type 0
SameParts old new = new ≡ record old { region = new.region; starts = new.starts; cells = new.cells }
