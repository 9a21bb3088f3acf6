-- The lanes of one worker that has them all.
use Rattle.std.specs.Prelude.{ℕ, ◌≡◌, ◌+◌, ◌-◌, ◌≤◌, ◌<◌, List, length, take, drop, map, sum, slice_index, ℤ}
use base.Fml.{GName}
use Rattle.fv_base.specs.headline.Lists.{table}
use Rattle.fv_loopcode.specs.headline.Lanes.{Lane, lane_of}
use Rattle.fv_pool.specs.Layout.{ArePlaces, part}
use Rattle.fv_lines.specs.Shape.{copied_history}
use Rattle.fv_lines.specs.Hold.{from_start}
use Rattle.fv_lines.specs.Flat.{HasOrigin}
use Rattle.fv_lines.specs.declared.shape.LaneShape.{LaneShape}
use Rattle.fv_lines.specs.declared.shape.LaneState.{LaneState}
use Rattle.fv_lines.specs.declared.begun_lane.BegunLane.{BegunLane}
use Rattle.fv_lines.specs.declared.solo.Solo.{Solo}

-- lane i's history, block and length, and where its history begins
abbrev pub history_at : List LaneShape → ℕ → ℕ
history_at shapes i = slice_index (map (λ (s : LaneShape). s.history) shapes) i

abbrev pub block_at : List LaneShape → ℕ → ℕ
block_at shapes i = slice_index (map (λ (s : LaneShape). s.block) shapes) i

abbrev pub len_at : List LaneShape → ℕ → ℕ
len_at shapes i = slice_index (map (λ (s : LaneShape). s.len) shapes) i

abbrev pub start_at : List LaneState → ℕ → ℕ
start_at states i = slice_index (map (λ (s : LaneState). s.start) states) i

-- the first n samples of part i, from the cell s on
abbrev pub held_from : List ℕ → ℕ → ℕ → ℕ → List ℤ → List ℤ
held_from lengths s n i cells = take n (from_start s (part lengths i cells))

-- from where its state says
abbrev pub held_at : List ℕ → List LaneState → ℕ → ℕ → List ℤ → List ℤ
held_at lengths states n i cells = held_from lengths (start_at states i) n i cells

-- where lane i's history begins, by its origin
abbrev pub first_at : List LaneShape → List ℕ → ℕ → ℕ
first_at shapes origins i = slice_index origins i - history_at shapes i

-- the lengths of the parts, the shapes, the cells, and for how many samples the lanes were begun
abbrev pub lengths_in : Solo → List ℕ
lengths_in s = s.layout.now

abbrev pub shapes_in : Solo → List LaneShape
shapes_in s = s.shapes.now

abbrev pub cells_in : Solo → List ℤ
cells_in s = s.cells.now

abbrev pub frames_in : Solo → ℕ
frames_in s = s.frames

-- of each lane that has begun its shape, where its part begins, its origin, and how many samples are written
abbrev pub shapes_begun : List BegunLane → List LaneShape
shapes_begun begun = map (λ (l : BegunLane). l.shape) begun

abbrev pub places_begun : List BegunLane → List ℕ
places_begun begun = map (λ (l : BegunLane). l.place) begun

abbrev pub origins_begun : List BegunLane → List ℕ
origins_begun begun = map (λ (l : BegunLane). l.origin) begun

abbrev pub written_begun : List BegunLane → List ℕ
written_begun begun = map (λ (l : BegunLane). l.written) begun

abbrev pub origins_in : Solo → List ℕ
origins_in s = origins_begun s.begun.now

abbrev pub written_in : Solo → List ℕ
written_in s = written_begun s.begun.now

-- lane i's list: the history and the samples written so far
abbrev pub list_at : Solo → ℕ → List ℤ
list_at s i =
    held_from (lengths_in s) (first_at (shapes_in s) (origins_in s) i) (history_at (shapes_in s) i + slice_index (written_in s) i) i (cells_in s)

-- lane i
abbrev pub lane_at : Solo → ℕ → Lane
lane_at s i = record {
  history = history_at (shapes_in s) i;
  items = list_at s i;
  room = frames_in s - slice_index (written_in s) i;
}

-- all lanes, in order
abbrev pub lanes_of : Solo → List Lane
lanes_of s = table (length (lengths_in s)) (lane_at s)

-- a lane's shape, its part's length, its origin, how many samples are written, of how many
pub record IsLane (h b m n origin written frames : ℕ) : Type 0 where
  pub long : n ≡ m
  pub shaped : h + b ≤ m
  pub framed : frames ≤ b
  pub upto : written ≤ frames
  pub placed : HasOrigin h m origin

-- the lists have one entry for each lane, a lane's record has its shape and its place, and each lane lies in its part
pub record IsSolo (s : Solo) : Type 0 where
  pub shapes : length (shapes_in s) ≡ length (lengths_in s)
  pub states : length s.states.now ≡ length (lengths_in s)
  pub begun : length s.begun.now ≡ length (lengths_in s)
  pub fits : sum (lengths_in s) ≤ length (cells_in s)
  pub same : shapes_begun s.begun.now ≡ shapes_in s
  pub places : ArePlaces (lengths_in s) (places_begun s.begun.now)
  pub lanes : (i : ℕ) → i < length (lengths_in s) →
      IsLane (history_at (shapes_in s) i) (block_at (shapes_in s) i) (len_at (shapes_in s) i) (slice_index (lengths_in s) i) (slice_index (origins_in s) i)
      (slice_index (written_in s) i) (frames_in s)

-- what no call changes: which loans these are, the lengths, the shapes and the number of samples
pub record SoloRest : Type 0 where
  pub cells : GName
  pub states : GName
  pub begun : GName
  pub lengths : List ℕ
  pub shapes : List LaneShape
  pub frames : ℕ

abbrev pub rest_in : GName → GName → GName → List ℕ → List LaneShape → ℕ → SoloRest
rest_in cells states begun lengths shapes frames = record {
  cells = cells;
  states = states;
  begun = begun;
  lengths = lengths;
  shapes = shapes;
  frames = frames;
}

abbrev pub rest_of : Solo → SoloRest
rest_of s = rest_in s.cells.ghost_name s.states.ghost_name s.begun.ghost_name (lengths_in s) (shapes_in s) (frames_in s)

-- one entry for each lane, and room for all parts
abbrev pub AreLists : List ℕ → List LaneShape → List LaneState → List BegunLane → List ℤ → Type 0
AreLists lengths shapes states begun cells =
    (length shapes ≡ length lengths) × (length states ≡ length lengths) × (length begun ≡ length lengths) × (sum lengths ≤ length cells)

-- a part of n cells and a start hold a history of h samples, of a lane of m cells
abbrev pub IsHeld : (h m n start : ℕ) → Type 0
IsHeld h m n start = (n ≡ m) × (h ≤ copied_history → start + h ≤ m) × (copied_history < h → start < m)

-- so it is with each lane
abbrev pub AreHeld : List ℕ → List LaneShape → List LaneState → Type 0
AreHeld lengths shapes states =
    (i : ℕ) → i < length lengths → IsHeld (history_at shapes i) (len_at shapes i) (slice_index lengths i) (start_at states i)

-- no lane's block is shorter than these samples
abbrev pub AreFramed : List ℕ → List LaneShape → ℕ → Type 0
AreFramed lengths shapes frames = (i : ℕ) → i < length lengths → frames ≤ block_at shapes i

-- the lanes where nothing is written
abbrev pub opening_lanes : List ℕ → List LaneShape → List LaneState → ℕ → List ℤ → List Lane
opening_lanes lengths shapes states frames cells =
    table (length lengths) (λ i. record { history = history_at shapes i; items = held_at lengths states (history_at shapes i) i cells; room = frames })

-- no lane takes one sample more
abbrev pub AreFull : List Lane → Type 0
AreFull lanes = (i : ℕ) → i < length lanes → (lane_of lanes i).room ≡ 0

-- These states and the cells hold the end of each lane's list: what lies after the samples that the lanes were begun for, as
-- many samples as the lane's history.
abbrev pub HoldNext : Solo → List LaneState → Type 0
HoldNext s states =
    (i : ℕ) → i < length (lanes_of s)
    → held_at (lengths_in s) states (history_at (shapes_in s) i) i (cells_in s) ≡ drop (frames_in s) (lane_of (lanes_of s) i).items
