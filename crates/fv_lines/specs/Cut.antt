-- Writers over parts that were cut one after another out of one loan (this project's profile).
use Rattle.std.specs.Prelude.{◌≡◌, ℕ, ◌<◌, ◌≤◌, List, [], ◌∷◌, length, map, sum, take, drop, slice_index_or, ℤ}
use base.Fml.{GName}
use Rattle.fv_pool.specs.Layout.{part}
use Rattle.fv_lines.specs.Hold.{held, Holds}
use Rattle.fv_lines.specs.Solo.{start_at}
use Rattle.fv_lines.specs.Writer.{list_of, content_of, outer_of, shape_of, written_by, frames_of}
use Rattle.fv_lines.specs.declared.shape.LaneShape.{LaneShape}
use Rattle.fv_lines.specs.declared.shape.LaneState.{LaneState}
use Rattle.fv_lines.specs.declared.writer.LaneWriter.{LaneWriter}

-- the number of cells of each lane
abbrev pub lengths_by : List LaneShape → List ℕ
lengths_by shapes = map (λ (s : LaneShape). s.len) shapes

-- The first writer was cut out of the loan γ, and each other one out of what was left then. At last the loan δ is left.
abbrev pub IsChain : GName → GName → List LaneWriter → Type 0
IsChain γ δ [] = γ ≡ δ
IsChain γ δ (w ∷ ws) = ((outer_of w).whole ≡ γ) × IsChain (outer_of w).high δ ws

-- each lane finds its part in the cells, with a history where its state says, and takes the samples of a block
pub record MayBegin (shapes : List LaneShape) (states : List LaneState) (frames : ℕ) (cells : List ℤ) : Type 0 where
  pub count : length states ≡ length shapes
  pub room : sum (lengths_by shapes) ≤ length cells
  pub framed : (i : ℕ) (d : LaneShape) → i < length shapes → frames ≤ (slice_index_or shapes i d).block
  pub holds : (i : ℕ) (d : LaneShape) → i < length shapes → Holds (slice_index_or shapes i d) (start_at states i) (part (lengths_by shapes) i cells)

-- a lane that begins with the history that a start names in these cells, and takes the samples of a block
pub record IsBegun (shape : LaneShape) (start frames : ℕ) (cells : List ℤ) (w : LaneWriter) : Type 0 where
  pub list : list_of w ≡ held shape start cells
  pub written : written_by w ≡ 0
  pub frames_are : frames_of w ≡ frames
  pub shape_is : shape_of w ≡ shape

-- so the first n lanes begin, each over its part
pub record AreBegun (shapes : List LaneShape) (states : List LaneState) (frames : ℕ) (cells : List ℤ) (n : ℕ) (ws : List LaneWriter) : Type 0 where
  pub count : length ws ≡ n
  pub each : (i : ℕ) (d : LaneShape) (e : LaneWriter) → i < n
      → IsBegun (slice_index_or shapes i d) (start_at states i) frames (part (lengths_by shapes) i cells) (slice_index_or ws i e)

-- a start names a history in what a lane leaves: the end of its list, or its beginning
pub record HoldsEnd (w : LaneWriter) (start : ℕ) : Type 0 where
  pub held_is : held (shape_of w) start (content_of w) ≡ drop (frames_of w) (list_of w)
  pub holds : Holds (shape_of w) start (content_of w)

pub record HoldsStart (w : LaneWriter) (start : ℕ) : Type 0 where
  pub held_is : held (shape_of w) start (content_of w) ≡ take (shape_of w).history (list_of w)
  pub holds : Holds (shape_of w) start (content_of w)

-- so it is with each state
abbrev pub HoldEnds : List LaneWriter → List LaneState → Type 0
HoldEnds ws states = (i : ℕ) (d : LaneWriter) → i < length ws → HoldsEnd (slice_index_or ws i d) (start_at states i)

abbrev pub HoldStarts : List LaneWriter → List LaneState → Type 0
HoldStarts ws states = (i : ℕ) (d : LaneWriter) → i < length ws → HoldsStart (slice_index_or ws i d) (start_at states i)
