-- What a block's parcels hold: what their edges and the block's start name (this project's profile).
use Rattle.std.specs.Prelude.{◌≡◌, ℕ, ◌+◌, ◌-◌, ◌*◌, ◌/◌, ◌<◌, ◌≤◌, nat_lt, if◌then◌else◌, List, [], ◌∷◌, length, map, slice_index, slice_index_or}
use Rattle.std.specs.Vec.{vec_capacity}
use Rattle.std.specs.Global.{Vec, Box}
use Rattle.fv_outside.specs.headline.Tasks.{Tasks}
use Rattle.fv_graph.specs.Graph.{stride, place_in, pair_at}
use Rattle.fv_loopcode.specs.headline.State.{State, list_at}
use Rattle.fv_loopcode.specs.Obeys.{Content, HoldsJust}
use Rattle.fv_loopcode.specs.Blocks.{before}
use Rattle.fv_loopcode.specs.Words.{argument}
use Rattle.fv_loopcode_machine.specs.Scratches.{Serves}
use Rattle.fv_split_plan.specs.headline.View.{PlanView, lane_info, cells_info, code_of}
use Rattle.fv_split_plan.specs.Rows.{lists_of}
use Rattle.fv_split_plan.specs.View.{loops_of}
use Rattle.fv_lines.specs.Seen.{lane_seen}
use Rattle.fv_lines.specs.Writer.{written_by, part_of, outer_of, shape_of, frames_of}
use Rattle.fv_lines.specs.declared.seen.Seen.{Seen as SeenLane}
use Rattle.fv_lines.specs.declared.writer.LaneWriter.{LaneWriter}
use Rattle.fv_engine_tasks.specs.Block.{Parts, Block, ObeysBlock, HoldUpTo, none_done, IsReal}
use Rattle.fv_engine_codes.specs.Lanes.{lane_open}
use Rattle.fv_engine_codes.specs.Cells.{AreCellsPlaced, cells_of}
use Rattle.fv_engine_codes.specs.declared.loop_cells.LoopCells.{LoopCells}
use Rattle.fv_engine_codes.specs.Plans.{own_lanes, sources_of, lanes_of_all, readers_of}
use Rattle.fv_engine_crew.specs.declared.start.Start.{Start}
use Rattle.fv_engine_crew.specs.declared.content.Writers.{Writers}
use Rattle.fv_engine_crew.specs.declared.content.SeenLanes.{SeenLanes}
use Rattle.fv_engine_crew.specs.declared.content.SeenLanes.TheVariants as many
use Rattle.fv_engine_crew.specs.declared.content.Content.{Content as Holding}
use Rattle.fv_engine_crew.specs.declared.content.Content.TheVariants as holding

-- what a block needs of a plan
abbrev pub parts_of : PlanView → Parts
parts_of p = record {
  count = p.loops;
  lanes = length p.lanes;
  cells = length p.cells;
  history = λ l. (lane_info p l).history;
  loops = loops_of p;
}

-- the tasks of the block
abbrev pub tasks_in : Start → Tasks
tasks_in k = k.tasks.now.tasks

-- the places as the block begins
abbrev pub first_of : Start → State
first_of k = record { lanes = map lane_open k.lanes.value.items; tables = k.plan.now.tables; cells = lists_of k.cells.value.items }

-- the block
abbrev pub block_of : Start → Block
block_of k = record {
  plan = parts_of k.plan.now;
  vector = k.vector;
  frames = k.frames;
  channels = k.channels;
  held = k.held.now;
  input = k.input.now;
}

-- The content of a block: the block's codes obey it, and the places hold it as the block begins. So it is what the plan's code
-- leaves there when all tasks run one after another in task order.
pub record IsContentOf (k : Start) (f : Content) : Type 0 where
  pub obeys : ObeysBlock (block_of k) f
  pub begins : HoldUpTo (block_of k) f none_done (first_of k)

-- a block's content is there: something that its codes obey and that the places hold as it begins
abbrev pub IsRealStart : Start → Type 0
IsRealStart k = IsReal (block_of k) (first_of k)

-- how many samples of the block lie before vector v
abbrev pub upto : Start → ℕ → ℕ
upto k v = before k.vector k.frames v

-- a writer is of the same loan, shape and number of samples as another one
pub record SameWriter (w v : LaneWriter) : Type 0 where
  pub part : part_of w ≡ part_of v
  pub whole : (outer_of w).whole ≡ (outer_of v).whole
  pub high : (outer_of w).high ≡ (outer_of v).high
  pub history : (shape_of w).history ≡ (shape_of v).history
  pub block : (shape_of w).block ≡ (shape_of v).block
  pub len : (shape_of w).len ≡ (shape_of v).len
  pub frames : frames_of w ≡ frames_of v

-- w is the writer of lane l, with its signal's values up to vector v
pub record IsWriterOf (k : Start) (l v : ℕ) (w : LaneWriter) : Type 0 where
  pub same : (d : LaneWriter) → SameWriter w (slice_index_or k.lanes.value.items l d)
  pub written : written_by w ≡ upto k v
  pub holds : (f : Content) → IsContentOf k f → HoldsJust f l (upto k v) (k.frames - upto k v) (lane_open w)

-- s is lane l as it was seen, with its signal's values up to vector v and no more
pub record IsSeenOf (k : Start) (l v : ℕ) (s : SeenLane) : Type 0 where
  pub holds : (f : Content) → IsContentOf k f → HoldsJust f l (upto k v) 0 (lane_seen s)

-- the writers of these lanes
pub record AreWritersOf (k : Start) (lanes : List ℕ) (v : ℕ) (ws : List LaneWriter) : Type 0 where
  pub count : length ws ≡ length lanes
  pub each : (i : ℕ) (d : LaneWriter) → i < length lanes → IsWriterOf k (slice_index lanes i) v (slice_index_or ws i d)

-- these lanes, as they were seen
pub record AreSeenOf (k : Start) (lanes : List ℕ) (v : ℕ) (ss : List SeenLane) : Type 0 where
  pub count : length ss ≡ length lanes
  pub each : (i : ℕ) (d : SeenLane) → i < length lanes → IsSeenOf k (slice_index lanes i) v (slice_index_or ss i d)

-- the lanes that go over an edge, in their order
abbrev pub lanes_seen : SeenLanes → List SeenLane
lanes_seen many.Nothing = []
lanes_seen (many.One s) = s ∷ []
lanes_seen (many.Two s t) = s ∷ t ∷ []
lanes_seen (many.Many ss) = ss.items

-- for how many of a loop's lanes a list needs room: one lane and two go without it
abbrev pub list_room : ℕ → ℕ
list_room n = if nat_lt n 3 then 0 else n

-- empty lists, each with this room
pub record AreRoomy (lists : List (Vec SeenLane)) (room : ℕ) : Type 0 where
  pub empty : (i : ℕ) (d : Vec SeenLane) → i < length lists → (slice_index_or lists i d).items ≡ []
  pub roomy : (i : ℕ) (d : Vec SeenLane) → i < length lists → room ≤ vec_capacity (slice_index_or lists i d)

-- c has the cells of loop j, after v of its vectors
pub record AreCellsOf (k : Start) (j v : ℕ) (c : LoopCells) : Type 0 where
  pub plan : c.plan.now ≡ k.plan.now
  pub places : c.places.now ≡ k.places.now
  pub loop_no : c.loop_no ≡ j
  pub placed : AreCellsPlaced c
  pub room : slice_index k.places.now.counts.items j ≤ length c.lists.items
  pub holds : (f : Content) → IsContentOf k f → (i : ℕ) → i < length k.plan.now.cells → (cells_info k.plan.now i).owner ≡ j
      → list_at (cells_of c) i ≡ f.cells i (upto k v)

-- What loop j hands on after v of its vectors: its writers and cells, room for the seen lanes of its sources, and scratch for its code.
-- Where more than two lanes are its own, it hands on lists too: `more` lists more than the readers of its later vectors take.
pub record AreHandedOn (k : Start) (j v more : ℕ) (w : Writers) : Type 0 where
  pub writers : AreWritersOf k (own_lanes k.plan.now j) v w.lanes.own.items
  pub cells : AreCellsOf k j v w.lanes.cells
  pub nothing_seen : w.lanes.seen.items ≡ []
  pub room : length (lanes_of_all k.plan.now (sources_of (tasks_in k) j)) ≤ vec_capacity w.lanes.seen
  pub scratch : ∥ Serves (code_of k.plan.now j) (argument k.held.now) w.scratch ∥₁
  pub lists : 3 ≤ length (own_lanes k.plan.now j) → ((tasks_in k).vectors - v) * readers_of (tasks_in k) j + more ≤ length w.lists.items
  pub roomy : AreRoomy w.lists.items (list_room (length (own_lanes k.plan.now j)))

-- The content of an edge's parcel: the writers of the edge's loop, or the lanes of the edge's source, as they were seen after the
-- edge's vector. (By two implications, not by cases: so a ghost field may state it as it is.)
pub record IsContent (k : Start) (e : ℕ) (c : Holding) : Type 0 where
  pub writers : (w : Box Writers) → c ≡ holding.Writers w →
      (place_in (tasks_in k) e < (tasks_in k).loops) × AreHandedOn k (place_in (tasks_in k) e) (e / stride (tasks_in k)) 0 w.value
  pub seen : (ss : SeenLanes) → c ≡ holding.Seen ss → ((tasks_in k).loops ≤ place_in (tasks_in k) e)
      × AreSeenOf k (own_lanes k.plan.now (pair_at (tasks_in k) (place_in (tasks_in k) e - (tasks_in k).loops)).source) (e / stride (tasks_in k) + 1)
      (lanes_seen ss)
