-- The lanes of a block, as its parcels give them back (this project's profile).
use Rattle.std.specs.Prelude.{◌≡◌, ℕ, ◌*◌, ◌<◌, List, length, slice_index_or, Vec, ℤ}
use Rattle.std.specs.declared.alloc.Global.{Global}
use Rattle.fv_graph.specs.Graph.{stride}
use Rattle.fv_lines.specs.declared.writer.LaneWriter.{LaneWriter}
use Rattle.fv_engine_crew.specs.declared.start.Start.{Start}
use Rattle.fv_engine_crew.specs.declared.parcel.LoopParcel.{LoopParcel}
use Rattle.fv_loopcode_machine.specs.State.{list_at}
use Rattle.fv_split_plan.specs.ObeysBeside.{Content}
use Rattle.fv_split_plan.specs.Rows.{lists_of}
use Rattle.fv_engine_crew.specs.Contents.{tasks_in, upto, IsContentOf, IsWriterOf}
use Rattle.fv_steal.specs.Parcels.{AreParcelsFrom}

-- the parcels of the loops' own edges at a vector: the entry edges at 0, the exit edges at the number of vectors
abbrev pub AreChainParcels : Start → ℕ → List LoopParcel → Type 0
AreChainParcels k v ps = AreParcelsFrom (λ (p : LoopParcel). p.edge) (λ (p : LoopParcel). p.start.value) k (v * stride (tasks_in k)) (tasks_in k).loops ps

-- the writers of all lanes of the plan, lane by lane, after v vectors
pub record AreAllWriters (k : Start) (v : ℕ) (ws : List LaneWriter) : Type 0 where
  pub count : length ws ≡ length k.plan.now.lanes
  pub each : (l : ℕ) (d : LaneWriter) → l < length k.plan.now.lanes → IsWriterOf k l v (slice_index_or ws l d)

-- the lists of all cells of the plan, by number, after v vectors
pub record AreAllCells (k : Start) (v : ℕ) (lists : List (Vec ℤ Global)) : Type 0 where
  pub count : length lists ≡ length k.plan.now.cells
  pub each : (f : Content) → IsContentOf k f → (i : ℕ) → i < length k.plan.now.cells → list_at (lists_of lists) i ≡ f.cells i (upto k v)
