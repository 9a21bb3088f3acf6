-- The parcels of a block's first edges and of its last ones.
use Rattle.std.proofs.Common.{◌≡◌, ℕ, ◌-◌, ◌*◌, List, sym, ap, ◌∙◌, subst, arith}
use Rattle.fv_outside.specs.headline.Tasks.{Tasks}
use Rattle.fv_graph.specs.Graph.{stride, edges_of}
use Rattle.fv_lines.specs.declared.writer.LaneWriter.{LaneWriter}
use Rattle.fv_steal.specs.Parcels.{AreParcelsFrom}
use Rattle.fv_engine_tasks.specs.headline.Block.{vectors_of}
use Rattle.std.specs.Prelude.{Vec, ℤ}
use Rattle.std.specs.declared.alloc.Global.{Global}
use Rattle.fv_engine_crew.specs.declared.block.SpreadBlock.{SpreadBlock}
use Rattle.fv_engine_crew.specs.Spread.{tasks_of}
use Rattle.fv_engine_crew.specs.Contents.{tasks_in}
use Rattle.fv_engine_crew.specs.declared.start.Start.{Start}
use Rattle.fv_engine_crew.specs.declared.parcel.LoopParcel.{LoopParcel}
use Rattle.fv_engine_crew.specs.Collected.{AreChainParcels}
use Rattle.fv_engine_crew.proofs.ReturnedWriters.{Started}

-- the parcels, one for each edge from one on, below the loops
abbrev pub AreFrom : Start → (from loops : ℕ) → List LoopParcel → Type 0
AreFrom k from loops ps = AreParcelsFrom (λ (p : LoopParcel). p.edge) (λ (p : LoopParcel). p.start.value) k from loops ps

module _ {b : SpreadBlock} {begun : List LaneWriter} {lists : List (Vec ℤ Global)} {k : Start} (s : Started b begun lists k) (ps : List LoopParcel) where
  pub entries_are : AreFrom k 0 (tasks_of b).loops ps → AreChainParcels k 0 ps
  entries_are h =
      let none : 0 ≡ 0 * stride (tasks_in k) = omega arith in
      subst (λ (n : ℕ). AreFrom k n (tasks_in k).loops ps) none (subst (λ (t : Tasks). AreFrom k 0 t.loops ps) (sym s.start.tasks) h)

  pub exits_are : AreFrom k (edges_of (tasks_of b) - (tasks_of b).loops) (tasks_of b).loops ps
      → AreChainParcels k (vectors_of b.frames b.vector) ps
  exits_are h =
      let all : (tasks_in k).vectors ≡ vectors_of b.frames b.vector = ap (λ (t : Tasks). t.vectors) s.start.tasks ∙ s.job.vectors in
      let last : edges_of (tasks_in k) - (tasks_in k).loops ≡ (tasks_in k).vectors * stride (tasks_in k) = omega arith in
      subst (λ (n : ℕ). AreFrom k n (tasks_in k).loops ps) (last ∙ ap (λ (v : ℕ). v * stride (tasks_in k)) all)
      (subst (λ (t : Tasks). AreFrom k (edges_of t - t.loops) t.loops ps) (sym s.start.tasks) h)
