-- A block by a crew, from its first lane on to its last.
use Rattle.std.proofs.Common.{◌≡◌, ℕ, ◌+◌, ◌*◌, ◌<◌, List, length, map, All, refl, sym, ap, ◌∙◌, subst, arith, ℤ, pos}
use Rattle.std.specs.Prelude.{slice_index_or}
use Rattle.std.proofs.lemmas.List.{length-map}
use Rattle.fv_outside.specs.Tasks.{task_count}
use Rattle.fv_outside.specs.headline.Journal.{IsOrdered}
use Rattle.fv_outside.specs.declared.gate.Line.{Line}
use Rattle.std.specs.Prelude.{Vec}
use Rattle.std.specs.declared.alloc.Global.{Global}
use Rattle.fv_loopcode.specs.headline.Lanes.{Lane}
use Rattle.fv_loopcode.specs.headline.State.{State}
use Rattle.fv_split_plan.specs.Rows.{lists_of}
use Rattle.fv_lines.specs.Writer.{written_by, frames_of}
use Rattle.fv_lines.specs.declared.shape.LaneState.{LaneState}
use Rattle.fv_lines.specs.declared.writer.LaneWriter.{LaneWriter}
use Rattle.fv_lines.specs.Cut.{lengths_by, AreBegun, HoldEnds}
use Rattle.fv_engine_tasks.specs.headline.Block.{vectors_of}
use Rattle.fv_engine_tasks.specs.Block.{HoldUpTo, none_done, IsReal}
use Rattle.fv_engine_tasks.specs.Outputs.{CanRead, sample_of}
use Rattle.fv_engine_tasks.specs.Underway.{EndsBlock}
use Rattle.fv_engine_tasks.proofs.lemmas.Full.{IsDone, can_read}
use Rattle.fv_engine_codes.specs.Lanes.{lane_open}
use Rattle.fv_engine_crew.proofs.lemmas.Handing.{element}
use Rattle.fv_engine_crew.specs.declared.block.SpreadBlock.{SpreadBlock}
use Rattle.fv_engine_crew.specs.Ran.{Ran}
use Rattle.fv_engine_crew.specs.Spread.{block_in, tasks_of, IsSpread, MayRunOver, opening_of}
use Rattle.fv_engine_crew.specs.inner.Lanes.{state_of, AreOpen, AreWhole}
use Rattle.fv_engine_crew.proofs.Begun.{opening, later}
use Rattle.fv_engine_crew.proofs.Ended.{HaveEnded, next}

-- the lanes of a block that may run over these cells, as they begin
pub record Handed (b : SpreadBlock) (states : List LaneState) (cells : List ℤ) (rows : List (Vec ℤ Global)) (begun : List LaneWriter) : Type 0 where
  pub spread : IsSpread b
  pub over : MayRunOver b states cells rows
  pub began : AreBegun b.shapes.now states b.frames cells (length b.shapes.now) begun

-- the journal of a block, with a line for each task
pub record IsJournal (b : SpreadBlock) (lines : List Line) : Type 0 where
  pub ordered : IsOrdered (tasks_of b) lines
  pub counted : length lines ≡ task_count (tasks_of b)

module _ {b : SpreadBlock} {states : List LaneState} {cells : List ℤ} {rows : List (Vec ℤ Global)} {begun : List LaneWriter}
    (h : Handed b states cells rows begun) where
  first_is : opening_of b states cells rows ≡ state_of b.plan.now.tables begun rows
  first_is =
      let with : List Lane → State = λ ls. record { lanes = ls; tables = b.plan.now.tables; cells = lists_of rows } in
      ap with (sym (opening h.began))

  pub are_open : AreOpen (block_in b) b.plan.now.tables begun rows
  are_open = record {
    count = h.began.count ∙ h.spread.lanes;
    cells = h.over.many;
    unwritten = λ l d m. let i : l < length b.shapes.now = omega (arith, m, h.spread.lanes) in (h.began.each l (element b.shapes.now l i) d i).written;
    real = subst (IsReal (block_in b)) first_is h.over.real;
  }

  module _ {ws : List LaneWriter} {left_rows : List (Vec ℤ Global)} (whole : AreWhole (block_in b) b.plan.now.tables begun ws rows left_rows) where
    pub are_full : All (λ (w : LaneWriter). written_by w ≡ frames_of w) ws
    are_full i d l =
        let m : i < length begun = omega (arith, l, whole.same.count) in
        whole.full i d m ∙ sym (later h.began whole.same i d (omega (arith, m, h.began.count))).frames_are

    module _ {lines : List Line} (journal : IsJournal b lines) where
      pub ends : EndsBlock (tasks_of b) (block_in b) (opening_of b states cells rows) (state_of b.plan.now.tables ws left_rows) lines
      ends = record {
        vectors = λ j. vectors_of b.frames b.vector;
        all = λ j l. sym h.spread.job.vectors;
        long = length-map ws lane_open ∙ whole.same.count ∙ h.began.count ∙ h.spread.lanes;
        cells = length-map left_rows (λ (row : Vec ℤ Global). row.items) ∙ whole.count;
        holds = λ f obeys begins. whole.holds f obeys (subst (HoldUpTo (block_in b) f none_done) first_is begins);
        journal = journal.ordered;
        counted = journal.counted;
      }

      pub readable : (t : ℕ) → t < b.frames → All (CanRead (map lane_open ws) t) b.plan.now.outputs
      readable t m =
          let done : IsDone (tasks_of b) (block_in b) (opening_of b states cells rows) (state_of b.plan.now.tables ws left_rows) lines =
          record { job = h.spread.job; real = h.over.real; ends = ends } in
          can_read done t m b.plan.now.outputs h.spread.outputs

      -- what is then in the cells, the states and the output
      pub ran : {left : List LaneState} {after output : List ℤ} → HaveEnded b.shapes.now states b.frames cells begun ws left after → HoldEnds ws left
          → ((t j : ℕ) → t < b.frames → j < length b.plan.now.outputs → slice_index_or output (t * length b.plan.now.outputs + j) (pos 0)
          ≡ sample_of (map lane_open ws) t (slice_index_or b.plan.now.outputs j 0))
          → Ran (tasks_of b) (block_in b) (lengths_by b.shapes.now) b.shapes.now (opening_of b states cells rows) after left left_rows lines
          b.plan.now.outputs output
      ran e held samples = record { now = state_of b.plan.now.tables ws left_rows; ends = ends; next = next e held; items = refl; samples = samples }
