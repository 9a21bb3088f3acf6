-- What the writers and cells that come back hold: all vectors of the block, or none.
use Rattle.std.proofs.Common.{◌≡◌, ℕ, ◌-◌, ◌<◌, List, [], length, map, get_or, refl, sym, ap, ◌∙◌, subst, arith, true, ℤ}
use Rattle.std.specs.Prelude.{Vec, nat_lt, nat_eq}
use Rattle.std.proofs.lemmas.Bool.{lt-ltb, eq-eqb}
use Rattle.fv_graph.proofs.lemmas.Counts.{both_of}
use Rattle.std.specs.declared.alloc.Global.{Global}
use Rattle.std.proofs.lemmas.List.{length-map}
use Rattle.std.proofs.Math.Nat.{min-eq_right}
use Rattle.fv_loopcode.specs.headline.Lanes.{Lane, lane_of}
use Rattle.fv_loopcode.specs.headline.State.{list_at}
use Rattle.fv_loopcode.specs.headline.Obeys.{Place, OfLane, OfCells}
use Rattle.fv_loopcode.specs.Obeys.{Content, HoldsAt, HoldsJust}
use Rattle.fv_split_plan.specs.Rows.{lists_of}
use Rattle.fv_split_plan.specs.headline.View.{PlanView, cells_info}
use Rattle.fv_base.specs.headline.Lists.{table}
use Rattle.fv_base.proofs.lemmas.Lists.{table_same, table_items}
use Rattle.fv_loopcode.specs.Blocks.{before}
use Rattle.fv_lines.specs.Writer.{list_of}
use Rattle.fv_lines.specs.declared.writer.LaneWriter.{LaneWriter}
use Rattle.fv_engine_tasks.specs.headline.Block.{vectors_of}
use Rattle.fv_engine_tasks.specs.Block.{Block, ObeysBlock, HoldUpTo, none_done, IsReal}
use Rattle.fv_engine_tasks.specs.Jobs.{IsJob}
use Rattle.fv_engine_tasks.proofs.lemmas.Numbers.{enough}
use Rattle.fv_engine_codes.specs.Lanes.{lane_open}
use Rattle.fv_engine_crew.specs.Contents.{SameWriter, first_of, upto, IsContentOf}
use Rattle.fv_engine_crew.specs.declared.start.Start.{Start}
use Rattle.fv_engine_crew.proofs.lemmas.Handing.{element}
use Rattle.fv_engine_crew.specs.Collected.{AreAllWriters, AreAllCells}
use Rattle.fv_engine_crew.specs.declared.block.SpreadBlock.{SpreadBlock}
use Rattle.fv_engine_crew.specs.Spread.{block_in, tasks_of}
use Rattle.fv_engine_crew.specs.inner.Lanes.{state_of, AreOpen, IsStartOf, AreSame, AreWhole, AreUntouched}
use Rattle.fv_engine_crew.proofs.Parts.{same_numbers}
use Rattle.fv_engine_crew.proofs.Begun.{open_at}

-- a block that starts so
pub record Started (b : SpreadBlock) (begun : List LaneWriter) (lists : List (Vec ℤ Global)) (k : Start) : Type 0 where
  pub start : IsStartOf b begun lists k
  pub job : IsJob (block_in b) (tasks_of b)
  pub open_lanes : AreOpen (block_in b) b.plan.now.tables begun lists

module _ {sb : SpreadBlock} {begun : List LaneWriter} {lists : List (Vec ℤ Global)} {k : Start} (s : Started sb begun lists k) where
  abbrev b : Block
  b = block_in sb

  abbrev tables : List (List ℤ)
  tables = sb.plan.now.tables

  lanes_are : length k.plan.now.lanes ≡ b.plan.lanes
  lanes_are = ap (λ (x : Block). x.plan.lanes) s.start.block

  cells_are : length k.plan.now.cells ≡ b.plan.cells
  cells_are = ap (λ (x : Block). x.plan.cells) s.start.block

  many : length begun ≡ b.plan.lanes
  many = s.open_lanes.count

  -- the samples before a vector
  upto_is : (v : ℕ) → upto k v ≡ before b.vector b.frames v
  upto_is v = ap (λ (x : Block). before x.vector x.frames v) s.start.block

  -- what the places of the start hold
  first_is : first_of k ≡ state_of tables begun lists
  first_is =
      ap (λ (ws : List LaneWriter). state_of k.plan.now.tables ws k.cells.value.items) s.start.lanes
      ∙ ap (λ (p : PlanView). state_of p.tables begun k.cells.value.items) s.start.plan
      ∙ ap (state_of tables begun) s.start.cells

  -- a content of the block is one of the start
  content_is : (f : Content) → ObeysBlock b f → HoldUpTo b f none_done (state_of tables begun lists) → IsContentOf k f
  content_is f obeys begins = record {
    obeys = subst (λ (x : Block). ObeysBlock x f) (sym s.start.block) obeys;
    begins = subst (λ (x : Block). HoldUpTo x f none_done (first_of k)) (sym s.start.block)
        (subst (HoldUpTo b f none_done) (sym first_is) begins);
  }

  -- a lane of what comes back
  holds_at : {v : ℕ} {ws : List LaneWriter} → AreAllWriters k v ws → (f : Content) → ObeysBlock b f → HoldUpTo b f none_done (state_of tables begun lists)
      → (l : ℕ) → l < b.plan.lanes → HoldsJust f l (before b.vector b.frames v) (b.frames - before b.vector b.frames v) (lane_of (map lane_open ws) l)
  holds_at {v} {ws} a f obeys begins l m =
      let there : l < length ws = omega (arith, m, lanes_are, a.count) in
      let d : LaneWriter = element ws l there in
      subst (λ (x : Lane). HoldsJust f l (before b.vector b.frames v) (b.frames - before b.vector b.frames v) x) (sym (open_at ws l d there))
      (subst (λ (x : Block). HoldsJust f l (before x.vector x.frames v) (x.frames - before x.vector x.frames v) (lane_open (get_or ws l d))) s.start.block
      ((a.each l d (omega (arith, m, lanes_are))).holds f (content_is f obeys begins)))

  pub same : {v : ℕ} {ws : List LaneWriter} → AreAllWriters k v ws → AreSame begun ws
  same {v} {ws} a = record {
    count = a.count ∙ lanes_are ∙ sym many;
    each = λ l d m. subst (λ (xs : List LaneWriter). SameWriter (get_or ws l d) (get_or xs l d)) s.start.lanes
        ((a.each l d (omega (arith, m, lanes_are, many))).same d);
  }

  -- cells of what comes back
  cells_at : {v : ℕ} {rows : List (Vec ℤ Global)} → AreAllCells k v rows → (f : Content) → ObeysBlock b f
      → HoldUpTo b f none_done (state_of tables begun lists) → (i : ℕ) → i < b.plan.cells
      → list_at (lists_of rows) i ≡ f.cells i (before b.vector b.frames v)
  cells_at {v} {rows} a f obeys begins i m =
      a.each f (content_is f obeys begins) i (omega (arith, m, cells_are)) ∙ ap (f.cells i) (upto_is v)

  -- after all vectors
  pub whole : {ws : List LaneWriter} {rows : List (Vec ℤ Global)} → AreAllWriters k (vectors_of b.frames b.vector) ws
      → AreAllCells k (vectors_of b.frames b.vector) rows → AreWhole b tables begun ws lists rows
  whole {ws} {rows} a e = record {
    same = same a;
    full = λ l d m. (a.each l d (omega (arith, m, lanes_are, many))).written ∙ upto_is (vectors_of b.frames b.vector)
        ∙ min-eq_right (enough b.frames b.vector s.job.vector);
    count = e.count ∙ cells_are;
    holds = λ f obeys begins. record {
      holds = of_place (λ q. HoldsAt f q (before b.vector b.frames (vectors_of b.frames b.vector))
          (b.frames - before b.vector b.frames (vectors_of b.frames b.vector)) (state_of tables ws rows))
          (λ j l own. holds_at a f obeys begins l (s.job.apart.there j (OfLane l) own))
          (λ j i own. cells_at e f obeys begins i (s.job.apart.there j (OfCells i) own));
      tables = begins.tables;
    };
  }
    where
      of_place : (P : Place → Type 0) → ((j l : ℕ) → (b.plan.loops.roles j).own (OfLane l) ≡ true → P (OfLane l))
          → ((j i : ℕ) → (b.plan.loops.roles j).own (OfCells i) ≡ true → P (OfCells i))
          → (j : ℕ) (q : Place) → (b.plan.loops.roles j).own q ≡ true → P q
      of_place P h g j (OfLane l) own = h j l own
      of_place P h g j (OfCells i) own = g j i own

  -- before the first
  pub untouched : {ws : List LaneWriter} → AreAllWriters k 0 ws → AreUntouched begun ws
  untouched {ws} a = record {
    same = same a;
    lists = λ l d m.
        let real : IsReal b (state_of tables begun lists) = s.open_lanes.real in
        let f : Content = real.content in
        let there : l < b.plan.lanes = omega (arith, m, many) in
        let o = s.job.owned l there in
        let now : HoldsJust f l (before b.vector b.frames 0) (b.frames - before b.vector b.frames 0) (lane_open (get_or ws l d)) =
        subst (λ (x : Lane). HoldsJust f l (before b.vector b.frames 0) (b.frames - before b.vector b.frames 0) x)
        (open_at ws l d (omega (arith, there, lanes_are, a.count))) (holds_at a f real.obeys real.begins l there) in
        let was : HoldsJust f l (before b.vector b.frames 0) (b.frames - before b.vector b.frames 0) (lane_open (get_or begun l d)) =
        subst (λ (x : Lane). HoldsJust f l (before b.vector b.frames 0) (b.frames - before b.vector b.frames 0) x)
        (open_at begun l d m) (real.begins.holds o.0 (OfLane l) o.2) in
        let long : length (list_of (get_or ws l d)) ≡ length (list_of (get_or begun l d)) = now.just ∙ sym was.just in
        same_numbers (list_of (get_or ws l d)) (list_of (get_or begun l d)) long
        (λ n i. now.holds.same n i ∙ sym (was.holds.same n (omega (arith, i, long))));
  }

  -- all cells are of a loop
  owned_cells : (i : ℕ) → i < b.plan.cells → (j : ℕ) × ((b.plan.loops.roles j).own (OfCells i) ≡ true)
  owned_cells i l =
      let o : ℕ = (cells_info sb.plan.now i).owner in
      (o, both_of (nat_lt i (length sb.plan.now.cells)) (nat_eq o o) (lt-ltb i (length sb.plan.now.cells) l) (eq-eqb o o refl))

  pub cells_untouched : {rows : List (Vec ℤ Global)} → AreAllCells k 0 rows → lists_of rows ≡ lists_of lists
  cells_untouched {rows} e =
      let real : IsReal b (state_of tables begun lists) = s.open_lanes.real in
      let f : Content = real.content in
      let long : length (lists_of rows) ≡ b.plan.cells = length-map rows (λ (row : Vec ℤ Global). row.items) ∙ e.count ∙ cells_are in
      let was : length (lists_of lists) ≡ b.plan.cells = length-map lists (λ (row : Vec ℤ Global). row.items) ∙ s.open_lanes.cells in
      sym (table_items (lists_of rows) [])
      ∙ ap (λ (n : ℕ). table n (list_at (lists_of rows))) (long ∙ sym was)
      ∙ table_same (length (lists_of lists)) (list_at (lists_of rows)) (list_at (lists_of lists)) (λ i m.
      let inside : i < b.plan.cells = omega (arith, m, was) in
      let o = owned_cells i inside in
      cells_at e f real.obeys real.begins i inside ∙ sym (real.begins.holds o.0 (OfCells i) o.1))
      ∙ table_items (lists_of lists) []
