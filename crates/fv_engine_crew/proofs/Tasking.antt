-- The lanes and cells of a task, between the parcels that it takes and those that it leaves.
use Rattle.std.proofs.Common.{◌≡◌, ℕ, suc, ◌+◌, ◌-◌, ◌*◌, ◌<◌, ◌≤◌, List, ◌++◌, length, map, get_or, sym, ap, ◌∙◌, subst, refl, arith, min, inl, inr}
use Rattle.std.specs.Prelude.{slice_index}
use Rattle.std.proofs.Math.Logic.{∥∥₁_elim}
use Rattle.std.proofs.lemmas.Bool.{cases_lt}
use Rattle.std.proofs.lemmas.List.{length-append, length-map, get_or_append_left, get_or-append_right, get_or-map}
use Rattle.std.proofs.Math.Nat.{min-eq_left, min-eq_right, min-le_right, suc-mul, ℕ_set}
use Rattle.fv_base.proofs.lemmas.Lists.{length_table}
use Rattle.fv_loopcode.specs.headline.Lanes.{Lane, lane_of, no_lane}
use Rattle.fv_split_plan.specs.headline.View.{PlanView}
use Rattle.fv_loopcode.specs.Obeys.{Content, Holds, HoldsJust}
use Rattle.fv_lines.specs.Seen.{lane_seen}
use Rattle.fv_lines.specs.Writer.{written_by, shape_of}
use Rattle.fv_lines.specs.declared.seen.Seen.{Seen}
use Rattle.fv_lines.specs.declared.writer.LaneWriter.{LaneWriter}
use Rattle.fv_engine_codes.specs.Lanes.{lane_open, WriterRest, rest_of_writer, CellsRest, rest_of_cells}
use Rattle.fv_engine_codes.specs.Cells.{AreCellsPlaced, cells_of}
use Rattle.fv_engine_codes.specs.declared.loop_cells.LoopCells.{LoopCells}
use Rattle.fv_engine_codes.specs.Plans.{own_lanes, locals_of, lanes_of_all, sources_of}
use Rattle.fv_engine_crew.specs.Contents.{tasks_in, upto, IsContentOf, IsRealStart, SameWriter, AreWritersOf, AreSeenOf, AreCellsOf}
use Rattle.fv_engine_crew.specs.inner.Turns.{Before, After}
use Rattle.fv_engine_crew.specs.declared.start.Start.{Start}
use Rattle.fv_engine_crew.proofs.lemmas.Handing.{element}

-- what a task's places hold before it, from its parcels
pub before_of : (k : Start) (j v : ℕ) (ws : List LaneWriter) (ss : List Seen) (cs : LoopCells) → AreWritersOf k (own_lanes k.plan.now j) v ws
    → AreSeenOf k (lanes_of_all k.plan.now (sources_of (tasks_in k) j)) (v + 1) ss → AreCellsOf k j v cs
    → Before k j v (record { lanes = map lane_open ws ++ map lane_seen ss; tables = cs.plan.now.tables; cells = cells_of cs })
before_of k j v ws ss cs a b c =
    let own : List ℕ = own_lanes k.plan.now j in
    let rest : List ℕ = lanes_of_all k.plan.now (sources_of (tasks_in k) j) in
    let fs : List Lane = map lane_open ws in
    let gs : List Lane = map lane_seen ss in
    let long_fs : length fs ≡ length own = length-map ws lane_open ∙ a.count in
    let long_gs : length gs ≡ length rest = length-map ss lane_seen ∙ b.count in
    record {
      long = omega (arith, length-append fs gs, length-append own rest, long_fs, long_gs);
      mine = λ f d i m.
          let w : LaneWriter = element ws i (omega (arith, m, a.count)) in
          let is : lane_of (fs ++ gs) i ≡ lane_open (get_or ws i w) =
          get_or_append_left fs gs no_lane i (omega (arith, m, long_fs)) ∙ get_or-map lane_open ws i w no_lane (omega (arith, m, a.count)) in
          subst (λ (l : ℕ). HoldsJust f l (upto k v) (k.frames - upto k v) (lane_of (fs ++ gs) i)) (sym (get_or_append_left own rest 0 i m))
          (subst (λ (x : Lane). HoldsJust f (get_or own i 0) (upto k v) (k.frames - upto k v) x) (sym is) ((a.each i w m).holds f d));
      seen = λ f d i le m.
          let n : i - length own < length rest = omega (arith, le, m, length-append own rest) in
          let s : Seen = element ss (i - length own) (omega (arith, n, b.count)) in
          let is : lane_of (fs ++ gs) i ≡ lane_seen (get_or ss (i - length own) s) =
          get_or-append_right fs gs (length own) i no_lane long_fs le ∙ get_or-map lane_seen ss (i - length own) s no_lane (omega (arith, n, b.count)) in
          let next : v + 1 ≡ suc v = omega arith in
          subst (λ (u : ℕ). Holds f (slice_index (locals_of k.plan.now (tasks_in k) j) i) (upto k u) (lane_of (fs ++ gs) i)) next
          (subst (λ (l : ℕ). Holds f l (upto k (v + 1)) (lane_of (fs ++ gs) i)) (sym (get_or-append_right own rest (length own) i 0 refl le))
          (subst (λ (x : Lane). Holds f (get_or rest (i - length own) 0) (upto k (v + 1)) x) (sym is) (((b.each (i - length own) s n).holds f d).holds)));
      tables = ap (λ (p : PlanView). p.tables) c.plan;
      count = length_table (length cs.plan.now.cells) _ ∙ ap (λ (p : PlanView). length p.cells) c.plan;
      cells = c.holds;
    }

-- what was written is what a writer's list has after its history
written_is : (w : LaneWriter) (h n : ℕ) → (shape_of w).history ≡ h → length (lane_open w).items ≡ h + n → written_by w ≡ n
written_is w h n e just = omega (arith, e, just, w.count.0, length-append w.high.front.now w.low.front.now)

-- the same writer after it
same_after : (old new d : LaneWriter) → rest_of_writer new ≡ rest_of_writer old → SameWriter old d → SameWriter new d
same_after old new d e s = record {
  part = ap (λ (r : WriterRest). r.part) e ∙ s.part;
  whole = ap (λ (r : WriterRest). r.outer.whole) e ∙ s.whole;
  high = ap (λ (r : WriterRest). r.outer.high) e ∙ s.high;
  history = ap (λ (r : WriterRest). r.shape.history) e ∙ s.history;
  block = ap (λ (r : WriterRest). r.shape.block) e ∙ s.block;
  len = ap (λ (r : WriterRest). r.shape.len) e ∙ s.len;
  frames = ap (λ (r : WriterRest). r.frames) e ∙ s.frames;
}

-- its writers after it
pub after_of : (k : Start) (j v : ℕ) (ws us : List LaneWriter) (ss : List Seen) (cs : LoopCells) → ∥ IsRealStart k ∥₁
    → AreWritersOf k (own_lanes k.plan.now j) v ws → map rest_of_writer us ≡ map rest_of_writer ws
    → After k j v (record { lanes = map lane_open us ++ map lane_seen ss; tables = cs.plan.now.tables; cells = cells_of cs })
    → AreWritersOf k (own_lanes k.plan.now j) (suc v) us
after_of k j v ws us ss cs real a kept after =
    let own : List ℕ = own_lanes k.plan.now j in
    let rest : List ℕ = lanes_of_all k.plan.now (sources_of (tasks_in k) j) in
    let fs : List Lane = map lane_open us in
    let gs : List Lane = map lane_seen ss in
    let count : length us ≡ length own = sym (length-map us rest_of_writer) ∙ ap length kept ∙ length-map ws rest_of_writer ∙ a.count in
    record {
      count = count;
      each = λ i d m.
          let u : LaneWriter = get_or us i d in
          let w : LaneWriter = get_or ws i d in
          let r : WriterRest = rest_of_writer d in
          let same : rest_of_writer u ≡ rest_of_writer w =
          sym (get_or-map rest_of_writer us i d r (omega (arith, m, count))) ∙ ap (λ (rs : List WriterRest). get_or rs i r) kept
          ∙ get_or-map rest_of_writer ws i d r (omega (arith, m, a.count)) in
          let is : lane_of (fs ++ gs) i ≡ lane_open u =
          get_or_append_left fs gs no_lane i (omega (arith, m, count, length-map us lane_open))
          ∙ get_or-map lane_open us i d no_lane (omega (arith, m, count)) in
          let holds : (f : Content) → IsContentOf k f → HoldsJust f (get_or own i 0) (upto k (suc v)) (k.frames - upto k (suc v)) (lane_open u) = λ f c.
          subst (λ (x : Lane). HoldsJust f (get_or own i 0) (upto k (suc v)) (k.frames - upto k (suc v)) x) is
          (subst (λ (l : ℕ). HoldsJust f l (upto k (suc v)) (k.frames - upto k (suc v)) (lane_of (fs ++ gs) i))
          (get_or_append_left own rest 0 i m) (after.mine f c i m)) in
          record {
            same = λ b. same_after w u (get_or k.lanes.value.items (get_or own i 0) b) same ((a.each i d m).same b);
            written = ∥∥₁_elim real (ℕ_set (written_by u) (upto k (suc v))) (λ r.
                let h = holds r.content (record { obeys = r.obeys; begins = r.begins }) in written_is u (r.content.history (get_or own i 0))
                (upto k (suc v)) h.holds.history h.just);
            holds = holds;
          };
    }

-- its cells after it
pub cells_after_of : (k : Start) (j v : ℕ) (old new : LoopCells) (lanes : List Lane) → AreCellsOf k j v old → rest_of_cells new ≡ rest_of_cells old
    → AreCellsPlaced new → After k j v (record { lanes = lanes; tables = new.plan.now.tables; cells = cells_of new }) → AreCellsOf k j (suc v) new
cells_after_of k j v old new lanes a kept placed after = record {
  plan = ap (λ (r : CellsRest). r.plan) kept ∙ a.plan;
  places = ap (λ (r : CellsRest). r.places) kept ∙ a.places;
  loop_no = ap (λ (r : CellsRest). r.loop_no) kept ∙ a.loop_no;
  placed = placed;
  room = omega (arith, a.room, ap (λ (r : CellsRest). r.count) kept);
  holds = after.cells;
}

-- no fewer samples lie before the next vector
pub upto_next : (v n f : ℕ) → min (v * n) f ≤ min (suc v * n) f
upto_next v n f =
    let more : suc v * n ≡ v * n + n = suc-mul v n in
    elim (cases_lt f (suc v * n)) [
      | inl short ↦ let a : min (suc v * n) f ≡ f = min-eq_right (omega (arith, short)) in omega (arith, a, min-le_right (v * n) f)
      | inr long ↦
          let a : min (suc v * n) f ≡ suc v * n = min-eq_left (omega (arith, long)) in
          let b : min (v * n) f ≡ v * n = min-eq_left (omega (arith, long, more)) in
          omega (arith, a, b, more)
    ]
