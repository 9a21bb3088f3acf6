-- What several workers need, and what they leave.
use Rattle.std.proofs.Common.{◌≡◌, ℕ, ◌<◌, ℤ, List, length, sum, sym, ap, ◌∙◌, subst, arith}
use Rattle.std.proofs.lemmas.List.{ext_get_or, length-map}
use Rattle.fv_base.proofs.lemmas.Lists.{table_same}
use Rattle.fv_outside.specs.headline.Tasks.{Tasks}
use Rattle.fv_pool.specs.Region.{cells_of}
use Rattle.fv_loopcode.specs.headline.Lanes.{Lane}
use Rattle.fv_engine.specs.inner.Opening.{opening_over}
use Rattle.fv_lines.specs.Solo.{held_at, history_at, opening_lanes, AreHeld, AreFramed}
use Rattle.fv_lines.specs.declared.shape.LaneShape.{LaneShape}
use Rattle.fv_lines.specs.declared.shape.LaneState.{LaneState}
use Rattle.fv_engine_crew.specs.Cut.{lengths_by}
use Rattle.fv_split_plan.specs.headline.View.{PlanView}
use Rattle.fv_engine_tasks.specs.Block.{IsReal}
use Rattle.fv_engine_crew.specs.Spread.{block_in, MayRunOver}
use Rattle.fv_engine_crew.specs.declared.block.SpreadBlock.{SpreadBlock}
use Rattle.fv_engine.specs.Crews.{IsCrewOf}
use Rattle.fv_engine.specs.inner.Opening.{MayRun}
use Rattle.fv_engine.specs.declared.crew_codes.CrewCodes.{CrewCodes}
use Rattle.fv_engine.specs.declared.lanes.Lanes.{Lanes}
use Rattle.fv_engine.specs.declared.runner.TaskRunner.{TaskRunner}

-- the parts have the lengths of the shapes
pub lengths_are : (l : Lanes) → l.layout ≡ lengths_by l.shapes.items
lengths_are l =
    let many : length l.layout ≡ length (lengths_by l.shapes.items) =
    sym l.entries.0 ∙ sym (length-map l.shapes.items (λ (s : LaneShape). s.len)) in
    ext_get_or 0 l.layout (lengths_by l.shapes.items) many (λ i m. (l.held i m).0)

-- what is lent of lanes to a crew are their shapes, states and cells
pub record AreLent (l : Lanes) (shapes : List LaneShape) (states : List LaneState) (cells : List ℤ) : Type 0 where
  pub shapes_are : shapes ≡ l.shapes.items
  pub states_are : states ≡ l.states.items
  pub cells_are : cells ≡ cells_of l.region

module _ {l : Lanes} {shapes : List LaneShape} {states : List LaneState} {cells : List ℤ} (lent : AreLent l shapes states cells) where
  by_shapes : lengths_by shapes ≡ l.layout
  by_shapes = ap lengths_by lent.shapes_are ∙ sym (lengths_are l)

  -- what holds of the lanes holds of what is lent, and the other way round
  module _ (P : List ℕ → List LaneShape → List LaneState → List ℤ → Type 0) where
    pub of_lent : P l.layout l.shapes.items l.states.items (cells_of l.region) → P (lengths_by shapes) shapes states cells
    of_lent p =
        subst (λ x. P x shapes states cells) (sym by_shapes) (subst (λ x. P l.layout x states cells) (sym lent.shapes_are)
        (subst (λ x. P l.layout l.shapes.items x cells) (sym lent.states_are)
        (subst (λ x. P l.layout l.shapes.items l.states.items x) (sym lent.cells_are) p)))

    pub of_lanes : P (lengths_by shapes) shapes states cells → P l.layout l.shapes.items l.states.items (cells_of l.region)
    of_lanes p =
        subst (λ x. P l.layout l.shapes.items l.states.items x) lent.cells_are
        (subst (λ x. P l.layout l.shapes.items x cells) lent.states_are
        (subst (λ x. P l.layout x states cells) lent.shapes_are (subst (λ x. P x shapes states cells) by_shapes p)))

-- a crew may run a block over what is lent to it
pub may_run_over : (b : SpreadBlock) {l : Lanes} {r : TaskRunner} {states : List LaneState} {cells : List ℤ} → AreLent l b.shapes.now states cells
    → MayRun (block_in b) b.plan.now.tables l r → MayRunOver b states cells l.lists.items
may_run_over b {l} lent may = record {
  count = ap length lent.states_are ∙ l.entries.1 ∙ sym l.entries.0 ∙ sym (ap length lent.shapes_are);
  room = let k = ap sum (by_shapes lent) in let n = ap length lent.cells_are in omega (arith, k, n, l.entries.3);
  held_there = of_lent lent (λ lengths shapes states cells. AreHeld lengths shapes states) l.held;
  framed = of_lent lent (λ lengths shapes states cells. AreFramed lengths shapes b.frames) may.framed;
  many = may.lists;
  real = of_lent lent (λ ls ss st cs. IsReal (block_in b) (opening_over b.plan.now.tables ls ss st b.frames cs l.lists.items)) may.real;
}

-- where each lane has the history that it had, the lanes open as before
pub opens_alike : (lengths : List ℕ) (shapes : List LaneShape) (n : ℕ) (states after : List LaneState) (cells left : List ℤ)
    → ((i : ℕ) → i < length lengths → held_at lengths after (history_at shapes i) i left ≡ held_at lengths states (history_at shapes i) i cells)
    → opening_lanes lengths shapes after n left ≡ opening_lanes lengths shapes states n cells
opens_alike lengths shapes n states after cells left same =
    table_same (length lengths) (lane after left) (lane states cells)
    (λ i l. ap (λ (items : List ℤ). record { history = history_at shapes i; items = items; room = n }) (same i l))
  where
    lane : List LaneState → List ℤ → ℕ → Lane
    lane states cells i = record { history = history_at shapes i; items = held_at lengths states (history_at shapes i) i cells; room = n }

-- a crew's codes are the same whatever the number of vectors
pub other_vectors : (p : PlanView) (g : Tasks) (n : ℕ) (c : CrewCodes) → IsCrewOf p g c → IsCrewOf p (record g { vectors = n }) c
other_vectors p g n c is = record {
  codes = record {
    count = is.codes.count;
    each = λ j l. let q = is.codes.each j l in record { place = q.place; places = q.places; is = q.is };
  };
  counts = record {
    count = is.counts.count;
    each = λ j d l. let q = is.counts.each j d l in record { own = q.own; seen = q.seen };
  };
  cells = is.cells;
  workers = is.workers;
  loops = is.loops;
}
