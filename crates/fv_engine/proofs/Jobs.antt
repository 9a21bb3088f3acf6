-- The job of a block of an engine.
use Rattle.std.proofs.Common.{◌≡◌, ℕ, ◌*◌, ◌<◌, ◌≤◌, ℤ, List, length, map, take, drop, refl, sym, ap, ◌∙◌, arith, nat_lt}
use Rattle.std.proofs.Common.{nat_eq, lt-ltb, eq-eqb}
use Rattle.std.specs.Prelude.{slice_index}
use Rattle.fv_base.proofs.lemmas.Lists.{get_or_table, length_table}
use Rattle.fv_signal.specs.headline.Value.{Graph}
use Rattle.fv_outside.specs.headline.Tasks.{Tasks, reads_loop}
use Rattle.fv_graph.proofs.lemmas.Counts.{both_of}
use Rattle.fv_loopcode.specs.headline.Code.{NamesInput}
use Rattle.fv_loopcode.specs.headline.Lanes.{Lane, lane_of, no_lane}
use Rattle.fv_loopcode.specs.headline.State.{State}
use Rattle.std.specs.Global.{Vec}
use Rattle.fv_split_plan.specs.Rows.{lists_of}
use Rattle.fv_engine.specs.inner.Opening.{opening_over}
use Rattle.fv_pool.specs.Layout.{part}
use Rattle.fv_lines.specs.Hold.{from_start}
use Rattle.fv_lines.specs.Solo.{opening_lanes, history_at, held_at}
use Rattle.fv_lines.specs.declared.shape.LaneShape.{LaneShape}
use Rattle.fv_lines.specs.declared.shape.LaneState.{LaneState}
use Rattle.fv_split_plan.specs.headline.View.{PlanView, lane_info, code_of}
use Rattle.fv_split_plan.specs.headline.Plans.{IsPlanOf}
use Rattle.fv_split_plan.proofs.lemmas.TaskLemmas.{plans_are_apart}
use Rattle.fv_engine_tasks.specs.headline.Block.{vectors_of}
use Rattle.fv_engine_tasks.specs.Jobs.{IsJob}
use Rattle.fv_engine.specs.inner.Plans.{block_from}
use Rattle.fv_engine.specs.Stands.{EngineView, AreBegun, AreEnded, history_in}
use Rattle.fv_engine.specs.Made.{AreShapes}
use Rattle.fv_engine.proofs.Names.{names_within}

-- what the tasks of a block of a plan meet
pub record Fits (p : PlanView) (vector frames channels : ℕ) (held input : List ℤ) (t : Tasks) : Type 0 where
  pub graph : Graph
  pub plan : IsPlanOf graph p
  pub some : 0 < p.loops
  pub loops : t.loops ≡ p.loops
  pub pairs : (j i : ℕ) → reads_loop t.reads j i ≡ reads_loop p.reads j i
  pub vectors : t.vectors ≡ vectors_of frames vector
  pub vector_low : 1 ≤ vector
  pub held_long : length held ≡ length p.held
  pub inputs : (j i : ℕ) → NamesInput (code_of p j) i → i < channels
  pub input_long : length input ≡ frames * channels

pub is_job : (p : PlanView) (vector frames channels : ℕ) (held input : List ℤ) (t : Tasks) → Fits p vector frames channels held input t
    → IsJob (block_from p vector frames channels held input) t
is_job p vector frames channels held input t f = record {
  some = omega (arith, f.some, f.loops);
  loops = f.loops;
  vectors = f.vectors;
  same = λ k i. sym (f.pairs k i);
  lower = λ k i e. (f.plan.reads.lower k i (sym (f.pairs k i) ∙ e)).0;
  apart = plans_are_apart p f.plan.reads;
  owned = λ l m.
      let j = (lane_info p l).owner in
      (j, f.plan.stands.loops.owners l m, both_of (nat_lt l (length p.lanes)) (nat_eq j j) (lt-ltb l (length p.lanes) m) (eq-eqb j j refl));
  vector = f.vector_low;
  within = λ j m. names_within (length held) channels (code_of p j) (λ k n. omega (arith, f.held_long, f.plan.names.held j k n)) (f.inputs j);
  input = omega (arith, f.input_long);
}

-- the shapes and states of an engine's lanes, and the lists of its cells
pub record AreListed (e : EngineView) (block : ℕ) (shapes : List LaneShape) (states : List LaneState) (lists : List (Vec ℤ)) : Type 0 where
  pub shapes_are : AreShapes e.plan block shapes
  pub many : length e.lengths ≡ length e.plan.lanes
  pub starts : e.starts ≡ map (λ (s : LaneState). s.start) states
  pub cells : e.cells ≡ lists_of lists

-- places as they open, and as they end, by what the engine keeps
module _ {e : EngineView} {block : ℕ} {shapes : List LaneShape} {states : List LaneState} {lists : List (Vec ℤ)}
    (listed : AreListed e block shapes states lists) (n : ℕ) where
  held_is : (l : ℕ) → l < length e.plan.lanes → held_at e.lengths states (history_at shapes l) l e.region ≡ history_in e l
  held_is l i =
      ap (λ h. held_at e.lengths states h l e.region) (listed.shapes_are.histories l i)
      ∙ ap (λ (xs : List ℕ). take (lane_info e.plan l).history (from_start (slice_index xs l) (part e.lengths l e.region))) (sym listed.starts)

  pub begun : AreBegun e n (opening_over e.plan.tables e.lengths shapes states n e.region lists)
  begun = record {
    count = length_table (length e.lengths) opening ∙ listed.many;
    histories = λ l i. ap (λ (x : Lane). x.history) (lane_is l i) ∙ listed.shapes_are.histories l i;
    items = λ l i. ap (λ (x : Lane). x.items) (lane_is l i) ∙ held_is l i;
    room = λ l i. let q = ap (λ (x : Lane). x.room) (lane_is l i) in omega (arith, q);
    tables = refl;
    cells = sym listed.cells;
  }
    where
      opening : ℕ → Lane
      opening i = record { history = history_at shapes i; items = held_at e.lengths states (history_at shapes i) i e.region; room = n }

      lane_is : (l : ℕ) → l < length e.plan.lanes → lane_of (opening_lanes e.lengths shapes states n e.region) l ≡ opening l
      lane_is l i = get_or_table (length e.lengths) opening l no_lane (omega (arith, listed.many, i))

  pub ended : (now : State)
      → ((i : ℕ) → i < length e.lengths → held_at e.lengths states (history_at shapes i) i e.region ≡ drop n (lane_of now.lanes i).items)
      → now.cells ≡ lists_of lists → AreEnded e n now
  ended now next items = record {
    items = λ l i. sym (held_is l i) ∙ next l (omega (arith, listed.many, i));
    cells = items ∙ sym listed.cells;
  }
