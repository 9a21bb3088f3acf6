-- One block of an engine: what its steps ask for, and what they leave.
use Rattle.std.proofs.Common.{◌≡◌, ℕ, ◌+◌, ◌*◌, ◌<◌, ◌≤◌, ℤ, ◌&&◌, ◌||◌, ◌==◌, List, [], length, map, All, refl, sym}
use Rattle.std.proofs.Common.{ap, ap₂, ◌∙◌, subst, arith, mul_comm}
use Rattle.std.proofs.lemmas.List.{get_or_default}
use Rattle.fv_signal.specs.Words.{argument}
use Rattle.fv_base.proofs.lemmas.Lists.{length_table}
use Rattle.fv_signal.specs.headline.Value.{value, Graph as Signals}
use Rattle.fv_outside.specs.headline.Tasks.{Tasks, reads_loop, reads_task}
use Rattle.fv_outside.specs.Tasks.{task_count}
use Rattle.fv_outside.specs.headline.Journal.{IsOrdered}
use Rattle.fv_outside.specs.declared.gate.Line.{Line}
use Rattle.fv_outside.specs.declared.tasks.Task.{Task}
use Rattle.fv_graph.specs.Graph.{Graph}
use Rattle.fv_loopcode.specs.headline.Code.{NamesHeld}
use Rattle.fv_loopcode.specs.headline.State.{State}
use Rattle.fv_pool.specs.Region.{cells_of}
use Rattle.fv_lines.specs.Solo.{AreFramed}
use Rattle.fv_lines.specs.declared.shape.LaneState.{LaneState}
use Rattle.fv_split_plan.specs.headline.View.{PlanView}
use Rattle.fv_split_plan.specs.Rows.{lists_of}
use Rattle.fv_split_plan.specs.headline.Plans.{IsPlanOf}
use Rattle.fv_engine_tasks.specs.headline.Block.{vectors_of}
use Rattle.fv_engine_tasks.specs.Block.{Block, IsReal}
use Rattle.fv_engine_tasks.specs.Jobs.{IsJob}
use Rattle.fv_engine.specs.inner.Plans.{NamesThere, held_by, block_from}
use Rattle.fv_engine.specs.Stands.{EngineView, AreBegun, GoesOn, Standing}
use Rattle.fv_engine_crew.specs.Ran.{Ran}
use Rattle.fv_engine.specs.inner.Opening.{opening_of, AreSameLanes}
use Rattle.fv_engine.specs.Stored.{IsStored, view_of}
use Rattle.fv_engine.specs.Told.{tasks_told}
use Rattle.fv_engine.specs.declared.engine.Engine.TheInside.{Inside}
use Rattle.fv_engine.specs.declared.lanes.Lanes.{Lanes}
use Rattle.fv_engine.proofs.Made.{vectors_rise}
use Rattle.fv_engine.proofs.Jobs.{is_job, begun, ended}
use Rattle.fv_engine.proofs.Values.{block_in}
use Rattle.fv_engine.proofs.Real.{real, stands_on}
use Rattle.fv_engine.proofs.Goes.{with_state, goes_on}

-- as many held values as the code has steps
held_long : (g : Signals) (p : PlanView) → IsPlanOf g p → (controls : List ℤ) → length (held_by p controls) ≡ length p.held
held_long g p plan controls =
    ap length (plan.stands.held [] (λ k t. argument controls k) 0 (argument controls) (λ k n. refl))
    ∙ length_table (length p.held) (λ k. value g (plan.stands.names.held k) [] (λ k t. argument controls k) 0)

-- each output has a lane
pub outputs_there : (g : Signals) (p : PlanView) → IsPlanOf g p → All (λ l. l < length p.lanes) p.outputs
outputs_there g p plan k d i =
    subst (λ l. l < length p.lanes) (get_or_default p.outputs k 0 d i) (plan.stands.ends k (let q = plan.stands.outputs.0 in omega (arith, q, i))).1

-- the same tasks, whatever the order of the pairs
record AreAlike (g h : Tasks) : Type 0 where
  pub loops : g.loops ≡ h.loops
  pub vectors : g.vectors ≡ h.vectors
  pub pairs : (j i : ℕ) → reads_loop g.reads j i ≡ reads_loop h.reads j i

-- a journal in order is so whatever the order of the pairs
same_order : (g h : Tasks) (lines : List Line) → AreAlike g h → IsOrdered g lines → IsOrdered h lines
same_order g h lines same o = record {
  each_once = λ t l m. o.each_once t (omega (arith, same.loops, l)) (omega (arith, same.vectors, m));
  no_other = λ line c. let q = o.no_other line c in (omega (arith, same.loops, q.0), omega (arith, same.vectors, q.1));
  stamps = o.stamps;
  from_zero = o.from_zero;
  spans = o.spans;
  after_reads = λ a b c d r. o.after_reads a b c d (same_reads b.task a.task ∙ r);
  starts = o.starts;
}
  where
    same_reads : (t s : Task) → reads_task g t s ≡ reads_task h t s
    same_reads t s = ap (λ x. ((s.loop_no == t.loop_no) && ((s.vector + 1) == t.vector)) || (x && (s.vector == t.vector))) (same.pairs t.loop_no s.loop_no)

-- the block of an engine, by its channels and held values
pub same_block : (e : Inside) (frames : ℕ) (input controls : List ℤ) {channels : ℕ} {held : List ℤ}
    → channels ≡ e.sizes.channels → held ≡ held_by e.plan controls
    → block_from e.plan e.sizes.vector frames channels held input ≡ block_in (view_of e) frames controls input
same_block e frames input controls p q = ap₂ (λ (k : ℕ) (xs : List ℤ). block_from e.plan e.sizes.vector frames k xs input) p q

-- the engine with these lanes in place of its own
abbrev pub view_with : Inside → Lanes → EngineView
view_with e lanes = record (view_of e) {
  region = cells_of lanes.region;
  lengths = lanes.layout;
  starts = map (λ (s : LaneState). s.start) lanes.states.items;
  cells = lists_of lanes.lists.items;
}

-- a call of a stored engine: the frames, input and controls of a block, and the tasks with the vectors of n frames
pub record IsCalled (e : Inside) (v : EngineView) (frames : ℕ) (input controls : List ℤ) (n : ℕ) (t : Graph) : Type 0 where
  pub stored : IsStored e
  pub view_is : view_of e ≡ v
  pub size : (1 ≤ frames) × (frames ≤ v.block)
  pub input_long : length input ≡ frames * v.channels
  pub named : (k : ℕ) → NamesHeld v.plan.held k → k < length controls
  pub vectors : n ≡ vectors_of frames e.sizes.vector
  pub tasks : t ≡ record e.runner.tasks { tasks = record e.runner.tasks.tasks { vectors = n } }

module _ {e : Inside} {v : EngineView} {frames : ℕ} {input controls : List ℤ} {n : ℕ} {t : Graph} (call : IsCalled e v frames input controls n t) where
  abbrev inv : IsStored e
  inv = call.stored

  -- the vectors of the frames
  abbrev count : ℕ
  count = vectors_of frames e.sizes.vector

  high : frames ≤ e.sizes.block
  high = let q = ap (λ (x : EngineView). x.block) call.view_is in omega (arith, q, call.size.1)

  long : length input ≡ frames * e.sizes.channels
  long = call.input_long ∙ ap (λ (x : EngineView). frames * x.channels) (sym call.view_is)

  names : NamesThere e.plan e.sizes.channels (length controls)
  names = record {
    held = inv.standing.plan.names.held;
    inputs = inv.sizes.inputs;
    knobs = λ k h. call.named k (subst (λ (x : EngineView). NamesHeld x.plan.held k) call.view_is h);
  }

  is : t ≡ record e.runner.tasks { tasks = record e.runner.tasks.tasks { vectors = count } }
  is = call.tasks ∙ ap (λ m. record e.runner.tasks { tasks = record e.runner.tasks.tasks { vectors = m } }) call.vectors

  -- no more vectors than a whole block has
  pub few : n ≤ e.runner.tasks.most
  few =
      let q = vectors_rise frames e.sizes.block e.sizes.vector inv.sizes.vector_low high in
      omega (arith, q, inv.tasks_are.most_are, call.vectors)

  pub count_is : task_count t.tasks ≡ v.plan.loops * vectors_of frames v.vector
  count_is =
      ap (λ (g : Graph). task_count g.tasks) is ∙ ap (λ m. count * m) inv.tasks_are.loops ∙ mul_comm count e.plan.loops
      ∙ ap (λ (x : EngineView). x.plan.loops * vectors_of frames x.vector) call.view_is

  abbrev lengths : List ℕ
  lengths = e.lanes.layout

  -- the places as they open
  abbrev first : State
  first = opening_of e.plan.tables e.lanes frames

  many : length lengths ≡ length e.plan.lanes
  many = sym e.lanes.entries.0 ∙ inv.shapes.count

  is_begun : AreBegun (view_of e) frames first
  is_begun = begun (record { shapes_are = inv.shapes; many = many; starts = refl; cells = refl }) frames

  -- the tasks are those that a gate is told of
  alike : AreAlike t.tasks (tasks_told (view_of e) frames)
  alike = record {
    loops = ap (λ (g : Graph). g.tasks.loops) is ∙ inv.tasks_are.loops;
    vectors = ap (λ (g : Graph). g.tasks.vectors) is;
    pairs = λ j i. ap (λ (g : Graph). reads_loop g.tasks.reads j i) is ∙ inv.tasks_are.pairs j i;
  }

  -- no lane's block is shorter than these frames, and each lane has a part
  pub framed : AreFramed lengths e.lanes.shapes.items frames
  framed i l = let q = inv.shapes.blocks i (omega (arith, l, many)) in omega (arith, high, q)

  pub parts_many : length lengths ≡ length e.plan.lanes
  parts_many = many

  -- each of the plan's cells has a list
  pub cells_many : length e.lanes.lists.items ≡ length e.plan.cells
  cells_many = inv.lists

  -- as many held values as the code has steps
  pub many_held : length (held_by e.plan controls) ≡ length e.plan.held
  many_held = held_long inv.standing.graph e.plan inv.standing.plan controls

  module _ {b : Block} (block_is : b ≡ block_in (view_of e) frames controls input) where
    pub job : IsJob b t.tasks
    job = subst (λ (x : Block). IsJob x t.tasks) (sym block_is)
        (is_job e.plan e.sizes.vector frames e.sizes.channels (held_by e.plan controls) input t.tasks (record {
          graph = inv.standing.graph;
          plan = inv.standing.plan;
          some = inv.sizes.some;
          loops = alike.loops;
          pairs = alike.pairs;
          vectors = alike.vectors;
          vector_low = inv.sizes.vector_low;
          held_long = many_held;
          inputs = inv.sizes.inputs;
          input_long = long;
        }))

    -- the places that the block begins with are real
    pub first_is : IsReal b first
    first_is = subst (λ (x : Block). IsReal x first) (sym block_is) (real (view_of e) inv.standing frames input controls names first is_begun)

    -- it ran, and left these lanes
    module _ {lanes : Lanes} {lines : List Line} {output : List ℤ} (same : AreSameLanes e.lanes lanes)
        (ran : Ran t.tasks b lengths e.lanes.shapes.items first (cells_of lanes.region) lanes.states.items lanes.lists.items lines e.plan.outputs output) where
      abbrev cells : List ℤ
      cells = cells_of lanes.region

      abbrev starts : List ℕ
      starts = map (λ (s : LaneState). s.start) lanes.states.items

      abbrev lists : List (List ℤ)
      lists = lists_of lanes.lists.items

      -- the engine with these lanes has the parts that it had
      pub is_kept : with_state (view_of e) cells starts lists ≡ view_with e lanes
      is_kept = ap (λ (x : List ℕ). record (view_of e) { region = cells; lengths = x; starts = starts; cells = lists }) (sym same.layout)

      ran_so : Ran t.tasks (block_in (view_of e) frames controls input) lengths e.lanes.shapes.items first cells lanes.states.items lanes.lists.items lines
          e.plan.outputs output
      ran_so =
          subst (λ (x : Block). Ran t.tasks x lengths e.lanes.shapes.items first cells lanes.states.items lanes.lists.items lines e.plan.outputs output)
          block_is ran

      goes : GoesOn (view_of e) (with_state (view_of e) cells starts lists) frames input controls output
      goes = goes_on (record {
        names = names;
        some = inv.sizes.vector_low;
        loops = alike.loops;
        vectors = alike.vectors;
        begun = is_begun;
        ends = ran_so.ends;
        ended = ended (record { shapes_are = inv.shapes; many = many; starts = refl; cells = refl }) frames ran_so.now ran_so.next ran_so.items;
        samples = ran_so.samples;
      })

      pub leads_on : GoesOn v (view_with e lanes) frames input controls output
      leads_on =
          subst (λ (x : EngineView). GoesOn x (view_with e lanes) frames input controls output) call.view_is
          (subst (λ (x : EngineView). GoesOn (view_of e) x frames input controls output) is_kept goes)

      pub still_standing : Standing (view_with e lanes)
      still_standing =
          subst (λ (x : EngineView). Standing x) is_kept (stands_on (view_of e) inv.standing frames input controls cells starts lists output goes)

      pub ordered : IsOrdered (tasks_told (view_of e) frames) lines
      ordered = same_order t.tasks (tasks_told (view_of e) frames) lines alike ran.ends.journal

      pub counted : length lines ≡ task_count (tasks_told (view_of e) frames)
      counted = ran.ends.counted ∙ ap (λ n. n * t.tasks.loops) alike.vectors ∙ ap (λ n. count * n) alike.loops
