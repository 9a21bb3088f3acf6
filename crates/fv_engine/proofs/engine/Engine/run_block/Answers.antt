use Rattle.std.proofs.Common.{◌≡◌, ◌<◌, true, ℤ, List, length, map, refl, sym, ap, ◌∙◌, subst, arith}
use Rattle.std.specs.Global.{Vec}
use Rattle.std.specs.Vec.{with_items}
use Rattle.std.proofs.lemmas.List.{with_items_is}
use Rattle.std.specs.Prelude.{ℕ, All, IfSome}
use Rattle.std.proofs.lemmas.Option.{IfSome_then}
use Rattle.fv_outside.specs.headline.Tasks.{Tasks, reads_loop}
use Rattle.fv_outside.specs.Tasks.{task_count}
use Rattle.fv_outside.specs.headline.Journal.{BlockEntry, IsOrdered}
use Rattle.fv_outside.specs.declared.gate.Line.{Line}
use Rattle.fv_outside.specs.declared.tasks.Reads.{Reads}
use Rattle.fv_graph.specs.Graph.{Graph}
use Rattle.fv_loopcode.specs.headline.Code.{NamesHeld}
use Rattle.fv_pool.specs.Region.{cells_of}
use Rattle.fv_split_plan.specs.Rows.{lists_of}
use Rattle.fv_lines.specs.declared.shape.LaneShape.{LaneShape}
use Rattle.fv_lines.specs.declared.shape.LaneState.{LaneState}
use Rattle.fv_loopcode_machine.specs.declared.scratch.Scratch.{Scratch}
use Rattle.fv_engine_tasks.specs.headline.Block.{vectors_of}
use Rattle.fv_engine_tasks.specs.Jobs.{HaveScratch}
use Rattle.fv_engine_crew.specs.Contents.{parts_of}
use Rattle.fv_engine.specs.inner.Plans.{held_by, block_from}
use Rattle.fv_engine.specs.Stands.{EngineView}
use Rattle.fv_engine.specs.Stored.{view_of}
use Rattle.fv_engine.specs.Crews.{IsCrewOf}
use Rattle.fv_engine.specs.Made.{AreShapes, AreTasksOf}
use Rattle.fv_engine.specs.Told.{tasks_told, IsEntry}
use Rattle.fv_engine.specs.declared.engine.Engine.TheInside.{Inside}
use Rattle.fv_engine.specs.declared.lanes.Lanes.{Lanes}
use Rattle.fv_engine.proofs.Values.{block_in}
use Rattle.fv_engine.proofs.Goes.{with_state}
use Rattle.fv_engine.proofs.Crews.{other_vectors}
use Rattle.fv_engine.proofs.Blocks.{IsCalled, few, framed, count_is, same_block, job, first_is, is_kept, leads_on}
use Rattle.fv_engine.proofs.Blocks.{still_standing, ordered, counted, outputs_there, many_held, parts_many, cells_many}
use Rattle.fv_engine.proofs.engine.Engine.run_block.Given.{Over}
use Rattle.fv_engine.proofs.engine.Engine.run_block.Goals.{After-set_vectors, After-from, After-run-spread}
use Rattle.fv_engine.proofs.engine.Engine.run_block.Goals as goal

-- the call
called : (g : Over) (c : After-set_vectors g)
    → IsCalled c.self.inside c.args.self.now c.args.frames c.args.input.now c.args.controls.now c.vectors-vectors.result c.set_vectors.new.self.tasks
called g c = record {
  stored = c.self.invariant;
  view_is = c.self.view_is;
  size = c.requires.frames;
  input_long = c.requires.input;
  named = c.requires.controls;
  vectors = c.vectors-vectors.ensures.value;
  tasks = c.set_vectors.ensures.tasks;
}

pub hold-requires-clause-controls : goal.hold-requires-clause-controls
hold-requires-clause-controls g c = λ k h. c.requires.controls k (subst (λ (x : EngineView). NamesHeld x.plan.held k) c.self.view_is h)

pub set_vectors-requires-clause-room : goal.set_vectors-requires-clause-room
set_vectors-requires-clause-room g c =
    let tasks = c.self.inside.runner.tasks in
    few (record {
      stored = c.self.invariant;
      view_is = c.self.view_is;
      size = c.requires.frames;
      input_long = c.requires.input;
      named = c.requires.controls;
      vectors = c.vectors-vectors.ensures.value;
      tasks = refl {a = record tasks { tasks = record tasks.tasks { vectors = c.vectors-vectors.result } }};
    })

pub hold-requires-clause-reads : goal.hold-requires-clause-reads
hold-requires-clause-reads g c = c.self.invariant.standing.plan.names.held_reads

pub run-spread-requires-clause-there : goal.run-spread-requires-clause-there
run-spread-requires-clause-there g c κs within =
    let standing = c.self.invariant.standing in outputs_there standing.graph c.self.inside.plan standing.plan

-- a crew's codes are the same whatever the number of vectors
crew_is : (g : Over) (c : After-set_vectors g) (t : Graph) → t ≡ c.set_vectors.new.self.tasks
    → IfSome c.self.inside.crew (λ x. IsCrewOf c.self.inside.plan t.tasks x)
crew_is g c t same =
    let inside = c.self.inside in let p = inside.plan in
    IfSome_then inside.crew c.self.invariant.crew
    (λ x h. subst (λ (n : Graph). IsCrewOf p n.tasks x) (sym (same ∙ c.set_vectors.ensures.tasks))
    (other_vectors p inside.runner.tasks.tasks c.vectors-vectors.result x h))

pub run-spread-requires-clause-crew : goal.run-spread-requires-clause-crew
run-spread-requires-clause-crew g c κs within = crew_is g (goal.at.run-spread-requires-clause-crew g c).After-set_vectors c.set_vectors.new.self.tasks refl

-- what the block is handed
module _ (g : Over) (c : After-from g) where
  abbrev inside : Inside
  inside = c.self.inside

  held_is : (with_items inside.held c.hold.new.held).items ≡ held_by inside.plan c.args.controls.now
  held_is = with_items_is inside.held c.hold.new.held (omega (arith, c.hold.auto.held, c.deref_mut.ensures.len, inside.held.ok.0)) ∙ c.hold.ensures

  block_is : block_from inside.plan inside.sizes.vector c.args.frames c.from.result c.deref.result.now c.args.input.now
      ≡ block_in (view_of inside) c.args.frames c.args.controls.now c.args.input.now
  block_is = same_block inside c.args.frames c.args.input.now c.args.controls.now c.from.ensures (c.deref.ensures.value ∙ held_is)

pub run-spread-requires-clause-may : goal.run-spread-requires-clause-may
run-spread-requires-clause-may g c κs within =
    let d = goal.at.run-spread-requires-clause-may g c in let call = called g d.After-set_vectors in let b = block_is g d.After-from in
    record {
      framed = framed call;
      count = parts_many call;
      lists = cells_many call;
      job = job call b;
      real = first_is call b;
      scratch = subst (λ (v : Vec Scratch). HaveScratch (parts_of c.self.inside.plan) v.items) (sym c.set_vectors.ensures.scratch) c.self.invariant.scratch;
      untold = c.set_vectors.ensures.lines;
    }

-- what it leaves
module _ (g : Over) (c : After-run-spread g) where
  abbrev old : Inside
  old = c.self.inside

  abbrev new : Lanes
  new = c.run-spread.new.self

  is_told : c.run-spread.new.runner.tasks ≡ record old.runner.tasks { tasks = record old.runner.tasks.tasks { vectors = c.vectors-vectors.result } }
  is_told = c.run-spread.ensures.runner.tasks ∙ c.set_vectors.ensures.tasks

  shapes : AreShapes old.plan old.sizes.block new.shapes.items
  shapes = subst (λ (v : Vec LaneShape). AreShapes old.plan old.sizes.block v.items) (sym c.run-spread.ensures.lanes.shapes) c.self.invariant.shapes

  tasks_are : AreTasksOf old.plan (vectors_of old.sizes.block old.sizes.vector) c.run-spread.new.runner.tasks
  tasks_are =
      let before = c.self.invariant.tasks_are in
      record {
        loops = ap (λ (x : Graph). x.tasks.loops) is_told ∙ before.loops;
        pairs = λ j k. ap (λ (x : Graph). reads_loop x.tasks.reads j k) is_told ∙ before.pairs j k;
        most_are = ap (λ (x : Graph). x.most) is_told ∙ before.most_are;
      }

pub invariant_of-self : goal.invariant_of-self
invariant_of-self g c =
    let d = goal.at.invariant_of-self g c in let b = d.After-from in let o = d.After-run-spread in let inv = c.self.invariant in
    let call = called g d.After-set_vectors in
    record {
      sizes = inv.sizes;
      shapes = shapes g o;
      lists = c.run-spread.ensures.lanes.lists ∙ inv.lists;
      tasks_are = tasks_are g o;
      scratch = c.run-spread.ensures.runner.scratch;
      held_long = ap length (held_is g b) ∙ many_held call;
      crew = crew_is g d.After-set_vectors c.run-spread.new.runner.tasks c.run-spread.ensures.runner.tasks;
      some_worker = inv.some_worker;
      asked = inv.asked;
      standing = still_standing call (block_is g b) c.run-spread.ensures.lanes c.run-spread.ensures.ran;
    }

pub returns-clause-same : goal.returns-clause-same
returns-clause-same g c =
    let d = goal.at.returns-clause-same g c in let lanes = c.run-spread.new.self in
    let kept = is_kept (called g d.After-set_vectors) (block_is g d.After-from) c.run-spread.ensures.lanes c.run-spread.ensures.ran in
    sym kept
    ∙ ap (λ (x : EngineView). with_state x (cells_of lanes.region) (map (λ (s : LaneState). s.start) lanes.states.items) (lists_of lanes.lists.items))
    c.self.view_is

pub returns-clause-goes_on : goal.returns-clause-goes_on
returns-clause-goes_on g c =
    let d = goal.at.returns-clause-goes_on g c in
    leads_on (called g d.After-set_vectors) (block_is g d.After-from) c.run-spread.ensures.lanes c.run-spread.ensures.ran

pub returns-clause-told : goal.returns-clause-told
returns-clause-told g c =
    let d = goal.at.returns-clause-told g c in let call = called g d.After-set_vectors in let b = block_is g d.After-from in
    let same = c.run-spread.ensures.lanes in let ran = c.run-spread.ensures.ran in
    let inside = c.self.inside in let wanted = tasks_told (view_of inside) c.args.frames in
    let said : Tasks = record { loops = c.loops.result; vectors = c.vectors-vectors.result; reads = c.reads.result.now } in
    let is_same : said ≡ wanted =
    ap (λ n. record { loops = n; vectors = c.vectors-vectors.result; reads = c.reads.result.now }) c.loops.ensures.loops
    ∙ ap (λ n. record { loops = inside.plan.loops; vectors = n; reads = c.reads.result.now }) c.vectors-vectors.ensures.value
    ∙ ap (λ (r : List Reads). record { loops = inside.plan.loops; vectors = vectors_of c.args.frames inside.sizes.vector; reads = r }) c.reads.ensures in
    let in_order : IsOrdered said c.deref-2.result.now =
    subst (λ (x : Tasks). IsOrdered x c.deref-2.result.now) (sym is_same)
    (subst (λ (x : List Line). IsOrdered wanted x) (sym c.deref-2.ensures.value) (ordered call b same ran)) in
    let count : length c.deref-2.result.now ≡ task_count said =
    ap length c.deref-2.ensures.value ∙ counted call b same ran ∙ sym (ap task_count is_same) in
    let entry : BlockEntry = record { tasks = said; lines = c.deref-2.result.now } in
    let by : List Line → ℕ → Type 0 = λ xs n. All (λ (line : Line). line.worker < n) xs in
    let who : by c.deref-2.result.now c.args.self.now.workers =
    subst (λ (x : EngineView). by c.deref-2.result.now x.workers) c.self.view_is
    (subst (λ (x : List Line). by x inside.sizes.workers) (sym c.deref-2.ensures.value)
    (c.run-spread.ensures.who inside.sizes.workers c.self.invariant.some_worker c.self.invariant.asked)) in
    let is_entry : IsEntry c.args.self.now c.args.frames entry =
    record { tasks = is_same ∙ ap (λ (x : EngineView). tasks_told x c.args.frames) c.self.view_is; ordered = in_order; counted = count; who = who } in
    let by_one : c.is_alone-alone.result ≡ true → All (λ (line : Line). line.worker ≡ 0) c.deref-2.result.now = λ alone.
    subst (λ (x : List Line). All (λ (line : Line). line.worker ≡ 0) x) (sym c.deref-2.ensures.value)
    (c.run-spread.ensures.alone (c.is_alone-alone.ensures.one alone)) in
    IfSome_then (g.G.Gate.told c.block_done.new.self) c.block_done.ensures.entry (λ x h. (h.0, h.1, entry, is_entry, h.2, h.3, by_one))

pub returns-clause-tasks : goal.returns-clause-tasks
returns-clause-tasks g c =
    c.len.ensures.value ∙ ap (λ (t : Graph). task_count t.tasks) c.run-spread.ensures.runner.tasks
    ∙ count_is (called g (goal.at.returns-clause-tasks g c).After-set_vectors)
