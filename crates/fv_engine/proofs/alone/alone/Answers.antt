use Rattle.std.proofs.Common.{◌≡◌, ◌∙◌, ◌+◌, ◌*◌, ◌<◌, ℕ, ℤ, List, length, All, refl, ap, sym, subst, arith, rules}
use Rattle.std.specs.Prelude.{slice_index_or}
use Rattle.std.specs.Global.{Vec}
use Rattle.std.specs.Vec.{with_items}
use Rattle.std.proofs.lemmas.List.{length-map, with_items_is}
use Rattle.fv_signal.specs.Words.{argument}
use Rattle.fv_outside.specs.declared.gate.Line.{Line}
use Rattle.fv_graph.specs.Graph.{Graph}
use Rattle.fv_loopcode.specs.headline.Lanes.{Lane}
use Rattle.fv_loopcode.specs.headline.State.{State}
use Rattle.fv_engine_tasks.specs.Block.{Block}
use Rattle.fv_loopcode_machine.specs.declared.scratch.Scratch.{Scratch}
use Rattle.fv_engine_tasks.specs.Jobs.{IsJob, block_of, HaveScratch, ServeAll}
use Rattle.fv_engine_tasks.proofs.lemmas.Served.{unsettled_serve, served_room}
use Rattle.fv_engine_tasks.specs.Outputs.{sample_of}
use Rattle.fv_engine_tasks.specs.Underway.{IsUnderway, EndsBlock}
use Rattle.fv_engine_tasks.proofs.lemmas.Full.{IsDone, can_read}
use Rattle.fv_engine.specs.inner.Kept.{KeptRest, state_of}
use Rattle.fv_engine.proofs.Runs.{starts, state_same}
use Rattle.fv_engine.proofs.alone.alone.Given.{Over}
use Rattle.fv_engine.proofs.alone.alone.Goals.{After-begin, After-run_tasks}
use Rattle.fv_engine.proofs.alone.alone.Goals as goal

-- the block, as its places open
module _ (g : Over) (c : After-begin g) where
  abbrev b : Block
  b = block_of g.P.Codes.parts c.args.job.now

  abbrev first : State
  first = state_of c.args.plan.now (g.L.LaneStore.lanes c.args.lanes.now) c.args.lists.now

  underway : IsUnderway c.begin.new.self.tasks.tasks b first c.begin.new.self.core.now first c.begin.new.self.lines.items
  underway = starts (record {
    long = c.requires.lanes;
    cells = length-map c.args.lists.now (λ (v : Vec ℤ). v.items) ∙ c.requires.lists;
    state = c.begin.ensures.opening;
    places_are = refl;
    none = ap (λ (v : Vec Line). v.items) c.begin.ensures.lines ∙ c.requires.lines;
  })

-- the block when its tasks are done
module _ (g : Over) (c : After-run_tasks g) where
  abbrev block : Block
  block = block_of g.P.Codes.parts c.args.job.now

  abbrev opened : State
  opened = state_of c.args.plan.now (g.L.LaneStore.lanes c.args.lanes.now) c.args.lists.now

  done : IsUnderway c.begin.new.self.tasks.tasks block opened c.begin.new.self.core.now opened c.begin.new.self.lines.items
      → IsDone c.begin.new.self.tasks.tasks block opened (state_of c.run_tasks.new.store.plan.now
      (g.L.LaneStore.lanes c.run_tasks.new.store.lanes.now) c.run_tasks.new.store.lists.now) c.run_tasks.new.lines.items
  done u = record {
    job = subst (λ (t : Graph). IsJob block t.tasks) (sym c.begin.ensures.tasks) c.requires.job;
    real = c.requires.real;
    ends = c.run_tasks.ensures.ends opened c.requires.real u;
  }

pub run_tasks-requires-clause-underway : goal.run_tasks-requires-clause-underway
run_tasks-requires-clause-underway g c =
    let d = (goal.at.run_tasks-requires-clause-underway g c).After-begin in (first g d, c.requires.real, underway g d)

pub run_tasks-requires-clause-scratch : goal.run_tasks-requires-clause-scratch
run_tasks-requires-clause-scratch g c =
    let job = c.args.job.now in let parts = g.P.Codes.parts job.plan.now in
    subst (λ (ss : List Scratch). ServeAll parts (argument job.held.now) ss) (sym c.deref_mut.ensures.value)
    (unsettled_serve parts (argument job.held.now) c.args.runner.now.scratch.items c.begin.new.self.scratch.items c.requires.scratch c.begin.ensures.scratch)

pub returns-clause-runner : goal.returns-clause-runner
returns-clause-runner g c =
    let job = c.args.job.now in let parts = g.P.Codes.parts job.plan.now in
    let scratch = c.begin.new.self.scratch in
    let served = c.run_tasks.ensures.scratch in
    let is = with_items_is scratch c.run_tasks.new.scratches (omega (arith, c.run_tasks.auto.scratches, c.deref_mut.ensures.len, scratch.ok.0)) in
    record {
      tasks = c.begin.ensures.tasks;
      scratch = subst (λ (ss : List Scratch). HaveScratch parts ss) (sym is) (served_room parts (argument job.held.now) c.run_tasks.new.scratches served);
    }

pub copy_outputs-requires-clause-there : goal.copy_outputs-requires-clause-there
copy_outputs-requires-clause-there g c = λ t m.
    let d = goal.at.copy_outputs-requires-clause-there g c in let block = done g d.After-run_tasks (underway g d.After-begin) in
    let b = block_of g.P.Codes.parts c.args.job.now in
    can_read block t (omega (arith, m, c.from.ensures)) c.outputs.result.now
    (subst (λ (xs : List ℕ). All (λ l. l < b.plan.lanes) xs) (sym c.outputs.ensures) c.requires.there)

pub returns-clause-ends : goal.returns-clause-ends
returns-clause-ends g c =
    let d = goal.at.returns-clause-ends g c in let u = underway g d.After-begin in let b = block_of g.P.Codes.parts c.args.job.now in
    let kept = c.run_tasks.ensures.kept in
    let lanes = sym (ap (λ (r : KeptRest _). r.lanes) kept) in let lists = sym (ap (λ (r : KeptRest _). r.lists) kept) in
    subst (λ (s : State). EndsBlock c.args.runner.now.tasks.tasks b (opened g d.After-run_tasks) s c.run_tasks.new.lines.items)
    (state_same g.L.LaneStore.lanes (ap (λ (r : KeptRest _). r.plan) kept) (search (rules, lanes)) (search (rules, lists)))
    (subst
    (λ (t : Graph).
    EndsBlock t.tasks b (opened g d.After-run_tasks)
    (state_of c.run_tasks.new.store.plan.now (g.L.LaneStore.lanes c.run_tasks.new.store.lanes.now) c.run_tasks.new.store.lists.now)
    c.run_tasks.new.lines.items) c.begin.ensures.tasks (done g d.After-run_tasks u).ends)

pub returns-clause-valid : goal.returns-clause-valid
returns-clause-valid g c =
    let lanes = sym (ap (λ (r : KeptRest _). r.lanes) c.run_tasks.ensures.kept) in
    subst g.L.LaneStore.is_valid (sym (search (rules, lanes))) c.run_tasks.ensures.valid

pub returns-clause-kept : goal.returns-clause-kept
returns-clause-kept g c =
    let kept = c.run_tasks.ensures.kept in let lanes = sym (ap (λ (r : KeptRest _). r.lanes) kept) in
    ap g.L.LaneStore.rest (search (rules, lanes)) ∙ ap (λ (r : KeptRest _). r.of_lanes) kept

pub returns-clause-samples : goal.returns-clause-samples
returns-clause-samples g c =
    let lanes = sym (ap (λ (r : KeptRest _). r.lanes) c.run_tasks.ensures.kept) in
    let sampled : List ℕ → List Lane → Type 0 = λ xs ls.
    (t j : ℕ) → t < c.args.job.now.frames → j < length xs
    → argument c.copy_outputs.new.output (t * length xs + j) ≡ sample_of ls t (slice_index_or xs j 0) in
    subst (sampled c.args.plan.now.outputs) (ap g.L.LaneStore.lanes (sym (search (rules, lanes))))
    (subst (λ (xs : List ℕ). sampled xs (g.L.LaneStore.lanes c.run_tasks.new.store.lanes.now)) c.outputs.ensures
    (λ t j m n. c.copy_outputs.ensures.samples t j (omega (arith, m, c.from.ensures)) n))

pub returns-clause-who : goal.returns-clause-who
returns-clause-who g c =
    let none = ap (λ (v : Vec Line). v.items) c.begin.ensures.lines ∙ c.requires.lines in
    c.run_tasks.ensures.who (λ i d l. absurd (omega (arith, l, ap length none)))
