use Rattle.std.proofs.Common.{◌≡◌, ℕ, ℤ, List, length, ap, sym, subst, arith}
use Rattle.std.specs.Global.{Vec}
use Rattle.std.specs.Vec.{with_items}
use Rattle.std.proofs.lemmas.List.{with_items_is}
use Rattle.fv_pool.specs.Region.{cells_of}
use Rattle.fv_loopcode.specs.headline.State.{State}
use Rattle.fv_lines.specs.Solo.{AreHeld, AreLists}
use Rattle.fv_lines.specs.declared.shape.LaneShape.{LaneShape}
use Rattle.fv_lines.specs.declared.shape.LaneState.{LaneState}
use Rattle.fv_lines.specs.declared.begun_lane.BegunLane.{BegunLane}
use Rattle.fv_engine_tasks.specs.Block.{Block, IsReal}
use Rattle.fv_engine_tasks.specs.Jobs.{block_of}
use Rattle.fv_engine_crew.specs.Ran.{Ran}
use Rattle.fv_engine.specs.inner.Opening.{opening_over}
use Rattle.fv_engine.specs.declared.lanes.Lanes.{Lanes}
use Rattle.fv_engine.proofs.lanes.Lanes.run_alone.Given.{Over}
use Rattle.fv_engine.proofs.lanes.Lanes.run_alone.Goals.{After-over}
use Rattle.fv_engine.proofs.lanes.Lanes.run_alone.Goals as goal

pub over-requires-clause-lanes : goal.over-requires-clause-lanes
over-requires-clause-lanes g c =
    let l = c.args.self.now in let lengths = l.layout in
    subst (λ (x : List LaneShape). AreHeld lengths x c.deref_mut.result.now) (sym c.deref.ensures.value)
    (subst (λ (x : List LaneState). AreHeld lengths l.shapes.items x) (sym c.deref_mut.ensures.value) l.held)

pub over-requires-clause-real : goal.over-requires-clause-real
over-requires-clause-real g c =
    let l = c.args.self.now in let lengths = l.layout in let n = c.args.job.now.frames in let tables = c.args.plan.now.tables in
    let b = block_of g.P.Codes.parts c.args.job.now in
    let real : List LaneShape → List LaneState → List ℤ → List (Vec ℤ) → Type 0 = λ ss st cs ls. IsReal b (opening_over tables lengths ss st n cs ls) in
    subst (λ (x : List LaneShape). real x c.deref_mut.result.now c.cells.result.now c.deref_mut-3.result.now) (sym c.deref.ensures.value)
    (subst (λ (x : List LaneState). real l.shapes.items x c.cells.result.now c.deref_mut-3.result.now) (sym c.deref_mut.ensures.value)
    (subst (λ (x : List ℤ). real l.shapes.items l.states.items x c.deref_mut-3.result.now) (sym c.cells.ensures.value)
    (subst (λ (x : List (Vec ℤ)). real l.shapes.items l.states.items (cells_of l.region) x) (sym c.deref_mut-3.ensures.value) c.requires.may.real)))

-- what it leaves
module _ (g : Over) (c : After-over g) where
  abbrev old : Lanes
  old = c.args.self.now

  abbrev lengths : List ℕ
  lengths = old.layout

  abbrev cells : List ℤ
  cells = (with_items old.region.cells c.over.new.cells).items

  abbrev states : List LaneState
  states = (with_items old.states c.over.new.states).items

  cells_are : cells ≡ c.over.new.cells
  cells_are = with_items_is old.region.cells c.over.new.cells (omega (arith, c.over.auto.cells, ap length c.cells.ensures.value, old.region.cells.ok.0))

  states_are : states ≡ c.over.new.states
  states_are = with_items_is old.states c.over.new.states (omega (arith, c.over.auto.states, c.deref_mut.ensures.len, old.states.ok.0))

  begun_are : (with_items old.begun c.over.new.begun).items ≡ c.over.new.begun
  begun_are = with_items_is old.begun c.over.new.begun (omega (arith, c.over.auto.begun, c.deref_mut-2.ensures.len, old.begun.ok.0))

  abbrev rows : List (Vec ℤ)
  rows = (with_items old.lists c.over.new.lists).items

  rows_are : rows ≡ c.over.new.lists
  rows_are = with_items_is old.lists c.over.new.lists (omega (arith, c.over.auto.lists, c.deref_mut-3.ensures.len, old.lists.ok.0))

  entries : AreLists lengths old.shapes.items states (with_items old.begun c.over.new.begun).items cells
  entries =
      let over = c.over.new in let begun = (with_items old.begun over.begun).items in
      subst (λ (x : List ℤ). AreLists lengths old.shapes.items states begun x) (sym cells_are)
      (subst (λ (x : List BegunLane). AreLists lengths old.shapes.items states x over.cells) (sym begun_are)
      (subst (λ (x : List LaneState). AreLists lengths old.shapes.items x over.begun over.cells) (sym states_are)
      (subst (λ (x : List LaneShape). AreLists lengths x over.states over.begun over.cells) c.deref.ensures.value c.over.ensures.lists)))

  lanes : AreHeld lengths old.shapes.items states
  lanes =
      subst (λ (x : List LaneState). AreHeld lengths old.shapes.items x) (sym states_are)
      (subst (λ (x : List LaneShape). AreHeld lengths x c.over.new.states) c.deref.ensures.value c.over.ensures.lanes)

pub invariant_of-self : goal.invariant_of-self
invariant_of-self g c =
    let o = (goal.at.invariant_of-self g c).After-over in record { entries = entries g o; held = lanes g o }

pub returns-clause-ran : goal.returns-clause-ran
returns-clause-ran g c =
    let o = (goal.at.returns-clause-ran g c).After-over in let l = c.args.self.now in let lengths = l.layout in
    let n = c.args.job.now.frames in let b : Block = block_of g.P.Codes.parts c.args.job.now in let new = c.over.new in let p = c.args.plan.now in
    let ran : List LaneShape → State → List ℤ → List LaneState → List (Vec ℤ) → Type 0 =
    λ shapes first cells states lists.
    Ran c.args.runner.now.tasks.tasks b lengths shapes first cells states lists new.runner.lines.items p.outputs new.output in
    let opened : List LaneShape → List LaneState → List ℤ → List (Vec ℤ) → State =
    λ shapes states cells lists. opening_over p.tables lengths shapes states n cells lists in
    let first = opened l.shapes.items l.states.items (cells_of l.region) l.lists.items in
    subst (λ (x : List ℤ). ran l.shapes.items first x (states g o) (rows g o)) (sym (cells_are g o))
    (subst (λ (x : List LaneState). ran l.shapes.items first new.cells x (rows g o)) (sym (states_are g o))
    (subst (λ (x : List (Vec ℤ)). ran l.shapes.items first new.cells new.states x) (sym (rows_are g o))
    (subst (λ (x : List (Vec ℤ)). ran l.shapes.items (opened l.shapes.items l.states.items (cells_of l.region) x) new.cells new.states new.lists)
    c.deref_mut-3.ensures.value
    (subst (λ (x : List ℤ). ran l.shapes.items (opened l.shapes.items l.states.items x c.deref_mut-3.result.now) new.cells new.states new.lists)
    c.cells.ensures.value
    (subst (λ (x : List LaneState). ran l.shapes.items (opened l.shapes.items x c.cells.result.now c.deref_mut-3.result.now) new.cells new.states new.lists)
    c.deref_mut.ensures.value
    (subst (λ (x : List LaneShape). ran x (opened x c.deref_mut.result.now c.cells.result.now c.deref_mut-3.result.now) new.cells new.states new.lists)
    c.deref.ensures.value c.over.ensures.ran))))))
