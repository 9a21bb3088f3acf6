use Rattle.std.proofs.Common.{◌≡◌, ℕ, ◌<◌, ◌≤◌, ℤ, Bool, true, false, List, length, refl, ap, ap₂, sym, ◌∙◌, subst, arith}
use Rattle.std.specs.Prelude.{IfSome}
use Rattle.std.specs.Global.{Vec}
use Rattle.std.specs.Vec.{with_items}
use Rattle.std.proofs.lemmas.List.{with_items_is, length-map}
use Rattle.fv_pool.specs.Region.{cells_of}
use Rattle.fv_loopcode.specs.headline.Lanes.{Lane}
use Rattle.fv_lines.specs.Solo.{AreHeld, AreLists, held_at, history_at}
use Rattle.fv_lines.specs.declared.shape.LaneShape.{LaneShape}
use Rattle.fv_lines.specs.declared.shape.LaneState.{LaneState}
use Rattle.fv_engine_tasks.specs.Jobs.{block_of}
use Rattle.fv_engine_tasks.specs.Block.{Block}
use Rattle.fv_engine_crew.specs.Contents.{parts_of}
use Rattle.fv_engine_crew.specs.Ran.{Ran}
use Rattle.fv_engine.specs.inner.Opening.{opening_over}
use Rattle.fv_engine.specs.declared.plan_codes.PlanCodes.{PlanCodes}
use Rattle.fv_engine.specs.declared.crew_codes.CrewCodes.{CrewCodes}
use Rattle.fv_engine.specs.declared.lanes.Lanes.{Lanes}
use Rattle.fv_engine.proofs.Crews.{AreLent, of_lanes, may_run_over, opens_alike}
use Rattle.fv_engine.proofs.lanes.Lanes.run_spread.Given.{Over}
use Rattle.fv_engine.proofs.lanes.Lanes.run_spread.Goals.{After-deref_mut, After-run_spread}
use Rattle.fv_engine.proofs.lanes.Lanes.run_spread.Goals as goal

lent : (g : Over) (c : After-deref_mut g) → AreLent c.args.self.now c.deref-3.result.now c.deref_mut.result.now c.cells.result.now
lent g c = record {
  shapes_are = c.deref-3.ensures.value;
  states_are = c.deref_mut.ensures.value;
  cells_are = c.cells.ensures.value;
}

pub run_spread-requires-clause-over : goal.run_spread-requires-clause-over
run_spread-requires-clause-over g c κs within =
    may_run_over _ (lent g (goal.at.run_spread-requires-clause-over g c).After-deref_mut) c.requires.may

-- what it leaves
module _ (g : Over) (c : After-run_spread g) where
  abbrev old : Lanes
  old = c.args.self.now

  abbrev lengths : List ℕ
  lengths = old.layout

  abbrev shapes : List LaneShape
  shapes = old.shapes.items

  abbrev cells : List ℤ
  cells = (with_items old.region.cells c.run_spread.new.cells).items

  abbrev states : List LaneState
  states = (with_items old.states c.run_spread.new.states).items

  cells_are : cells ≡ c.run_spread.new.cells
  cells_are = with_items_is old.region.cells c.run_spread.new.cells
      (omega (arith, c.run_spread.auto.cells, ap length c.cells.ensures.value, old.region.cells.ok.0))

  abbrev rows : List (Vec ℤ)
  rows = c.run_spread.new.lists.items

  states_are : states ≡ c.run_spread.new.states
  states_are = with_items_is old.states c.run_spread.new.states (omega (arith, c.run_spread.auto.states, c.deref_mut.ensures.len, old.states.ok.0))

  entries : AreLists lengths shapes states old.begun.items cells
  entries =
      let s = ap length states_are in let k = ap length cells_are in (
        old.entries.0,
        omega (arith, s, c.run_spread.auto.states, c.deref_mut.ensures.len, old.states.ok.0, old.entries.1),
        old.entries.2,
        omega (arith, k, c.run_spread.auto.cells, ap length c.cells.ensures.value, old.entries.3),
      )

pub invariant_of-self : goal.invariant_of-self
invariant_of-self g c =
    let o = goal.at.invariant_of-self g c in
    record {
      entries = entries g o.After-run_spread;
      held =
          subst (λ (x : List LaneState). AreHeld (lengths g o.After-run_spread) (shapes g o.After-run_spread) x) (sym (states_are g o.After-run_spread))
          (of_lanes (lent g o.After-deref_mut) (λ ls ss st cs. AreHeld ls ss c.run_spread.new.states) c.run_spread.ensures.lanes);
    }

pub returns-clause-lanes : goal.returns-clause-lanes
returns-clause-lanes g c = record { layout = refl; shapes = refl; lists = many c.run_spread.result refl }
  where
    old : List (Vec ℤ)
    old = c.args.self.now.lists.items

    new : List (Vec ℤ)
    new = c.run_spread.new.lists.items

    many : (b : Bool) → c.run_spread.result ≡ b → length new ≡ length old
    many true e =
        let ran = c.run_spread.ensures.ran e in
        sym (length-map new (λ (v : Vec ℤ). v.items)) ∙ sym (ap length ran.items) ∙ ran.ends.cells ∙ sym c.requires.may.lists
    many false e =
        sym (length-map new (λ (v : Vec ℤ). v.items)) ∙ ap length (c.run_spread.ensures.lists_left e) ∙ length-map old (λ (v : Vec ℤ). v.items)

pub returns-clause-ran : goal.returns-clause-ran
returns-clause-ran g c = λ is_true.
    let o = goal.at.returns-clause-ran g c in let r = o.After-run_spread in let new = c.run_spread.new in let n = c.args.job.now.frames in
    let p = c.args.job.now.plan.now.plan.now in
    let b : Block = block_of {P = PlanCodes} (λ p. parts_of p.plan.now) c.args.job.now in
    let l = c.args.self.now in let all = lengths g r in
    let ran : List ℤ → List LaneState → List ℕ → List LaneShape → List LaneState → List ℤ → Type 0 =
    λ left after ls ss st cs.
    Ran c.args.runner.now.tasks.tasks b ls ss (opening_over p.tables ls ss st n cs l.lists.items) left after new.lists.items new.lines.items p.outputs
    new.output in
    subst (λ (x : List ℤ). ran x (states g r) all l.shapes.items l.states.items (cells_of l.region)) (sym (cells_are g r))
    (subst (λ (x : List LaneState). ran new.cells x all l.shapes.items l.states.items (cells_of l.region)) (sym (states_are g r))
    (of_lanes (lent g o.After-deref_mut) (ran new.cells new.states) (c.run_spread.ensures.ran is_true)))

pub returns-clause-left : goal.returns-clause-left
returns-clause-left g c = λ is_false.
    let o = goal.at.returns-clause-left g c in let r = o.After-run_spread in let new = c.run_spread.new in
    let l = c.args.self.now in let all = lengths g r in let tables = c.args.job.now.plan.now.plan.now.tables in
    let kept : List ℤ → List LaneState → List ℕ → List LaneShape → List LaneState → List ℤ → Type 0 =
    λ left after ls ss st cs. (i : ℕ) → i < length ss → held_at ls after (history_at ss i) i left ≡ held_at ls st (history_at ss i) i cs in
    let is_kept : kept (cells g r) (states g r) all l.shapes.items l.states.items (cells_of l.region) =
    subst (λ (x : List ℤ). kept x (states g r) all l.shapes.items l.states.items (cells_of l.region)) (sym (cells_are g r))
    (subst (λ (x : List LaneState). kept new.cells x all l.shapes.items l.states.items (cells_of l.region)) (sym (states_are g r))
    (of_lanes (lent g o.After-deref_mut) (kept new.cells new.states) (c.run_spread.ensures.left is_false))) in
    let opened = opens_alike all l.shapes.items c.args.job.now.frames _ _ _ _ (λ i m. is_kept i (omega (arith, m, l.entries.0))) in
    ap₂ (λ (ls : List Lane) (cs : List (List ℤ)). record { lanes = ls; tables = tables; cells = cs }) opened (c.run_spread.ensures.lists_left is_false)

pub returns-clause-who : goal.returns-clause-who
returns-clause-who g c = λ is_true n workers i d l.
    let low = c.run_spread.ensures.who is_true i d l in
    let many : c.in-Some.crew.workers ≤ n = subst (λ o. IfSome o (λ (x : CrewCodes). x.workers ≤ n)) c.in-Some.is workers in
    omega (arith, low, many, c.workers_for.ensures.most)
