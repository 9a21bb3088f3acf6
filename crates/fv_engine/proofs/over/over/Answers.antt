use Rattle.std.proofs.Common.{rules, ◌≡◌, ◌∙◌, ◌<◌, ℕ, List, length, refl, ap, sym, subst, arith}
use Rattle.fv_loopcode.specs.headline.Lanes.{Lane}
use Rattle.fv_loopcode.specs.headline.State.{State}
use Rattle.fv_lines.specs.Solo.{SoloRest, lanes_of, lengths_in}
use Rattle.fv_lines.specs.declared.solo.Solo.{Solo}
use Rattle.fv_split_plan.specs.Rows.{lists_of}
use Rattle.fv_engine_tasks.specs.Block.{Block, IsReal}
use Rattle.fv_engine_tasks.specs.Jobs.{block_of}
use Rattle.fv_engine_tasks.specs.Underway.{EndsBlock}
use Rattle.fv_engine_tasks.proofs.lemmas.Full.{IsDone, lane_full}
use Rattle.fv_engine.specs.inner.Opening.{opening_over}
use Rattle.fv_engine.specs.inner.Kept.{state_of}
use Rattle.fv_engine.proofs.Runs.{LiesOver, opening_long, are_full, holds_next, there_in}
use Rattle.fv_engine.proofs.over.over.Given.{Over}
use Rattle.fv_engine.proofs.over.over.Goals.{After-begin-solo, After-alone}
use Rattle.fv_engine.proofs.over.over.Goals as goal

-- the places, as they open
module _ (g : Over) (c : After-begin-solo g) where
  abbrev first : State
  first = opening_over c.args.plan.now.tables c.args.layout.now c.args.shapes.now c.args.states.now c.args.job.now.frames c.args.cells.now
      c.args.lists.now

  opens : state_of c.args.plan.now (lanes_of c.begin-solo.result) c.args.lists.now ≡ first
  opens =
      ap (λ (lanes : List Lane). record { lanes = lanes; tables = c.args.plan.now.tables; cells = lists_of c.args.lists.now }) c.begin-solo.ensures.lanes

pub alone-requires-clause-lanes : goal.alone-requires-clause-lanes
alone-requires-clause-lanes g c =
    ap length c.begin-solo.ensures.lanes
    ∙ opening_long c.args.layout.now c.args.shapes.now c.args.states.now c.args.job.now.frames c.args.cells.now ∙ c.requires.count

pub alone-requires-clause-real : goal.alone-requires-clause-real
alone-requires-clause-real g c =
    subst (λ (s : State). IsReal (block_of g.P.Codes.parts c.args.job.now) s) (sym (opens g (goal.at.alone-requires-clause-real g c).After-begin-solo))
    c.requires.real

-- the block when its tasks are done
module _ (g : Over) (c : After-alone g) where
  abbrev block : Block
  block = block_of g.P.Codes.parts c.args.job.now

  abbrev solo : Solo
  solo = c.alone.new.lanes

  abbrev opened : State
  opened = opening_over c.args.plan.now.tables c.args.layout.now c.args.shapes.now c.args.states.now c.args.job.now.frames c.args.cells.now
      c.args.lists.now

  ends : state_of c.args.plan.now (lanes_of c.begin-solo.result) c.args.lists.now ≡ opened
      → EndsBlock c.args.runner.now.tasks.tasks block opened (state_of c.args.plan.now (lanes_of solo) c.alone.new.lists) c.alone.new.runner.lines.items
  ends e =
      subst (λ (s : State). EndsBlock c.args.runner.now.tasks.tasks block s (state_of c.args.plan.now (lanes_of solo) c.alone.new.lists)
      c.alone.new.runner.lines.items)
      e c.alone.ensures.ends

  done : state_of c.args.plan.now (lanes_of c.begin-solo.result) c.args.lists.now ≡ opened
      → IsDone c.args.runner.now.tasks.tasks block opened (state_of c.args.plan.now (lanes_of solo) c.alone.new.lists) c.alone.new.runner.lines.items
  done e = record { job = c.requires.job; real = c.requires.real; ends = ends e }

pub finish-requires-clause-full : goal.finish-requires-clause-full
finish-requires-clause-full g c =
    let d = goal.at.finish-requires-clause-full g c in let block = done g d.After-alone (opens g d.After-begin-solo) in
    let kept = c.alone.ensures.kept ∙ c.begin-solo.ensures.kept in
    are_full c.alone.new.lanes c.args.job.now.frames c.alone.ensures.valid (ap (λ (r : SoloRest). r.frames) kept)
    (λ i l. lane_full block i (let n = block.ends.long in omega (arith, l, n)))

pub returns-clause-ran : goal.returns-clause-ran
returns-clause-ran g c =
    let d = goal.at.returns-clause-ran g c in
    let s : Solo = c.alone.new.lanes in
    let kept = c.alone.ensures.kept ∙ c.begin-solo.ensures.kept in
    let as_lengths : lengths_in s ≡ c.args.layout.now = ap (λ (r : SoloRest). r.lengths) kept in
    let states = sym (ap (λ (r : SoloRest). r.states) kept) in
    let cells = sym (ap (λ (r : SoloRest). r.cells) kept) in
    record {
      now = state_of c.args.plan.now (lanes_of s) c.alone.new.lists;
      ends = ends g d.After-alone (opens g d.After-begin-solo);
      next = λ i l.
          let over : LiesOver s c.args.layout.now c.args.shapes.now c.args.job.now.frames _ c.finish.new.self.1.1.1.0 _ = record {
            lengths_are = as_lengths;
            shapes_are = ap (λ (r : SoloRest). r.shapes) kept;
            frames_are = ap (λ (r : SoloRest). r.frames) kept;
            states_are = search (rules, states);
            cells_are = search (rules, cells) ∙ c.finish.ensures.cells;
          } in
          holds_next over i (c.finish.ensures.held i (there_in s i (subst (λ (xs : List ℕ). i < length xs) (sym as_lengths) l)));
      items = refl;
      samples = c.alone.ensures.samples;
    }
