use Rattle.std.proofs.Common.{◌≡◌, ◌++◌, List, length, take, drop, subst, sym, arith}
use Rattle.std.specs.Global.{Box}
use Rattle.std.proofs.lemmas.List.{take_at}
use Rattle.fv_engine_crew.specs.declared.start.Start.{Start}
use Rattle.fv_engine_crew.specs.declared.content.Writers.{Writers}
use Rattle.fv_engine_crew.specs.Entries.{AreLoopsWriters, AreLoopsLanes}
use Rattle.fv_engine_crew.specs.Swapped.{AreSwapped}
use Rattle.fv_engine_crew.proofs.Gathered.{have_slots, lanes_left, cells_back}
use Rattle.fv_engine_crew.proofs.returned_lanes.collect.Goals.{After-swap_cells}
use Rattle.fv_engine_crew.proofs.returned_lanes.collect.Goals as goal

pub swap_cells-requires-clause-writers : goal.swap_cells-requires-clause-writers
swap_cells-requires-clause-writers c =
    let k : Start = c.args.start.now in
    let a = c.loops_writers-writers.ensures c.requires.parcels.0 c.requires.parcels.1 in
    have_slots k c.requires.parcels.0 c.requires.loops c.as_mut_slice.result.now
    (subst (AreLoopsWriters k c.requires.parcels.0) (sym c.as_mut_slice.ensures.value) a)

-- the writers that are left, and what was swapped
module _ (c : After-swap_cells) where
  abbrev key : Start
  key = c.args.start.now

  abbrev ws : List (Box Writers)
  ws = c.loops_writers-writers.result.items

  abbrev us : List (Box Writers)
  us = c.swap_cells.new.writers

  swapped : AreSwapped key.plan.now key.places.now.places.items c.args.cells.now c.swap_cells.new.lists ws us
  swapped =
      subst (λ (xs : List (Box Writers)). AreSwapped key.plan.now key.places.now.places.items c.args.cells.now c.swap_cells.new.lists xs us)
      c.as_mut_slice.ensures.value c.swap_cells.ensures

  left : take c.loops_writers-writers.result.len (us ++ drop (length us) ws) ≡ us
  left = take_at us (drop (length us) ws) c.loops_writers-writers.result.len (omega (arith, swapped.count, c.loops_writers-writers.result.ok))

pub all_writers-requires-clause-writers : goal.all_writers-requires-clause-writers
all_writers-requires-clause-writers c =
    let d = (goal.at.all_writers-requires-clause-writers c).After-swap_cells in
    let v = c.requires.parcels.0 in (
      v,
      subst (AreLoopsLanes (key d) v) (sym (left d))
          (lanes_left (key d) v c.requires.loops (ws d) (c.loops_writers-writers.ensures v c.requires.parcels.1) c.args.cells.now c.swap_cells.new.lists
          (us d) (swapped d)),
    )

pub returns-clause-lanes : goal.returns-clause-lanes
returns-clause-lanes c = λ v a.
    let d = (goal.at.returns-clause-lanes c).After-swap_cells in
    c.all_writers.ensures v (subst (AreLoopsLanes (key d) v) (sym (left d))
    (lanes_left (key d) v c.requires.loops (ws d) (c.loops_writers-writers.ensures v a) c.args.cells.now c.swap_cells.new.lists (us d) (swapped d)))

pub returns-clause-cells : goal.returns-clause-cells
returns-clause-cells c = λ v a.
    let d = (goal.at.returns-clause-cells c).After-swap_cells in
    cells_back (key d) v c.requires.loops (ws d) (c.loops_writers-writers.ensures v a) c.args.cells.now c.swap_cells.new.lists (us d) (swapped d)
    c.requires.placed c.requires.cells
