use Rattle.std.proofs.Common.{◌≡◌, ◌++◌, List, length, take, drop, sym, ap, ◌∙◌, subst, arith}
use Rattle.std.specs.Prelude.{slice_index_or, ℤ}
use Rattle.std.specs.Global.{Box, Vec}
use Rattle.std.proofs.lemmas.List.{take_at}
use Rattle.fv_split_plan.specs.headline.View.{PlanView}
use Rattle.fv_lines.specs.Writer.{written_by}
use Rattle.fv_lines.specs.declared.writer.LaneWriter.{LaneWriter}
use Rattle.fv_engine_codes.specs.declared.loop_cells.LoopCells.{LoopCells}
use Rattle.fv_engine_crew.specs.Contents.{tasks_in}
use Rattle.fv_engine_crew.specs.declared.start.Start.{Start}
use Rattle.fv_engine_crew.specs.declared.content.Writers.{Writers}
use Rattle.fv_engine_crew.specs.Rooms.{AreRooms}
use Rattle.fv_engine_crew.specs.Dealt.{AreDealt}
use Rattle.fv_engine_crew.specs.Swapped.{HaveSlots, AreSwapped}
use Rattle.fv_engine_crew.specs.Entries.{AreEntered}
use Rattle.fv_engine_crew.specs.Opening.{IsOpening}
use Rattle.fv_engine_crew.specs.declared.block.SpreadBlock.{SpreadBlock}
use Rattle.fv_engine_crew.specs.Spread.{tasks_of}
use Rattle.fv_engine_crew.proofs.enter.enter.Goals.{After-deal}
use Rattle.fv_engine_crew.proofs.enter.enter.Goals as goal

-- the lists that lanes were dealt to
module _ (c : After-deal) where
  abbrev b : SpreadBlock
  b = c.args.block.now

  abbrev rooms : List (Box Writers)
  rooms = c.args.rooms.items

  abbrev dealt : List (Box Writers)
  dealt = c.deal.new.rooms

  were : AreDealt b.plan.now c.args.begun.items rooms dealt
  were = subst (λ (ws : List (Box Writers)). AreDealt b.plan.now c.args.begun.items ws dealt) c.as_mut_slice.ensures.value c.deal.ensures

  left : take c.args.rooms.len (dealt ++ drop (length dealt) rooms) ≡ dealt
  left = take_at dealt (drop (length dealt) rooms) c.args.rooms.len (omega (arith, were.count, c.args.rooms.ok))

  slots : HaveSlots b.plan.now b.places.now.counts.items dealt
  slots = record {
    loops = were.count ∙ c.requires.rooms.count;
    each = λ j d l. omega (
      arith,
      (c.requires.rooms.cells j d l).count,
      ap (λ (cs : LoopCells). length cs.lists.items) (were.each j d l).cells,
    );
  }

pub deal-requires-clause-rooms : goal.deal-requires-clause-rooms
deal-requires-clause-rooms c =
    let s : SpreadBlock = c.args.block.now in (
      tasks_of s,
      s.places.now,
      subst (AreRooms s.plan.now (tasks_of s) s.places.now) (sym c.as_mut_slice.ensures.value) c.requires.rooms,
    )

pub swap_cells-requires-clause-lists : goal.swap_cells-requires-clause-lists
swap_cells-requires-clause-lists c = ap length c.as_mut_slice-2.ensures.value ∙ c.requires.begun.cells

pub swap_cells-requires-clause-writers : goal.swap_cells-requires-clause-writers
swap_cells-requires-clause-writers c =
    let d = (goal.at.swap_cells-requires-clause-writers c).After-deal in
    subst (HaveSlots (b d).plan.now (b d).places.now.counts.items) (sym (c.as_mut_slice-3.ensures.value ∙ left d)) (slots d)

pub entries_of-entries-requires-clause-entered : goal.entries_of-entries-requires-clause-entered
entries_of-entries-requires-clause-entered c =
    let d = (goal.at.entries_of-entries-requires-clause-entered c).After-deal in
    let p : PlanView = c.args.block.now.plan.now in
    let k : Start = c.new-body.result.start in
    let given : List (Box Writers) = c.swap_cells.new.writers in
    let rows : List (Vec ℤ) = c.swap_cells.new.lists in
    let value : c.of.result.value ≡ c.args.begun = c.of.ensures in
    let cells : c.of-2.result.value ≡ c.args.lists.now = c.of-2.ensures in
    let opening : IsOpening k = subst IsOpening (sym c.new-body.ensures) (record {
      loops = c.requires.spread.job.loops;
      lanes = ap (λ (v : Vec LaneWriter). length v.items) value ∙ c.requires.begun.count;
      cells = ap (λ (v : Vec (Vec ℤ)). length v.items) cells ∙ c.requires.begun.cells;
      placed = c.requires.spread.cells;
      unwritten = λ l e m. ap (λ (v : Vec LaneWriter). written_by (slice_index_or v.items l e)) value ∙ c.requires.begun.unwritten l e m;
    }) in
    let before : AreRooms k.plan.now (tasks_in k) k.places.now (rooms d) =
    subst (λ (x : Start). AreRooms x.plan.now (tasks_in x) x.places.now (rooms d)) (sym c.new-body.ensures) c.requires.rooms in
    let are : AreDealt k.plan.now k.lanes.value.items (rooms d) (dealt d) =
    subst (λ (x : Start). AreDealt x.plan.now x.lanes.value.items (rooms d) (dealt d)) (sym c.new-body.ensures)
    (subst (λ (v : Vec LaneWriter). AreDealt p v.items (rooms d) (dealt d)) (sym value) (were d)) in
    let swapped : AreSwapped p c.args.block.now.places.now.places.items c.args.lists.now.items rows (dealt d) given =
    subst (λ (xs : List (Vec ℤ)). AreSwapped p c.args.block.now.places.now.places.items xs rows (dealt d) given) c.as_mut_slice-2.ensures.value
    (subst (λ (ws : List (Box Writers)). AreSwapped p c.args.block.now.places.now.places.items c.as_mut_slice-2.result.now rows ws given)
    (c.as_mut_slice-3.ensures.value ∙ left d) c.swap_cells.ensures) in
    let change : AreSwapped k.plan.now k.places.now.places.items k.cells.value.items rows (dealt d) given =
    subst (λ (x : Start). AreSwapped x.plan.now x.places.now.places.items x.cells.value.items rows (dealt d) given) (sym c.new-body.ensures)
    (subst (λ (v : Vec (Vec ℤ)). AreSwapped p c.args.block.now.places.now.places.items v.items rows (dealt d) given) (sym cells) swapped) in
    let first : List (Box Writers) = take c.args.rooms.len (dealt d ++ drop (length (dealt d)) (rooms d)) in
    let many : length given ≡ c.args.rooms.len = omega (arith, swapped.count, (were d).count, c.args.rooms.ok) in
    subst (λ (x : Start). AreEntered x (take c.args.rooms.len (given ++ drop (length given) first))) (sym c.start.ensures)
    (subst (AreEntered k) (sym (take_at given (drop (length given) first) c.args.rooms.len many))
    (c.dealt_rooms_enter.ensures k (rooms d) (dealt d) given rows opening before are change))
