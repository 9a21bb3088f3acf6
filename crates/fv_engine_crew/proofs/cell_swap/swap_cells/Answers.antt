use Rattle.std.proofs.Common.{◌≡◌, ℕ, ◌+◌, ◌<◌, List, length, set, get_or, sym, ap, ◌∙◌, subst, arith}
use Rattle.std.specs.Prelude.{slice_index, Vec, ℤ}
use Rattle.std.specs.declared.alloc.Global.{Global}
use Rattle.std.specs.Global.{Box}
use Rattle.std.specs.Box.{with_value}
use Rattle.std.proofs.lemmas.List.{get_or_default}
use Rattle.fv_split_plan.specs.headline.View.{PlanView, cells_info}
use Rattle.fv_split_plan.specs.declared.lane.CellsInfo.{CellsInfo}
use Rattle.fv_engine_crew.specs.declared.content.Writers.{Writers}
use Rattle.fv_engine_crew.specs.Swapped.{SameButCells}
use Rattle.fv_engine_crew.proofs.Gathered.{owner_there}
use Rattle.fv_engine_crew.proofs.ChangingPlaces.{AreSwappedSoFar, IsOne, one_swapped}
use Rattle.fv_engine_crew.proofs.cell_swap.swap_cells.Goals as goal

abbrev none : CellsInfo
none = record { owner = 0; table = 0 }

pub swap_one-requires : goal.swap_one-requires
swap_one-requires c =
    let p : PlanView = c.args.plan.now in
    let places : List ℕ = c.args.places.now.places.items in
    let counts : List ℕ = c.args.places.now.counts.items in
    let k : ℕ = c.loop-k.k in
    let o : ℕ = (get_or c.cells-cells.result.now k none).owner in
    let inside : k < length p.cells = omega (arith, c.loop-k-test.true, ap length c.cells-cells.ensures) in
    let owner : o ≡ (cells_info p k).owner = ap (λ (cs : List CellsInfo). (get_or cs k none).owner) c.cells-cells.ensures in
    let low : (cells_info p k).owner < p.loops = owner_there p places counts c.requires.placed k inside in
    let d : Box Writers = c.index-writers-cells.result in
    let was = c.loop-k.invariant.rest (cells_info p k).owner d (omega (arith, low, c.requires.writers.loops)) in
    let at : c.index.result.now ≡ slice_index places k =
    c.index.ensures ∙ get_or_default places k c.index.result.now 0 (omega (arith, inside, c.requires.placed.count)) in
    let is : c.deref_mut.result.now ≡ (get_or c.loop-k.writers (cells_info p k).owner d).value =
    c.deref_mut.ensures.value ∙ ap (λ (i : ℕ). (get_or c.loop-k.writers i d).value) owner in
    omega (
      arith,
      at,
      ap (λ (w : Writers). length w.lanes.cells.lists.items) is,
      was.count,
      c.requires.placed.below k inside,
      c.requires.writers.each (cells_info p k).owner d low,
    )

pub loop-k-preserved : goal.loop-k-preserved
loop-k-preserved c =
    let p : PlanView = c.args.plan.now in
    let places : List ℕ = c.args.places.now.places.items in
    let counts : List ℕ = c.args.places.now.counts.items in
    let k : ℕ = c.loop-k.k in
    let o : ℕ = (get_or c.cells-cells.result.now k none).owner in
    let r : ℕ = (cells_info p k).owner in
    let rows : List (Vec ℤ Global) = c.loop-k.lists in
    let ws : List (Box Writers) = c.loop-k.writers in
    let inside : k < length p.cells = omega (arith, c.loop-k-test.true, ap length c.cells-cells.ensures) in
    let owner : o ≡ r = ap (λ (cs : List CellsInfo). (get_or cs k none).owner) c.cells-cells.ensures in
    let low : r < p.loops = owner_there p places counts c.requires.placed k inside in
    let d : Box Writers = c.index-writers-cells.result in
    let there : r < length ws = omega (arith, low, c.requires.writers.loops, c.loop-k.invariant.count) in
    let at : c.index.result.now ≡ slice_index places k =
    c.index.ensures ∙ get_or_default places k c.index.result.now 0 (omega (arith, inside, c.requires.placed.count)) in
    let is : (e : Box Writers) → c.deref_mut.result.now ≡ (get_or ws r e).value =
    λ e. c.deref_mut.ensures.value ∙ ap (λ (i : ℕ). (get_or ws i d).value) owner ∙ ap (λ (b : Box Writers). b.value) (get_or_default ws r d e there) in
    let in_rows : k < length rows = omega (arith, inside, c.requires.lists, c.loop-k.invariant.lists_count) in
    let row : Vec ℤ Global = get_or rows k c.index-lists-k.result in
    let room : (e : Box Writers) → slice_index places k < length (get_or ws r e).value.lanes.cells.lists.items =
    λ e. omega (
      arith,
      (c.loop-k.invariant.rest r e (omega (arith, low, c.requires.writers.loops))).count,
      c.requires.placed.below k inside,
      c.requires.writers.each r e low,
    ) in
    let w : Box Writers = with_value (get_or ws o d) c.swap_one.new.one in
    let one : IsOne p places k rows ws c.swap_one.new.list w = record {
      inside = inside;
      there = there;
      low = in_rows;
      room = room;
      row_is = λ e f. c.swap_one.ensures.list
          ∙ ap (λ (u : Writers). get_or u.lanes.cells.lists.items c.index.result.now row) (is e)
          ∙ ap (λ (i : ℕ). get_or (get_or ws r e).value.lanes.cells.lists.items i row) at
          ∙ get_or_default (get_or ws r e).value.lanes.cells.lists.items (slice_index places k) row f (room e);
      lists_are = λ e f. c.swap_one.ensures.lists
          ∙ ap (λ (u : Writers). set u.lanes.cells.lists.items c.index.result.now row) (is e)
          ∙ ap (λ (i : ℕ). set (get_or ws r e).value.lanes.cells.lists.items i row) at
          ∙ ap (set (get_or ws r e).value.lanes.cells.lists.items (slice_index places k)) (get_or_default rows k c.index-lists-k.result f in_rows);
      same = λ e. subst (λ (u : Writers). SameButCells u c.swap_one.new.one) (is e) c.swap_one.ensures.rest;
    } in
    subst (λ (i : ℕ). AreSwappedSoFar p places (k + 1) c.args.lists.now (set rows k c.swap_one.new.list) c.args.writers.now (set ws i w)) (sym owner)
    (one_swapped p places counts c.requires.placed k rows ws c.swap_one.new.list w one c.args.lists.now c.args.writers.now c.loop-k.invariant)
