use Rattle.std.proofs.Common.{◌≡◌, ℕ, ◌+◌, ◌<◌, ◌++◌, List, [], ◌∷◌, length, set, get_or, sym, ap, ◌∙◌, subst, arith}
use Rattle.std.specs.Prelude.{slice_index}
use Rattle.std.proofs.lemmas.List.{get_or_default}
use Rattle.fv_split_plan.specs.headline.View.{PlanView}
use Rattle.fv_split_plan.specs.declared.lane.CellsInfo.{CellsInfo}
use Rattle.fv_engine_codes.proofs.PlacedSoFar.{ArePlacedSoFar, owner_of, owner_there, one_placed}
use Rattle.fv_engine_codes.proofs.cells.place_cells.Goals as goal

abbrev none : CellsInfo
none = record { owner = 0; table = 0 }

pub index-requires : goal.index-requires
index-requires c =
    let p : PlanView = c.args.plan.now in
    let k : ℕ = c.loop-k.k in
    let inside : k < length p.cells = omega (arith, c.loop-k-test.true, ap length c.cells-cells.ensures) in
    omega (
      arith,
      ap (λ (cs : List CellsInfo). (get_or cs k none).owner) c.cells-cells.ensures,
      owner_there p c.loops.ensures.plan k inside,
      c.loop-k.invariant.placed.loops,
      c.loop-k.counts.ok,
    )

pub index_mut-requires : goal.index_mut-requires
index_mut-requires c =
    let p : PlanView = c.args.plan.now in
    let k : ℕ = c.loop-k.k in
    let inside : k < length p.cells = omega (arith, c.loop-k-test.true, ap length c.cells-cells.ensures) in
    omega (
      arith,
      ap (λ (cs : List CellsInfo). (get_or cs k none).owner) c.cells-cells.ensures,
      owner_there p c.loops.ensures.plan k inside,
      c.loop-k.invariant.placed.loops,
      c.loop-k.counts.ok,
    )

pub overflow_add-index_mut : goal.overflow_add-index_mut
overflow_add-index_mut c =
    let p : PlanView = c.args.plan.now in
    let k : ℕ = c.loop-k.k in
    let o : ℕ = (get_or c.cells-cells.result.now k none).owner in
    let inside : k < length p.cells = omega (arith, c.loop-k-test.true, ap length c.cells-cells.ensures) in
    let low : o < length c.loop-k.counts.items = omega (
      arith,
      ap (λ (cs : List CellsInfo). (get_or cs k none).owner) c.cells-cells.ensures,
      owner_there p c.loops.ensures.plan k inside,
      c.loop-k.invariant.placed.loops,
    ) in
    omega (
      arith,
      c.index_mut.ensures.value ∙ get_or_default c.loop-k.counts.items o c.index_mut.result.now 0 low,
      c.loop-k.invariant.placed.few o,
      c.loop-k.invariant.placed.count,
      c.loop-k.places.ok,
      c.loop-k.places.small,
    )

pub loop-k-preserved : goal.loop-k-preserved
loop-k-preserved c =
    let p : PlanView = c.args.plan.now in
    let k : ℕ = c.loop-k.k in
    let places : List ℕ = c.loop-k.places.items in
    let counts : List ℕ = c.loop-k.counts.items in
    let o : ℕ = (get_or c.cells-cells.result.now k none).owner in
    let inside : k < length p.cells = omega (arith, c.loop-k-test.true, ap length c.cells-cells.ensures) in
    let owner : owner_of p k ≡ o = sym (ap (λ (cs : List CellsInfo). (get_or cs k none).owner) c.cells-cells.ensures) in
    let there : owner_of p k < p.loops = owner_there p c.loops.ensures.plan k inside in
    let low : o < length counts = omega (arith, owner, there, c.loop-k.invariant.placed.loops) in
    let x : ℕ = c.index.result.now in
    let is : x ≡ slice_index counts (owner_of p k) =
    c.index.ensures ∙ get_or_default counts o x 0 low ∙ ap (slice_index counts) (sym owner) in
    let same : c.index_mut.result.now ≡ slice_index counts (owner_of p k) =
    c.index_mut.ensures.value ∙ get_or_default counts o c.index_mut.result.now 0 low ∙ ap (slice_index counts) (sym owner) in
    let more : c.index_mut.result.now + 1 ≡ x + 1 = omega (arith, is, same) in
    record {
      placed = subst (λ (xs : List ℕ). ArePlacedSoFar p (k + 1) xs (set counts o (c.index_mut.result.now + 1))) (sym c.push_reserved.ensures.items)
          (subst (λ (i : ℕ). ArePlacedSoFar p (k + 1) (places ++ x ∷ []) (set counts i (c.index_mut.result.now + 1))) owner
          (one_placed p k places counts x (c.index_mut.result.now + 1) there is more c.loop-k.invariant.placed));
      room = omega (arith, c.loop-k.invariant.room, c.push_reserved.ensures.capacity);
    }
