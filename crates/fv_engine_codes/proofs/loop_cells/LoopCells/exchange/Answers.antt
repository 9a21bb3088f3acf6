use Rattle.std.proofs.Common.{rules, ◌≡◌, ℕ, List, length, set, sym, ap, ap₂, ◌∙◌, subst, arith, ℤ, SFits, w32, to_z-of_z}
use Rattle.std.specs.Prelude.{slice_index, Vec}
use Rattle.std.specs.declared.alloc.Global.{Global}
use Rattle.std.specs.Vec.{with_items}
use Rattle.std.proofs.lemmas.List.{get_or_default, with_items_is}
use Rattle.fv_loopcode.specs.Tables.{read_at, written}
use Rattle.fv_loopcode.specs.headline.State.{list_at}
use Rattle.fv_loopcode.specs.Code.{HasItems}
use Rattle.fv_split_plan.specs.Rows.{lists_of}
use Rattle.fv_split_plan.specs.headline.View.{PlanView}
use Rattle.fv_engine_codes.specs.Cells.{by_number, cells_of}
use Rattle.fv_engine_codes.proofs.lemmas.CellsSet.{here, own_at, set_number}
use Rattle.fv_engine_codes.proofs.loop_cells.LoopCells.exchange.Goals as goal

pub index-requires : goal.index-requires
index-requires c =
    let s = c.args.self.now in
    let h = here s.plan.now s.places.now.places.items s.loop_no (lists_of s.lists.items) c.args.cells c.requires.there in
    omega (arith, h.there, c.requires.placed.count, s.places.now.places.ok)

pub exchange_in-requires : goal.exchange_in-requires
exchange_in-requires c =
    let s = c.args.self.now in
    let h = here s.plan.now s.places.now.places.items s.loop_no (lists_of s.lists.items) c.args.cells c.requires.there in
    let places : List ℕ = s.places.now.places.items in
    let at : c.index.result.now ≡ slice_index places c.args.cells =
    c.index.ensures ∙ get_or_default places c.args.cells c.index.result.now 0 (omega (arith, h.there, c.requires.placed.count)) in
    subst (λ (rows : List (Vec ℤ Global)). HasItems (lists_of rows) c.index.result.now) (sym c.deref_mut.ensures.value)
    (subst (HasItems (lists_of s.lists.items)) (sym at) h.items)

pub returns-clause-item : goal.returns-clause-item
returns-clause-item c =
    let s = c.args.self.now in
    let places : List ℕ = s.places.now.places.items in
    let h = here s.plan.now places s.loop_no (lists_of s.lists.items) c.args.cells c.requires.there in
    let at : c.index.result.now ≡ slice_index places c.args.cells =
    c.index.ensures ∙ get_or_default places c.args.cells c.index.result.now 0 (omega (arith, h.there, c.requires.placed.count)) in
    let is : (with_items s.lists c.exchange_in.new.lists).items ≡ c.exchange_in.new.lists =
    with_items_is s.lists c.exchange_in.new.lists (omega (arith, c.exchange_in.auto.lists, ap length c.deref_mut.ensures.value, s.lists.ok.0)) in
    let fits : SFits w32 c.exchange_in.result = search rules in
    to_z-of_z fits ∙ c.exchange_in.ensures.item
    ∙ ap₂ (λ (k : ℕ) (r : ℤ). read_at (list_at (lists_of c.exchange_in.new.lists) k) r) at (to_z-of_z c.ranges.r)
    ∙ sym (ap (λ (rows : List (Vec ℤ Global)). read_at (list_at (by_number s.plan.now places s.loop_no (lists_of rows)) c.args.cells) c.args.r) is
    ∙ ap (λ (xs : List ℤ). read_at xs c.args.r) (own_at s.plan.now places s.loop_no (lists_of c.exchange_in.new.lists) c.args.cells h.there h.owned))

pub returns-clause-cells : goal.returns-clause-cells
returns-clause-cells c =
    let s = c.args.self.now in
    let p : PlanView = s.plan.now in
    let places : List ℕ = s.places.now.places.items in
    let k : ℕ = c.args.cells in
    let old : List (List ℤ) = lists_of s.lists.items in
    let at : ℕ = slice_index places k in
    let h = here p places s.loop_no old k c.requires.there in
    let lists : lists_of c.exchange_in.new.lists ≡ set old at (written (list_at old at) c.args.w c.args.x) =
    c.exchange_in.ensures.lists
    ∙ ap₂ (λ (w x : ℤ). set (lists_of c.deref_mut.result.now) c.index.result.now
    (written (list_at (lists_of c.deref_mut.result.now) c.index.result.now) w x)) (to_z-of_z c.ranges.w) (to_z-of_z c.ranges.x)
    ∙ ap₂ (λ (rows : List (Vec ℤ Global)) (i : ℕ). set (lists_of rows) i (written (list_at (lists_of rows) i) c.args.w c.args.x))
    c.deref_mut.ensures.value
    (c.index.ensures ∙ get_or_default places k c.index.result.now 0 (omega (arith, h.there, c.requires.placed.count))) in
    let is : (with_items s.lists c.exchange_in.new.lists).items ≡ c.exchange_in.new.lists =
    with_items_is s.lists c.exchange_in.new.lists (omega (arith, c.exchange_in.auto.lists, ap length c.deref_mut.ensures.value, s.lists.ok.0)) in
    ap (λ (rows : List (Vec ℤ Global)). by_number p places s.loop_no (lists_of rows)) is ∙ ap (by_number p places s.loop_no) lists
    ∙ set_number p places s.loop_no s.places.now.counts.items c.requires.placed old k (written (list_at old at) c.args.w c.args.x) h
    ∙ ap (λ (xs : List ℤ). set (cells_of s) k (written xs c.args.w c.args.x)) (sym (own_at p places s.loop_no old k h.there h.owned))
