use Rattle.std.proofs.Common.{rules, ◌≡◌, ℕ, ◌<◌, List, [], length, map, get_or, set, sym, ap, ◌∙◌, arith, ap₂, ℤ, SFits, w32, to_z-of_z}
use Rattle.std.specs.Prelude.{Vec}
use Rattle.std.specs.declared.alloc.Global.{Global}
use Rattle.std.specs.Vec.{with_items}
use Rattle.std.proofs.lemmas.List.{length-map, map-set, get_or-map, get_or-set_same, with_items_is}
use Rattle.fv_loopcode.specs.Tables.{read_at, written}
use Rattle.fv_loopcode.specs.headline.State.{list_at}
use Rattle.fv_split_plan.specs.Rows.{lists_of}
use Rattle.fv_engine_codes.proofs.loop_cells.exchange_in.Goals as goal

abbrev items_of : Vec ℤ Global → List ℤ
items_of row = row.items

-- one of several lists that changes
put_list : (rows : List (Vec ℤ Global)) (at : ℕ) (row : Vec ℤ Global) → at < length rows → list_at (lists_of (set rows at row)) at ≡ row.items
put_list rows at row there =
    let inside : at < length (map items_of rows) = omega (arith, there, length-map rows items_of) in
    ap (λ (ls : List (List ℤ)). list_at ls at) (map-set items_of rows at row) ∙ get_or-set_same (map items_of rows) at row.items [] inside

pub returns-clause-item : goal.returns-clause-item
returns-clause-item c =
    let rows = c.args.lists.now in
    let at : ℕ = c.args.at in
    let there : at < length rows = omega (arith, c.requires.0, length-map rows items_of) in
    let was : Vec ℤ Global = get_or rows at c.index-lists-at.result in
    let row : Vec ℤ Global = with_items was c.exchange.new.list in
    let is : row.items ≡ c.exchange.new.list =
    with_items_is was c.exchange.new.list (omega (arith, c.exchange.auto.list, ap length c.deref_mut.ensures.value, was.ok.0)) in
    let fits : SFits w32 c.exchange.result = search rules in
    to_z-of_z fits ∙ c.exchange.ensures.item ∙ ap (read_at c.exchange.new.list) (to_z-of_z c.ranges.r)
    ∙ sym (ap (λ (xs : List ℤ). read_at xs c.args.r) (put_list rows at row there ∙ is))

pub returns-clause-lists : goal.returns-clause-lists
returns-clause-lists c =
    let rows = c.args.lists.now in
    let at : ℕ = c.args.at in
    let there : at < length rows = omega (arith, c.requires.0, length-map rows items_of) in
    let was : Vec ℤ Global = get_or rows at c.index-lists-at.result in
    let row : Vec ℤ Global = with_items was c.exchange.new.list in
    let is : row.items ≡ c.exchange.new.list =
    with_items_is was c.exchange.new.list (omega (arith, c.exchange.auto.list, ap length c.deref_mut.ensures.value, was.ok.0)) in
    let old : list_at (lists_of rows) at ≡ was.items = get_or-map items_of rows at c.index-lists-at.result [] there in
    map-set items_of rows at row
    ∙ ap (set (lists_of rows) at) (is ∙ c.exchange.ensures.list
    ∙ ap₂ (written c.deref_mut.result.now) (to_z-of_z c.ranges.w) (to_z-of_z c.ranges.x)
    ∙ ap (λ (xs : List ℤ). written xs c.args.w c.args.x) (c.deref_mut.ensures.value ∙ sym old))
