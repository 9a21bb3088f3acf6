use Rattle.std.proofs.Common.{◌≡◌, ◌<◌, ℕ, ℤ, List, [], length, get_or, ap, ap₂, rules, sym, ◌∙◌, arith, w32, to_z, of_z, to_z-of_z}
use Rattle.std.specs.Global.{Vec}
use Rattle.std.specs.Prelude.{slice_set}
use Rattle.std.specs.Vec.{with_items}
use Rattle.std.proofs.lemmas.List.{with_items_is, map-set, length-map, get_or-map, get_or-set_same}
use Rattle.fv_signal.specs.Tables.{read_at, written}
use Rattle.fv_loopcode.specs.headline.State.{list_at}
use Rattle.fv_split_plan.specs.Rows.{lists_of}
use Rattle.fv_engine.proofs.kept.KeptStore.exchange.Given.{Over}
use Rattle.fv_engine.proofs.kept.KeptStore.exchange.Goals.{After-exchange}
use Rattle.fv_engine.proofs.kept.KeptStore.exchange.Goals as goal

module _ (g : Over) (c : After-exchange g) where
  abbrev lists : List (Vec ℤ)
  lists = c.args.self.now.lists.now

  abbrev k : ℕ
  k = c.args.cells

  within : k < length lists
  within = let l = c.requires.there.0 in let m = length-map lists (λ (v : Vec ℤ). v.items) in omega (arith, l, m)

  -- the list of the cells, and what comes of it
  abbrev old : Vec ℤ
  old = get_or lists k c.index-self-cells.result

  abbrev new : Vec ℤ
  new = with_items old c.exchange.new.list

  old_is : list_at (lists_of lists) k ≡ old.items
  old_is = get_or-map (λ (v : Vec ℤ). v.items) lists k c.index-self-cells.result [] within

  new_is : new.items ≡ c.exchange.new.list
  new_is = with_items_is old c.exchange.new.list (omega (arith, c.exchange.auto.list, c.deref_mut.ensures.len, old.ok.0))

  w_is : to_z w32 (of_z w32 c.args.w) ≡ c.args.w
  w_is = to_z-of_z c.ranges.w

  x_is : to_z w32 (of_z w32 c.args.x) ≡ c.args.x
  x_is = to_z-of_z c.ranges.x

  put : lists_of (slice_set lists k new) ≡ slice_set (lists_of lists) k (written (list_at (lists_of lists) k) c.args.w c.args.x)
  put =
      map-set (λ (v : Vec ℤ). v.items) lists k new
      ∙ ap (λ (xs : List ℤ). slice_set (lists_of lists) k xs)
      (new_is ∙ c.exchange.ensures.list ∙ ap₂ (λ (w x : ℤ). written c.deref_mut.result.now w x) w_is x_is
      ∙ ap (λ (xs : List ℤ). written xs c.args.w c.args.x) (c.deref_mut.ensures.value ∙ sym old_is))

  item : list_at (lists_of (slice_set lists k new)) k ≡ c.exchange.new.list
  item =
      ap (λ (xs : List (List ℤ)). list_at xs k) (map-set (λ (v : Vec ℤ). v.items) lists k new)
      ∙ get_or-set_same (lists_of lists) k new.items [] (let l = c.requires.there.0 in omega (arith, l)) ∙ new_is

pub returns-clause-item : goal.returns-clause-item
returns-clause-item g c =
    let d = (goal.at.returns-clause-item g c).After-exchange in
    search rules ∙ c.exchange.ensures.item ∙ ap (λ (r : ℤ). read_at c.exchange.new.list r) (to_z-of_z c.ranges.r)
    ∙ ap (λ (xs : List ℤ). read_at xs c.args.r) (sym (item g d))

pub returns-clause-state : goal.returns-clause-state
returns-clause-state g c =
    let d = (goal.at.returns-clause-state g c).After-exchange in
    ap
    (λ (cells : List (List ℤ)).
    record { lanes = g.L.LaneStore.lanes c.args.self.now.lanes.now; tables = c.args.self.now.plan.now.tables; cells = cells })
    (put g d)
