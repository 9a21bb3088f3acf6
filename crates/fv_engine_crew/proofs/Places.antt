-- The cells of a loop, where they stand.
use Rattle.std.proofs.Common.{◌≡◌, ℕ, ◌<◌, List, [], length, map, get_or, ap, ◌∙◌, ℤ}
use Rattle.std.specs.Prelude.{slice_index}
use Rattle.std.specs.Global.{Box}
use Rattle.std.proofs.lemmas.List.{get_or-map}
use Rattle.fv_loopcode_machine.specs.State.{list_at}
use Rattle.fv_split_plan.specs.headline.View.{PlanView, cells_info}
use Rattle.fv_split_plan.specs.Rows.{lists_of}
use Rattle.fv_engine_codes.specs.Cells.{by_number, cells_of}
use Rattle.fv_engine_codes.specs.declared.loop_cells.CellPlaces.{CellPlaces}
use Rattle.fv_engine_codes.specs.declared.loop_cells.LoopCells.{LoopCells}
use Rattle.fv_engine_codes.proofs.lemmas.CellsSet.{own_at}
use Rattle.fv_engine_crew.specs.declared.start.Start.{Start}
use Rattle.fv_engine_crew.specs.declared.content.Writers.{Writers}
use Rattle.fv_engine_crew.specs.Swapped.{cells_in, slot}

-- one of the loop's cells is the list at its place
pub cells_at : (k : Start) (j : ℕ) (cs : LoopCells) → cs.plan.now ≡ k.plan.now → cs.places.now ≡ k.places.now → cs.loop_no ≡ j
    → (i : ℕ) → i < length k.plan.now.cells → (cells_info k.plan.now i).owner ≡ j
    → list_at (cells_of cs) i ≡ list_at (lists_of cs.lists.items) (slice_index k.places.now.places.items i)
cells_at k j cs plan places loop_no i l e =
    let lists : List (List ℤ) = lists_of cs.lists.items in
    ap (λ (p : PlanView). list_at (by_number p cs.places.now.places.items cs.loop_no lists) i) plan
    ∙ ap (λ (q : CellPlaces). list_at (by_number k.plan.now q.places.items cs.loop_no lists) i) places
    ∙ ap (λ (n : ℕ). list_at (by_number k.plan.now k.places.now.places.items n lists) i) loop_no
    ∙ own_at k.plan.now k.places.now.places.items j lists i l e

-- and so is its slot
pub slot_at : (p : PlanView) (places : List ℕ) (ws : List (Box Writers)) (j : ℕ) (d : Box Writers) (i : ℕ) → j < length ws
    → (cells_info p i).owner ≡ j → slot p places ws i ≡ list_at (lists_of (get_or ws j d).value.lanes.cells.lists.items) (slice_index places i)
slot_at p places ws j d i l e =
    ap (λ (n : ℕ). list_at (get_or (map cells_in ws) n []) (slice_index places i)) e
    ∙ ap (λ (xs : List (List ℤ)). list_at xs (slice_index places i)) (get_or-map cells_in ws j d [] l)
