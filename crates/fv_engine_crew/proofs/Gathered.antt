-- What the loops handed on, once their cells are back.
use Rattle.std.proofs.Common.{◌≡◌, ℕ, ◌<◌, List, length, get_or, refl, sym, ◌∙◌, subst, arith, inl, inr}
use Rattle.std.specs.Prelude.{Vec, ℤ}
use Rattle.std.specs.declared.alloc.Global.{Global}
use Rattle.std.specs.Global.{Vec as AnyVec, Box}
use Rattle.std.proofs.lemmas.Bool.{cases_lt}
use Rattle.std.proofs.lemmas.List.{get_or_past}
use Rattle.fv_split_plan.specs.headline.View.{PlanView, cells_info}
use Rattle.fv_lines.specs.declared.writer.LaneWriter.{LaneWriter}
use Rattle.fv_engine_codes.specs.Plans.{own_lanes}
use Rattle.fv_engine_codes.specs.Cells.{ArePlaced}
use Rattle.fv_engine_crew.specs.declared.start.Start.{Start}
use Rattle.fv_engine_crew.specs.declared.content.Writers.{Writers}
use Rattle.fv_engine_crew.specs.Contents.{tasks_in, AreWritersOf, AreCellsOf}
use Rattle.fv_engine_crew.proofs.lemmas.Handing.{element}
use Rattle.fv_engine_crew.specs.Collected.{AreAllCells}
use Rattle.fv_engine_crew.specs.Entries.{AreLoopsWriters, AreLoopsLanes}
use Rattle.fv_engine_crew.specs.Swapped.{HaveSlots, AreSwapped}
use Rattle.fv_engine_crew.proofs.Places.{cells_at, slot_at}

-- the loop of cells that have a place is there
pub owner_there : (p : PlanView) (places counts : List ℕ) → ArePlaced p places counts → (i : ℕ) → i < length p.cells → (cells_info p i).owner < p.loops
owner_there p places counts a i l = elim (cases_lt (cells_info p i).owner (length counts)) [
  | inl low ↦ omega (arith, low, a.loops)
  | inr high ↦ absurd (omega (arith, a.below i l, get_or_past counts (cells_info p i).owner 0 high))
]

module _ (k : Start) (v : ℕ) (loops : (tasks_in k).loops ≡ k.plan.now.loops) (ws : List (Box Writers)) (a : AreLoopsWriters k v ws) where
  pub have_slots : HaveSlots k.plan.now k.places.now.counts.items ws
  have_slots = record {
    loops = a.count ∙ loops;
    each = λ j d l. (a.each j d (omega (arith, l, loops))).cells.room;
  }

  module _ (before after : List (Vec ℤ Global)) (us : List (Box Writers))
      (swapped : AreSwapped k.plan.now k.places.now.places.items before after ws us) where
    pub lanes_left : AreLoopsLanes k v us
    lanes_left = record {
      count = swapped.count ∙ a.count;
      each = λ j d l.
          let same = swapped.rest j d (omega (arith, l, a.count)) in
          subst (λ (ls : AnyVec LaneWriter). AreWritersOf k (own_lanes k.plan.now j) v ls.items) (sym same.own) (a.each j d l).writers;
    }

    pub cells_back : ArePlaced k.plan.now k.places.now.places.items k.places.now.counts.items → length before ≡ length k.plan.now.cells
        → AreAllCells k v after
    cells_back placed long = record {
      count = swapped.lists ∙ long;
      each = λ f c i l.
          let j : ℕ = (cells_info k.plan.now i).owner in
          let low : j < k.plan.now.loops = owner_there k.plan.now k.places.now.places.items k.places.now.counts.items placed i l in
          let there : j < length ws = omega (arith, low, a.count, loops) in
          let d : Box Writers = element ws j there in
          let cells : AreCellsOf k j v (get_or ws j d).value.lanes.cells = (a.each j d (omega (arith, low, loops))).cells in
          swapped.taken i l ∙ slot_at k.plan.now k.places.now.places.items ws j d i there refl
          ∙ sym (cells_at k j (get_or ws j d).value.lanes.cells cells.plan cells.places cells.loop_no i l refl)
          ∙ cells.holds f c i l refl;
    }
