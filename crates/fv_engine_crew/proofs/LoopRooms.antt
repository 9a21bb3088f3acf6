-- The lists of the first loops of a plan.
use Rattle.std.proofs.Common.{◌≡◌, ◌*◌, ◌<◌, ℕ, ◌+◌, List, [], ◌∷◌, ◌++◌, length, get_or, sym, ap, ◌∙◌, subst, arith, inl, inr}
use Rattle.std.specs.Global.{Box}
use Rattle.std.proofs.lemmas.Bool.{cases_lt}
use Rattle.std.proofs.lemmas.List.{get_or_append_left}
use Rattle.std.proofs.Math.Seq.{get_or-append_seam}
use Rattle.fv_split_plan.specs.TasksBeside.{Tasks}
use Rattle.fv_split_plan.specs.headline.View.{PlanView, code_of}
use Rattle.fv_engine_codes.specs.Plans.{own_lanes, sources_of, lanes_of_all, readers_of}
use Rattle.fv_engine_codes.specs.declared.loop_cells.CellPlaces.{CellPlaces}
use Rattle.fv_engine_crew.specs.declared.content.Writers.{Writers}
use Rattle.fv_engine_crew.specs.Rooms.{IsRoom, HasCells, AreRooms}

-- the lists of loop j
pub record IsLoopRoom (p : PlanView) (g : Tasks) (places : CellPlaces) (j : ℕ) (w : Writers) : Type 0 where
  pub room : IsRoom (length (own_lanes p j)) (length (lanes_of_all p (sources_of g j))) (length (code_of p j)) (g.vectors * readers_of g j) w
  pub cells : HasCells p places j w.lanes.cells

-- those of the first n loops
abbrev pub AreFirstRooms : PlanView → Tasks → CellPlaces → ℕ → List (Box Writers) → Type 0
AreFirstRooms p g places n ws = (j : ℕ) (d : Box Writers) → j < n → IsLoopRoom p g places j (get_or ws j d).value

pub one_room : (p : PlanView) (g : Tasks) (places : CellPlaces) (n : ℕ) (ws : List (Box Writers)) (w : Box Writers) → length ws ≡ n
    → IsLoopRoom p g places n w.value → AreFirstRooms p g places n ws → AreFirstRooms p g places (n + 1) (ws ++ w ∷ [])
one_room p g places n ws w long here was = λ j d l. elim (cases_lt j n) [
  | inl low ↦ subst (λ (b : Box Writers). IsLoopRoom p g places j b.value) (sym (get_or_append_left ws (w ∷ []) d j (omega (arith, low, long))))
      (was j d low)
  | inr high ↦
      let z : n ≡ j = omega (arith, high, l) in
      let at : get_or (ws ++ w ∷ []) j d ≡ w = ap (λ (k : ℕ). get_or (ws ++ w ∷ []) k d) (sym z ∙ sym long) ∙ get_or-append_seam ws w [] d in
      subst (λ (b : Box Writers). IsLoopRoom p g places j b.value) (sym at) (subst (λ (k : ℕ). IsLoopRoom p g places k w.value) z here)
]

pub all_rooms : (p : PlanView) (g : Tasks) (places : CellPlaces) (n : ℕ) (ws : List (Box Writers)) → n ≡ p.loops → length ws ≡ n
    → AreFirstRooms p g places n ws → AreRooms p g places ws
all_rooms p g places n ws e long was = record {
  count = long ∙ e;
  each = λ j d l. (was j d (omega (arith, l, e))).room;
  cells = λ j d l. (was j d (omega (arith, l, e))).cells;
}
