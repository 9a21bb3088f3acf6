-- Code on a table and cells may run over any number of samples.
use Rattle.std.proofs.Common.{◌≡◌, ◌⊎◌, inl, inr, ℕ, zero, suc, ◌+◌, ◌<◌, ◌≤◌, List, [], ◌∷◌, length, refl, sym, ap, ◌∙◌, subst, arith, ℤ}
use Rattle.std.proofs.lemmas.List.{length-set, length_push, length-take-le}
use Rattle.fv_loopcode.specs.declared.step.Step.{Step}
use Rattle.fv_loopcode.specs.headline.Lanes.{Lane, lane_of}
use Rattle.fv_loopcode.specs.headline.State.{State, list_at}
use Rattle.fv_loopcode.specs.headline.Code.{passed, opening, ran}
use Rattle.fv_loopcode.specs.Code.{MayPass, MayRun}
use Rattle.fv_loops_tests.specs.Codes.{written_and_looked_up, written_again}
use Rattle.fv_loops_tests.specs.Shelf.{lane_in, state_in, HasRoom}
use Rattle.fv_loops_tests.specs.declared.shelf.Shelf.{Shelf}
use Rattle.fv_loops_tests.proofs.Sums.{Holds}

module _ (held : ℕ → ℤ) (inputs : ℕ → ℕ → ℤ) (T : List ℤ) (some : 0 < length T) where
  abbrev one_of_each : Lane → List ℤ → State
  one_of_each lane c = record { lanes = lane ∷ []; tables = T ∷ []; cells = c ∷ [] }

  module _ (lane : Lane) (first : List ℤ) (begins : 0 < length first) where
    -- the cells after one sample more
    next_items : ℕ → List ℤ → List ℤ
    next_items n c = list_at (passed held (inputs (0 + n)) (0 + n) (opening (one_of_each lane c)) written_and_looked_up).state.cells 0

    record Items (n : ℕ) : Type 0 where
      items : List ℤ
      is : ran written_and_looked_up held inputs 0 n (one_of_each lane first) ≡ one_of_each lane items
      long : 0 < length items

    items_at : (n : ℕ) → Items n
    unfolding next_items
    items_at zero = record { items = first; is = refl; long = begins }
    items_at (suc n) =
        let s = items_at n in
        record {
          items = next_items n s.items;
          is = ap (λ state. (passed held (inputs (0 + n)) (0 + n) (opening state) written_and_looked_up).state) s.is;
          long = subst (λ m. 0 < m) (sym (length-set s.items _ _)) s.long;
        }

    looked_up_may : (count : ℕ) → MayRun written_and_looked_up held inputs 0 count (one_of_each lane first)
    looked_up_may count n l =
        let s = items_at n in
        subst (λ state. MayPass held (inputs (0 + n)) (0 + n) (opening state) written_and_looked_up) (sym s.is)
        (tt, (tt, (tt, ((omega arith, s.long), ((omega arith, some), tt)))))

  module _ (count : ℕ) (first_lane : Lane) (first_items : List ℤ) (begins : Holds count 0 first_lane) (begin : 0 < length first_items) where
    -- the lane and the cells after one sample more
    next_lane : ℕ → Lane → List ℤ → Lane
    next_lane n lane c = lane_of (passed held (inputs (0 + n)) (0 + n) (opening (one_of_each lane c)) written_again).state.lanes 0

    next_cells : ℕ → Lane → List ℤ → List ℤ
    next_cells n lane c = list_at (passed held (inputs (0 + n)) (0 + n) (opening (one_of_each lane c)) written_again).state.cells 0

    record Both (n : ℕ) : Type 0 where
      lane : Lane
      items : List ℤ
      is : ran written_again held inputs 0 n (one_of_each first_lane first_items) ≡ one_of_each lane items
      holds : Holds count n lane
      long : 0 < length items

    both_at : (n : ℕ) → n ≤ count → Both n
    unfolding next_lane next_cells
    both_at zero l = record { lane = first_lane; items = first_items; is = refl; holds = begins; long = begin }
    both_at (suc n) l =
        let s = both_at n (omega arith) in
        record {
          lane = next_lane n s.lane s.items;
          items = next_cells n s.lane s.items;
          is = ap (λ state. (passed held (inputs (0 + n)) (0 + n) (opening state) written_again).state) s.is;
          holds = record {
            history = s.holds.history;
            long = length_push s.lane.items _ ∙ (let h = s.holds.long in omega arith);
            room = let h = s.holds.room in omega arith;
          };
          long = subst (λ m. 0 < m) (sym (length-set s.items _ _)) s.long;
        }

    again_may : MayRun written_again held inputs 0 count (one_of_each first_lane first_items)
    again_may n l =
        let s = both_at n (omega arith) in
        let h = s.holds in
        subst (λ state. MayPass held (inputs (0 + n)) (0 + n) (opening state) written_again) (sym s.is) (
          tt,
          (
            tt,
            (
              tt,
              (
                tt,
                (
                  (omega arith, record { not_before = omega (arith, h.history); written = omega (arith, h.history, h.long) }),
                  (tt, ((omega arith, s.long), ((omega arith, omega (arith, h.room)), ((omega arith, some), tt)))),
                ),
              ),
            ),
          ),
        )

-- it may run over a shelf with room for them
pub may_run : (code : List Step) (held : ℕ → ℤ) (inputs : ℕ → ℕ → ℤ) (count : ℕ) (shelf : Shelf) →
    (code ≡ written_and_looked_up) ⊎ (code ≡ written_again) → HasRoom shelf count → MayRun code held inputs 0 count (state_in shelf)
may_run code held inputs count shelf which h = elim which [
  | inl e ↦ subst (λ steps. MayRun steps held inputs 0 count (state_in shelf)) (sym e)
      (looked_up_may held inputs shelf.table.items h.table (lane_in shelf) shelf.cells.items h.cells count)
  | inr e ↦ subst (λ steps. MayRun steps held inputs 0 count (state_in shelf)) (sym e)
      (again_may held inputs shelf.table.items h.table count (lane_in shelf) shelf.cells.items (record {
        history = h.history;
        long = length-take-le shelf.written shelf.samples.items (let a = h.written in let b = h.room in omega arith)
            ∙ (let a = h.written in omega arith);
        room = (let a = h.written in let b = h.room in omega arith);
      }) h.cells)
]
