-- The running sum over any number of samples.
use Rattle.std.proofs.Common.{◌≡◌, ℕ, zero, suc, ◌+◌, ◌-◌, ◌≤◌, [], ◌∷◌, length, refl, sym, ap, ◌∙◌, subst, arith, ℤ, List}
use Rattle.std.proofs.lemmas.List.{length_push, length-take-le}
use Rattle.fv_loopcode.specs.declared.step.Step.{Step}
use Rattle.fv_loopcode.specs.headline.Lanes.{Lane, lane_of}
use Rattle.fv_loopcode.specs.headline.State.{State}
use Rattle.fv_loopcode.specs.headline.Code.{passed, opening, ran}
use Rattle.fv_loopcode.specs.Code.{MayPass, MayRun}
use Rattle.fv_loops_tests.specs.Codes.{running_sum}
use Rattle.fv_loops_tests.specs.Shelf.{lane_in, state_in, HasRoom}
use Rattle.fv_loops_tests.specs.declared.shelf.Shelf.{Shelf}

-- a lane with a history of one sample, n samples more, and room for count in all
pub record Holds (count n : ℕ) (lane : Lane) : Type 0 where
  pub history : lane.history ≡ 1
  pub long : length lane.items ≡ 1 + n
  pub room : lane.room ≡ count - n

module _ (held : ℕ → ℤ) (inputs : ℕ → ℕ → ℤ) (count : ℕ) (T C : List ℤ) (first : Lane) (begins : Holds count 0 first) where
  abbrev with_lane : Lane → State
  with_lane lane = record { lanes = lane ∷ []; tables = T ∷ []; cells = C ∷ [] }

  -- the lane after one sample more
  next : ℕ → Lane → Lane
  next n lane = lane_of (passed held (inputs (0 + n)) (0 + n) (opening (with_lane lane)) running_sum).state.lanes 0

  record Sums (n : ℕ) : Type 0 where
    lane : Lane
    is : ran running_sum held inputs 0 n (with_lane first) ≡ with_lane lane
    holds : Holds count n lane

  sums : (n : ℕ) → n ≤ count → Sums n
  unfolding next
  sums zero l = record { lane = first; is = refl; holds = begins }
  sums (suc n) l =
      let s = sums n (omega arith) in
      record {
        lane = next n s.lane;
        is = ap (λ state. (passed held (inputs (0 + n)) (0 + n) (opening state) running_sum).state) s.is;
        holds = record {
          history = s.holds.history;
          long = length_push s.lane.items _ ∙ (let h = s.holds.long in omega arith);
          room = let h = s.holds.room in omega arith;
        };
      }

  sums_may : MayRun running_sum held inputs 0 count (with_lane first)
  sums_may n l =
      let s = sums n (omega arith) in
      let h = s.holds in
      subst (λ state. MayPass held (inputs (0 + n)) (0 + n) (opening state) running_sum) (sym s.is) (
        tt,
        (
          tt,
          (
            tt,
            (
              tt,
              (
                (omega arith, record { not_before = omega (arith, h.history); written = omega (arith, h.history, h.long) }),
                (tt, ((omega arith, omega (arith, h.room)), tt)),
              ),
            ),
          ),
        ),
      )

-- it may run over a shelf with room for them
pub may_sum : (code : List Step) (held : ℕ → ℤ) (inputs : ℕ → ℕ → ℤ) (count : ℕ) (shelf : Shelf) → code ≡ running_sum → HasRoom shelf count →
    MayRun code held inputs 0 count (state_in shelf)
may_sum code held inputs count shelf is h =
    let first : Holds count 0 (lane_in shelf) = record {
      history = h.history;
      long = length-take-le shelf.written shelf.samples.items (let a = h.written in let b = h.room in omega arith)
          ∙ (let a = h.written in omega arith);
      room = (let a = h.written in let b = h.room in omega arith);
    } in
    subst (λ steps. MayRun steps held inputs 0 count (state_in shelf)) (sym is)
    (sums_may held inputs count shelf.table.items shelf.cells.items (lane_in shelf) first)
