-- After the work the crew's seats are all that the board has.
use Rattle.std.proofs.Common.{◌≡◌, ◌≢◌, ℕ, suc, ◌+◌, ◌<◌, ◌≤◌, List, [], ◌∷◌, map, length, get_or, ap, ◌∙◌, subst, arith, All, ◌==◌, refl}
use mathlib.Core.Logic.{dite}
use native.Mathlib.Decide.{ℕ_discrete}
use Rattle.fv_outside.specs.headline.Tasks.{bit, total}
use Rattle.fv_outside.specs.Tasks.{times}
use Rattle.fv_graph.proofs.lemmas.Counts.{bit_same, bit_apart}
use Rattle.fv_ready.specs.declared.board.Board.{Board}
use Rattle.fv_ready.specs.declared.seat.WorkerSeat.{WorkerSeat}
use Rattle.fv_ready.specs.Seats.{view_of}
use Rattle.fv_graph.specs.Graph.{Graph, net_of}
use Rattle.fv_ready.specs.Shown.{OwesNothing}
use Rattle.fv_ready.specs.Boards.{about_of, graph_of, AreSeatsOf}
use Rattle.fv_ready.proofs.lemmas.Seated.{owes_nothing}
use Rattle.fv_ready.specs.Counted.{HaveAll}
use Rattle.fv_steal.specs.declared.worker.Worker.{Worker}
use Rattle.fv_steal.specs.Crews.{did, seat_of, IsWorkerOf}
use Rattle.fv_steal.proofs.Drainings.{total_map}
use Rattle.fv_steal.proofs.Sums.{total_each}

-- the workers have the numbers from one on
abbrev AreNumbered : {C : Type 0} → ℕ → List (Worker C) → Type 0
AreNumbered {C} from ws = (i : ℕ) (d : Worker C) → i < length ws → (get_or ws i d).number ≡ from + i

module _ {C : Type 0} where
  none_below : (from k : ℕ) (ws : List (Worker C)) → AreNumbered from ws → k < from → total (λ w. bit (w.number == k)) ws ≡ 0
  none_below from k [] h low = refl
  none_below from k (w ∷ ws) h low = let e = h 0 w (omega arith) in let b = bit_apart w.number k (λ q. omega arith) in
      let r = none_below (suc from) k ws (λ i d l. h (suc i) d (omega arith) ∙ omega arith) (omega arith) in omega arith

  one_has : (from k : ℕ) (ws : List (Worker C)) → AreNumbered from ws → from ≤ k → k < from + length ws → total (λ w. bit (w.number == k)) ws ≡ 1
  one_has from k [] h low high = absurd (omega arith)
  one_has from k (w ∷ ws) h low high = let e = h 0 w (omega arith) in dite (ℕ_discrete w.number k)
      (λ q. let b = bit_same w.number k q in
      let r = none_below (suc from) k ws (λ i d l. h (suc i) d (omega arith) ∙ omega arith) (omega arith) in omega arith)
      (λ n. let b = bit_apart w.number k n in
      let r = one_has (suc from) k ws (λ i d l. h (suc i) d (omega arith) ∙ omega arith) (let z : from ≢ k = λ q. n (e ∙ omega arith) in omega arith)
      (omega arith) in omega arith)

module _ {C Key : Type 0} (edge_of : C → ℕ) (key_of : C → Key) (b : Board C Key) where
  pub seats_are : (ws : List (Worker C)) → All (λ w. IsWorkerOf edge_of key_of b w) ws → AreSeatsOf edge_of key_of b (map seat_of ws)
  seats_are [] h = tt
  seats_are (w ∷ ws) h = ((h 0 w (omega arith)).seat, seats_are ws (λ k d l. h (suc k) d (omega arith)))

  pub owe_nothing : (g : Graph) → (graph_of b) ≡ g → (ws : List (Worker C)) → All (λ w. IsWorkerOf edge_of key_of b w) ws
      → All (λ w. OwesNothing (net_of g.tasks) (did w)) ws
  owe_nothing g is ws h k d l = let w = h k d l in subst (λ (t : Graph). OwesNothing (net_of t.tasks) (did (get_or ws k d))) (b.told ∙ is)
      (owes_nothing edge_of key_of b (get_or ws k d).seat w.seat w.free.0 w.free.1)

  pub have_all : (ws : List (Worker C)) → 0 < length ws → length ws ≡ (about_of b).workers → All (λ w. IsWorkerOf edge_of key_of b w) ws
      → ((i : ℕ) (d : Worker C) → i < length ws → (get_or ws i d).number ≡ i) → HaveAll (about_of b).workers (map seat_of ws)
  have_all ws some long h numbers = (
    omega arith,
    λ k l. let m = total_map (λ (s : WorkerSeat C). times k (view_of s).numbers) (λ (w : Worker C). w.seat) ws in
        let e = total_each (λ (w : Worker C). times k (did w).numbers) (λ w. bit (w.number == k)) ws
        (λ i d j. let n = ap (times k) (h i d j).number in omega arith) in
        let o = one_has 0 k ws (λ i d j. numbers i d j ∙ omega arith) (omega arith) (omega arith) in omega arith,
  )
