-- A board in which nothing was done shows the lean core's opening state.
use Rattle.std.proofs.Common.{◌≡◌, ◌≢◌, ℕ, zero, suc, ◌+◌, ◌<◌, true, false, ltb, ltb-true, List, [], ◌∷◌}
use Rattle.std.proofs.Common.{map, length, refl, sym, ap, ◌∙◌, subst, arith, Option, Some, None}
use mathlib.Core.Option.{some, some-injective, some-ne-none}
use lib.ListN.{get_elem?}
use Rattle.atomic_table.specs.Table.{State}
use Rattle.fv_graph.specs.Tasks.{bit, total}
use Rattle.fv_graph.specs.TasksBeside.{times}
use Rattle.fv_graph.specs.Net.{Net, need_count}
use Rattle.atomic_table.specs.Seated.{TableId}
use Rattle.fv_graph.specs.Graph.{Graph, net_of}
use Rattle.fv_graph.proofs.lemmas.Counts.{bit_true, bit_le, total_none}
use Rattle.fv_graph.specs.Core.{is_run, opening}
use Rattle.fv_graph.proofs.lemmas.Opens.{get_same, get_in, length_same, length_numbers, get_numbers, total_same}
use Rattle.fv_ready.specs.declared.view.Deed.{Deed}
use Rattle.fv_ready.specs.declared.view.About.{About}
use Rattle.fv_ready.specs.declared.view.View.{View}
use Rattle.fv_ready.specs.Rule.{arrives, finishes, wins, all}
use Rattle.fv_ready.specs.Shown.{worker_of, IsIdle}
use Rattle.fv_ready.specs.declared.seat.WorkerSeat.{WorkerSeat}
use Rattle.fv_ready.specs.Seats.{view_of}
use Rattle.fv_ready.specs.Begun.{AreFirstSeats}
use Rattle.fv_ready.specs.Steps.{Meets, ShowsNow, OpeningLaw}
use Rattle.fv_ready.proofs.lemmas.Claim.{total_ext}
use Rattle.fv_ready.proofs.lemmas.Splits.{sum_at, has_first, seat_idle, apart_of}

all_none : {C : Type 0} (f : Deed → ℕ) (views : List (View C)) → ((id : ℕ) (v : View C) → get_elem? views id ≡ some v → v.deeds ≡ []) → all f views ≡ 0
all_none f [] none' = refl
all_none f (x ∷ xs) none' = let a = ap (total f) (none' 0 x refl) in
    let r = all_none f xs (λ id v at. none' (id + 1) v (ap (get_elem? (x ∷ xs))
    (let q : id + 1 ≡ Rattle.std.proofs.Common.suc id = omega arith in q) ∙ at)) in omega arith

module _ {C Key : Type 0} (edge_of : C → ℕ) (key_of : C → Key) (a : About C) (s : State (Option C) (View C)) (h : Meets edge_of key_of a s)
    (fresh : (id : ℕ) (v : View C) → get_elem? s.views id ≡ some v → (v.board ≡ Some a) × (v.deeds ≡ [])) where
  abbrev n : Net
  n = net_of a.tasks.value.tasks

  none : (f : Deed → ℕ) → all f s.views ≡ 0
  none f = all_none f s.views (λ id v at. (fresh id v at).1)

  idle_at : (k : ℕ) → k < a.workers → IsIdle (opening n a.workers) k
  idle_at k l = record {
    there = omega (arith, length_same {X = Option ℕ} a.workers None);
    stays = get_in a.workers false true k l;
    runs =
        get_same a.workers None k;
    owes = get_same a.workers [] k;
  }

  has_number : (id : ℕ) (v : View C) → get_elem? s.views id ≡ some v → 0 < length v.numbers
  has_number id v at = h.has_one id v at (fresh id v at).0

  low : (id : ℕ) (v : View C) → get_elem? s.views id ≡ some v → worker_of v < a.workers
  low id v at = let p = sum_at (λ (y : View C). times (worker_of v) y.numbers) s.views id v at in
      let q = has_first v.numbers (has_number id v at) in let r = h.numbered (worker_of v) in
      ltb-true (worker_of v) a.workers (bit_true (ltb (worker_of v) a.workers) (omega arith))

  pub opens_so : ShowsNow a s (opening n a.workers)
  opens_so = record {
    long = (
      length_numbers 0 n.tasks (need_count n),
      length_same n.tasks false,
      length_same {X = List ℕ} a.workers [] ∙ sym
          (length_same {X = Option ℕ} a.workers None),
    );
    counts = λ t l. get_numbers 0 n.tasks (need_count n) t 1 l ∙ ap (need_count n) (let q : 0 + t ≡ t = omega arith in q)
        ∙ (let c = h.kept.counted t l in let z = total_ext (λ e. all (arrives e) s.views) (λ _. 0) (λ e. none (arrives e)) (n.needs t) in
        let y = total_none (n.needs t) in omega arith);
    done = λ t. ap bit (get_same n.tasks false t) ∙ sym (none (finishes t));
    running = λ t. let z = total_same (λ r. bit (is_run t r)) a.workers None refl in let f = none (finishes t) in let w = none (wins t) in omega arith;
    seat = λ id v at. seat_idle n (opening n a.workers) v (fresh id v at).1 (idle_at (worker_of v) (low id v at));
    apart = apart_of s.views (λ k. let r = h.numbered k in let b = bit_le (ltb k a.workers) in omega arith) has_number;
    idle = λ k l no. idle_at k l;
  }

-- seats that have done nothing
fresh_seats : {C Key : Type 0} (edge_of : C → ℕ) (key_of : C → Key) (id : TableId) (a : About C) (k : ℕ) (ss : List (WorkerSeat C)) →
    AreFirstSeats edge_of key_of id a k ss → (j : ℕ) (v : View C) → get_elem? (map view_of ss) j ≡ some v → (v.board ≡ Some a) × (v.deeds ≡ [])
fresh_seats edge_of key_of id a k [] are j v at = absurd (some-ne-none v (sym at))
fresh_seats edge_of key_of id a k (s ∷ ss) are zero v at =
    let e = sym (some-injective (view_of s) v at) ∙ are.0.view in (ap (λ (u : View _). u.board) e, ap (λ (u : View _). u.deeds) e)
fresh_seats edge_of key_of id a k (s ∷ ss) are (suc j) v at = fresh_seats edge_of key_of id a (suc k) ss are.1 j v at

-- a board whose views are those of its first seats shows the opening state of its tasks, by whatever name
pub opens_seats : {C Key : Type 0} (edge_of : C → ℕ) (key_of : C → Key) (id : TableId) (a : About C) (g : Graph) (workers : ℕ)
    (ss : List (WorkerSeat C)) → AreFirstSeats edge_of key_of id a 0 ss → a.tasks.value ≡ g → a.workers ≡ workers
    → (s : State (Option C) (View C)) → Meets edge_of key_of a s → s.views ≡ map view_of ss → ShowsNow a s (opening (net_of g.tasks) workers)
opens_seats edge_of key_of id a g workers ss are told many s h views =
    subst (λ (p : Graph × ℕ). ShowsNow a s (opening (net_of p.0.tasks) p.1)) (λ i. (told i, many i))
    (opens_so edge_of key_of a s h (λ j v at. fresh_seats edge_of key_of id a 0 ss are j v (ap (λ l. get_elem? l j) (sym views) ∙ at)))

pub opens : {C Key : Type 0} (edge_of : C → ℕ) (key_of : C → Key) → OpeningLaw edge_of key_of
opens edge_of key_of a s h fresh = opens_so edge_of key_of a s h fresh
