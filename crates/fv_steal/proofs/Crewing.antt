-- Workers with the parts of a crew are a crew.
use Rattle.std.proofs.Common.{◌≡◌, ℕ, zero, suc, ◌+◌, ◌<◌, ◌≤◌, List, [], ◌∷◌, map, length, get_or, replicate, refl, sym, ap, ◌∙◌, subst, arith, All}
use Rattle.std.proofs.lemmas.List.{length-map, length-replicate, get_or-replicate}
use Rattle.std.specs.Global.{Vec}
use Rattle.atomic_table.specs.Seated.{TableId}
use Rattle.fv_outside.specs.headline.Tasks.{Tasks, total}
use Rattle.fv_outside.specs.Tasks.{times, task_count}
use Rattle.fv_outside.specs.headline.Journal.{stamped}
use Rattle.fv_graph.specs.Graph.{net_of, inward, outward}
use Rattle.fv_graph.proofs.lemmas.Counts.{get_map}
use Rattle.fv_graph.specs.Core.{opening, deque_of, dealt, ready}
use Rattle.fv_ready.specs.declared.view.Deed.{Deed}
use Rattle.fv_ready.specs.declared.view.About.{About}
use Rattle.fv_ready.specs.declared.view.View.{View}
use Rattle.fv_ready.specs.Rule.{done_by, wins, claims, stamps, zeroes}
use Rattle.fv_ready.specs.declared.seat.WorkerSeat.{WorkerSeat}
use Rattle.fv_ready.specs.Begun.{IsFirstSeat, AreFirstSeats}
use Rattle.fv_steal.specs.declared.handles.TaskDeque.{TaskDeque}
use Rattle.fv_steal.specs.declared.handles.Victim.{Victim}
use Rattle.fv_steal.specs.Deques.{account_of, lies_at, robs, taken_by}
use Rattle.fv_steal.specs.declared.worker.Worker.{Worker}
use Rattle.fv_steal.specs.Crews.{did, number_of, seat_of, lines_of, lines_held, parcels_of, parcels_held, number_in, IsLineOf, IsWorker, IsEven, IsCrew}
use Rattle.fv_steal.specs.inner.Made.{puts_of, rest_of, rests_of, kept_of, HaveLent}
use Rattle.fv_steal.proofs.Deals.{kept_places, Kept}

-- worker i has the parts at place i, and room for all that can come
pub record IsMade {C : Type 0} (g : Tasks) (seats : List (WorkerSeat C)) (deques : List TaskDeque) (victims : List (Vec Victim)) (i : ℕ)
    (w : Worker C) : Type 0 where
  pub number : number_of w ≡ i
  pub seat : (d : WorkerSeat C) → seat_of w ≡ get_or seats i d
  pub deque : (d : TaskDeque) → w.deque ≡ get_or deques i d
  pub holds : (d : Vec Victim) → w.victims ≡ get_or victims i d
  pub no_lines : lines_of w ≡ []
  pub lines_room : task_count g ≤ lines_held w
  pub no_parcels : parcels_of w ≡ []
  pub parcels_room : (t : ℕ) → t < task_count g → (length (inward g t) ≤ parcels_held w) × (length (outward g t) ≤ parcels_held w)

-- two lists that agree place by place
pub map_two : {X Y Z : Type 0} (f : X → Z) (h : Y → Z) (xs : List X) (ys : List Y) → length xs ≡ length ys
    → ((i : ℕ) (d : X) (e : Y) → i < length xs → f (get_or xs i d) ≡ h (get_or ys i e)) → map f xs ≡ map h ys
map_two f h [] [] l k = refl
map_two f h [] (y ∷ ys) l k = absurd (omega arith)
map_two f h (x ∷ xs) [] l k = absurd (omega arith)
map_two f h (x ∷ xs) (y ∷ ys) l k = ap (λ z. z ∷ map f xs) (k 0 x y (omega arith))
    ∙ ap (λ zs. h y ∷ zs) (map_two f h xs ys (omega arith) (λ i d e q. k (suc i) d e (omega arith)))

-- the lists of the first seats are empty
module _ {C Key : Type 0} (edge_of : C → ℕ) (key_of : C → Key) (id : TableId) (a : About C) where
  pub seat_at : (k : ℕ) (ss : List (WorkerSeat C)) → AreFirstSeats edge_of key_of id a k ss → (i : ℕ) (d : WorkerSeat C) → i < length ss
      → IsFirstSeat edge_of key_of id a (k + i) (get_or ss i d)
  seat_at k [] h i d l = absurd (omega arith)
  seat_at k (s ∷ ss) h zero d l = subst (λ j. IsFirstSeat edge_of key_of id a j s) (let q : k ≡ k + 0 = omega arith in q) h.0
  seat_at k (s ∷ ss) h (suc i) d l = subst (λ j. IsFirstSeat edge_of key_of id a j (get_or ss i d)) (let q : suc k + i ≡ k + suc i = omega arith in q)
      (seat_at (suc k) ss h.1 i d (omega arith))

  abbrev g : Tasks
  g = a.tasks.value.tasks

  module _ (n : ℕ) (seats : List (WorkerSeat C)) (ds0 ds : List TaskDeque) (vss : List (Vec Victim)) (ws : List (Worker C))
      (first : AreFirstSeats edge_of key_of id a 0 seats) (crew : a.workers ≡ n) (many : length seats ≡ n)
      (deal : puts_of ds0 ≡ dealt n 0 (ready (net_of g)) (replicate n [])) (rests : rests_of ds0 ≡ replicate n (task_count g, 0, []))
      (lent : HaveLent n ds0 ds vss) (long : length ws ≡ n) (made : (i : ℕ) (d : Worker C) → i < length ws → IsMade g seats ds vss i (get_or ws i d)) where
    long0 : length ds0 ≡ n
    long0 = sym (length-map ds0 rest_of) ∙ ap length rests ∙ length-replicate n (task_count g, 0, [])

    rest_at : (i : ℕ) (d : TaskDeque) → i < n → rest_of (get_or ds0 i d) ≡ (task_count g, 0, [])
    rest_at i d l = let o = long0 in sym (get_map rest_of ds0 i d (rest_of d) (omega arith)) ∙ ap (λ r. get_or r i (rest_of d)) rests
        ∙ get_or-replicate n i (task_count g, 0, []) (rest_of d) l

    kept_at : (i : ℕ) (d : TaskDeque) → i < n → kept_of (get_or ds i d) ≡ kept_of (get_or ds0 i d)
    kept_at i d l = let o = long0 in let c = lent.count in
        sym (get_map kept_of ds i d (kept_of d) (omega arith)) ∙ ap (λ r. get_or r i (kept_of d)) lent.kept ∙ get_map kept_of ds0 i d (kept_of d) (omega arith)

    put_at : (i : ℕ) (d : TaskDeque) → i < n → (account_of (get_or ds i d)).put ≡ get_or (dealt n 0 (ready (net_of g)) (replicate n [])) i []
    put_at i d l = let o = long0 in ap (λ (q : Kept). q.2) (kept_at i d l)
        ∙ sym (get_map (λ (d : TaskDeque). (account_of d).put) ds0 i d [] (omega arith)) ∙ ap (λ p. get_or p i []) deal

    module _ (i : ℕ) (l : i < n) (w : Worker C) (m : IsMade g seats ds vss i w) (sd : WorkerSeat C) (dd : TaskDeque) (vd : Vec Victim) where
      at : IsFirstSeat edge_of key_of id a i w.seat
      at = subst (λ s. IsFirstSeat edge_of key_of id a i s) (sym (m.seat sd))
          (subst (λ j. IsFirstSeat edge_of key_of id a j (get_or seats i sd)) (let q : 0 + i ≡ i = omega arith in q) (seat_at 0 seats first i sd (omega arith)))

      nothing : (f : Deed → ℕ) → done_by f (did w) ≡ 0
      nothing f = ap (λ v. done_by f v) at.view

      taken_none : (account_of w.deque).taken ≡ []
      taken_none = ap (λ (d : TaskDeque). (account_of d).taken) (m.deque dd) ∙ ap (λ (q : Kept). q.1) (kept_at i dd l) ∙ ap (λ (r : ℕ × ℕ
          × List ℕ). r.2) (rest_at i dd l)

      pub worker_made : IsWorker edge_of key_of id a w
      worker_made = record {
        seat = at.seat;
        free = (at.hand, at.slots);
        number = ap (λ (v : View C). v.numbers) at.view ∙ ap (λ j. j ∷ []) (sym m.number);
        put = λ x. let z = nothing (zeroes (net_of g) x) in
            let p = ap (λ (d : TaskDeque). times x (account_of d).put) (m.deque dd) in let q = ap (times x) (put_at i dd l) in
            let r : times x (deque_of (opening (net_of g) a.workers) w.number) ≡ times x (get_or (dealt n 0 (ready (net_of g)) (replicate n [])) i []) =
            (λ j. times x (get_or (dealt (crew j) 0 (ready (net_of g)) (replicate (crew j) [])) (m.number j) [])) in omega arith;
        once = λ t. let z = nothing (wins t) in omega arith;
        within = λ t k. nothing (wins t);
        journal = record {
          each = λ t. ap (λ ls. times t (map (number_in g) ls)) m.no_lines ∙ sym (nothing (wins t));
          stamps = λ s. ap (stamped s) m.no_lines ∙ sym (nothing (stamps s));
          each_line = subst (λ ls. All (IsLineOf g w.number (did w)) ls) (sym m.no_lines) (λ k d q. absurd (omega arith));
        };
        deque_room = ap (λ (d : TaskDeque). d.room) (m.deque dd) ∙ ap (λ (q : Kept). q.0) (kept_at i dd l) ∙ ap (λ (r : ℕ × ℕ × List ℕ). r.0) (rest_at i dd l);
        lines_room = m.lines_room;
        parcels_room = m.parcels_room;
        no_parcels = m.no_parcels;
      }

      pub even_made : IsEven (net_of g) w
      even_made x k = let z = nothing (claims x) in let t = ap (times x) taken_none in let h = lent.long in
          let v = ap (λ (vs : Vec Victim). total (λ u. times x (taken_by u)) vs.items) (m.holds vd) in let e = lent.none i vd (omega arith) x in omega arith

      pub holds_made : map robs w.victims.items ≡ map lies_at ds
      holds_made = let h = lent.long in ap (λ (vs : Vec Victim). map robs vs.items) (m.holds vd) ∙ lent.holds i vd (omega arith)
          ∙ sym (kept_places ds0 ds lent.kept)

      pub lent_made : (account_of w.deque).lent ≡ n
      lent_made = let o = long0 in let p = ap (λ (d : TaskDeque). (account_of d).lent) (m.deque dd) in let q = lent.lent i dd (omega arith) in
          let r = ap (λ (r : ℕ × ℕ × List ℕ). r.1) (rest_at i dd l) in omega arith

    -- at each place
    pub crew_made : 0 < n → IsCrew edge_of key_of id a ws
    crew_made some = record {
      count = long ∙ sym crew;
      workers = λ i d l. worker_made i (let o = long in omega arith) (get_or ws i d) (made i d l) (seat_of_worker d) (deque_of_worker d) (holds_of_worker d);
      even = λ i d l. even_made i (let o = long in omega arith) (get_or ws i d) (made i d l) (seat_of_worker d) (deque_of_worker d) (holds_of_worker d);
      numbers = λ i d l. (made i d l).number;
      holds = λ i d l. holds_made i (let o = long in omega arith) (get_or ws i d) (made i d l) (seat_of_worker d) (deque_of_worker d) (holds_of_worker d)
          ∙ sym same_deques;
      lent = λ i d l. lent_made i (let o = long in omega arith) (get_or ws i d) (made i d l) (seat_of_worker d) (deque_of_worker d) (holds_of_worker d)
          ∙ sym long;
    }
      where
        seat_of_worker : Worker C → WorkerSeat C
        seat_of_worker w = w.seat

        deque_of_worker : Worker C → TaskDeque
        deque_of_worker w = w.deque

        holds_of_worker : Worker C → Vec Victim
        holds_of_worker w = w.victims

        same_deques : map (λ (u : Worker C). lies_at u.deque) ws ≡ map lies_at ds
        same_deques = map_two (λ (u : Worker C). lies_at u.deque) lies_at ws ds (let o = long0 in let c = lent.count in let p = long in omega arith)
            (λ i d e l. ap lies_at ((made i d l).deque e))
