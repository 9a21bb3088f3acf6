-- What is left in the deques is run, and nothing is left over.
use Rattle.std.proofs.Common.{◌≡◌, ℕ, zero, suc, ◌+◌, ◌<◌, List, [], ◌∷◌, map, length, get_or, set, refl, sym, ap, ◌∙◌, subst, arith, All, None, ◌==◌}
use Rattle.std.proofs.Common.{length-set}
use Rattle.fv_outside.specs.headline.Tasks.{Tasks, bit, total}
use Rattle.fv_outside.specs.Tasks.{times, task_count}
use Rattle.fv_graph.specs.Net.{need_count}
use Rattle.fv_graph.specs.Graph.{net_of}
use Rattle.fv_graph.proofs.lemmas.Counts.{total_set, get_set}
use Rattle.fv_graph.specs.Core.{opening, deque_of}
use Rattle.fv_ready.specs.Rule.{done_by, claims, zeroes}
use Rattle.fv_ready.specs.declared.board.Board.{Board}
use Rattle.fv_ready.specs.Seats.{view_of, slots_of, hand_of}
use Rattle.fv_ready.specs.Boards.{about_of, name_of}
use Rattle.fv_ready.specs.Counted.{NothingLeft}
use Rattle.fv_steal.specs.Deques.{account_of, lies_at, robs, taken_by}
use Rattle.fv_steal.specs.declared.worker.Worker.{Worker}
use Rattle.fv_steal.specs.Crews.{did, took, seat_of, IsWorkerOf, IsSame, IsCrew}
use Rattle.fv_steal.specs.inner.Gathers.{HoldAll, HaveGiven}
use Rattle.fv_steal.specs.inner.Drains.{HaveNone, AreDrained}
use Rattle.fv_steal.specs.inner.Turns.{HasTurned}
use Rattle.fv_steal.proofs.GivenBack.{map_each, none_of_map, below}
use Rattle.fv_steal.proofs.Giving.{same_or}
use Rattle.fv_steal.proofs.Sums.{total_each, total_plus, dealt_in_all}
use Rattle.fv_steal.proofs.TurnSteps.{worker_found, same_then}

-- totals of two lists that agree place by place
pub total_pair : {X : Type 0} (f : X → ℕ) (xs ys : List X) → length ys ≡ length xs → ((i : ℕ) (d : X) → i < length xs → f (get_or ys i d) ≡ f (get_or xs i d))
    → total f ys ≡ total f xs
total_pair f [] [] l h = refl
total_pair f [] (y ∷ ys) l h = absurd (omega arith)
total_pair f (x ∷ xs) [] l h = absurd (omega arith)
total_pair f (x ∷ xs) (y ∷ ys) l h = let a = h 0 x (omega arith) in let r = total_pair f xs ys (omega arith) (λ i d k. h (suc i) d (omega arith)) in omega arith

pub total_map : {X Y : Type 0} (f : Y → ℕ) (m : X → Y) (xs : List X) → total f (map m xs) ≡ total (λ x. f (m x)) xs
total_map f m [] = refl
total_map f m (x ∷ xs) = let r = total_map f m xs in omega arith

pub all_map : {X Y : Type 0} (P : Y → Type 0) (m : X → Y) (xs : List X) → All (λ x. P (m x)) xs → All P (map m xs)
all_map P m [] h k d l = absurd (omega arith)
all_map P m (x ∷ xs) h zero d l = h 0 x (omega arith)
all_map P m (x ∷ xs) h (suc k) d l = all_map P m xs (λ i e j. h (suc i) e (omega arith)) k d (omega arith)

module _ {C Key : Type 0} (edge_of : C → ℕ) (key_of : C → Key) (b : Board C Key) where
  module _ (g : Tasks) (old : List (Worker C)) where
    pub none_drained : All (λ w. IsWorkerOf edge_of key_of b w) old → AreDrained edge_of key_of b g 0 old old
    none_drained h = record {
      count = refl;
      workers = h;
      same = λ i d l. record { number = refl; place = refl; lent = refl; holds = refl };
      step = λ x l. refl;
      emptied = λ i d l k. absurd (omega arith);
    }

    module _ (k : ℕ) (now : List (Worker C)) (h : AreDrained edge_of key_of b g k old now) (there : k < length old) (r u : Worker C)
        (turned : HasTurned edge_of key_of b g (get_or now k r) u)
        (emptied : (x : ℕ) → times x (account_of u.deque).put ≡ times x (account_of u.deque).taken) where
      low : k < length now
      low = let c = h.count in omega arith

      pub one_drained : AreDrained edge_of key_of b g (k + 1) old (set now k u)
      one_drained = record {
        count = length-set now k u ∙ h.count;
        workers = λ i d l. get_set (λ w. IsWorkerOf edge_of key_of b w) now k i u d low (λ _. turned.worker) (λ _. h.workers i d (let s = length-set now k u in
            omega arith));
        same = λ i d l. get_set (λ w. IsSame (get_or old i d) w) now k i u d low
            (λ e. same_then (get_or old i d) (get_or now k r) u (subst (λ w. IsSame (get_or old i d) w) (ap (λ j. get_or now j d) e
            ∙ same_or now k d r low) (h.same i d l)) turned.same)
            (λ _. h.same i d l);
        step = λ x l. let s = turned.even x l in let q = h.step x l in let a = total_set (λ w. done_by (claims x) (did w)) now k u r low in
            let t = total_set (λ w. took w x) now k u r low in omega arith;
        emptied = λ i d l s x. get_set (λ w. times x (account_of w.deque).put ≡ times x (account_of w.deque).taken) now k i u d low
            (λ _. emptied x) (λ ne. h.emptied i d l (below i k s ne) x);
      }

  -- all workers, before their holds go back
  module _ (g : Tasks) (ws ws1 : List (Worker C)) (crew : IsCrew edge_of key_of (name_of b) (about_of b) ws) (long1 : length ws1 ≡ length ws)
      (turned1 : (i : ℕ) (d : Worker C) → i < length ws → HasTurned edge_of key_of b g (get_or ws i d) (get_or ws1 i d)) where
    pub hold_all : HoldAll ws1
    hold_all = record {
      holds = λ i d l. let j : i < length ws = let n = long1 in omega arith in
          (turned1 i d j).same.holds ∙ crew.holds i d j ∙ sym (map_each (λ (u : Worker C). lies_at u.deque) ws ws1 long1 (λ i d l. (turned1 i d l).same.place));
      lent = λ i d l. let j : i < length ws = let n = long1 in omega arith in (turned1 i d j).same.lent ∙ crew.lent i d j ∙ sym long1;
    }

    module _ (ws2 : List (Worker C)) (gave : HaveGiven (length ws1) ws1 ws2) where
      pub all_given : All (λ w. IsWorkerOf edge_of key_of b w) ws2
      all_given i d l = let j : i < length ws1 = let n = gave.count in omega arith in let k = gave.keeps i d j in
          worker_found edge_of key_of b (get_or ws1 i d) (get_or ws2 i d) (turned1 i d (let n = long1 in omega arith)).worker k

      pub none_out : HaveNone ws2
      none_out i d l = let n = gave.count in let q = gave.lent i d (omega arith) in omega arith

      module _ (some : 0 < length ws) (ws3 : List (Worker C)) (drained : AreDrained edge_of key_of b g (length ws2) ws2 ws3) where
        pub number_3 : (i : ℕ) (d : Worker C) → i < length ws → (get_or ws3 i d).number ≡ (get_or ws i d).number
        number_3 i d l = let n1 = long1 in let n2 = gave.count in
            (drained.same i d (omega arith)).number ∙ (gave.keeps i d (omega arith)).rest.1 ∙ (turned1 i d l).same.number

        pub long3 : length ws3 ≡ length ws
        long3 = drained.count ∙ gave.count ∙ long1

        pub same_numbers : map (λ w. w.number) ws3 ≡ map (λ w. w.number) ws
        same_numbers = map_each (λ (w : Worker C). w.number) ws ws3 long3 number_3

        -- after the drain no worker has a hold
        no_holds : (i : ℕ) (d : Worker C) → i < length ws3 → (get_or ws3 i d).victims.items ≡ []
        no_holds i d l = let n3 = drained.count in let n2 = gave.count in
            none_of_map robs (get_or ws3 i d).victims.items ((drained.same i d (omega arith)).holds
            ∙ ap (map robs) (gave.given i d (omega arith) (omega arith)))

        took_put : (x : ℕ) → total (λ w. took w x) ws3 ≡ total (λ w. times x (account_of w.deque).put) ws3
        took_put x = total_each (λ w. took w x) (λ w. times x (account_of w.deque).put) ws3
            (λ i d l. let n3 = drained.count in let e = drained.emptied i d (omega arith) (omega arith) x in
            let z = ap (λ vs. total (λ v. times x (taken_by v)) vs) (no_holds i d l) in omega arith)

        -- while the workers lived
        even1 : (x : ℕ) → x < task_count g → x < task_count (about_of b).tasks.value.tasks → (i : ℕ) (d : Worker C) → i < length ws1
            → done_by (claims x) (did (get_or ws1 i d)) ≡ took (get_or ws1 i d) x
        even1 x l l' i d j = let n = long1 in let e = (turned1 i d (omega arith)).even x l in let c = crew.even i d (omega arith) x l' in omega arith

        claims_took : (x : ℕ) → x < task_count g → x < task_count (about_of b).tasks.value.tasks
            → total (λ w. done_by (claims x) (did w)) ws3 ≡ total (λ w. took w x) ws3
        claims_took x l l' = let s = drained.step x l in let t = gave.took_all x in
            let c = total_pair (λ w. done_by (claims x) (did w)) ws1 ws2 gave.count (λ i d j. ap (λ s. done_by (claims x) (view_of s))
            (gave.keeps i d j).rest.0) in
            let e = total_each (λ w. done_by (claims x) (did w)) (λ w. took w x) ws1 (λ i d j. even1 x l l' i d j) in omega arith

        put_dealt : (x : ℕ) → x < task_count (about_of b).tasks.value.tasks → total (λ w. times x (account_of w.deque).put) ws3
            ≡ bit (need_count (net_of (about_of b).tasks.value.tasks) x == 0) + total (λ w. done_by (zeroes (net_of (about_of b).tasks.value.tasks) x)
            (did w)) ws3
        put_dealt x l =
            let n = net_of (about_of b).tasks.value.tasks in let c = crew.count in let s = some in let n3 = long3 in
            let p = total_each (λ w. times x (account_of w.deque).put) (λ w. times x (deque_of (opening n (about_of b).workers) w.number) + done_by
            (zeroes n x) (did w)) ws3
            (λ i d j. (drained.workers i d j).put x) in
            let q = total_plus (λ (w : Worker C). times x (deque_of (opening n (about_of b).workers) w.number)) (λ w. done_by (zeroes n x) (did w)) ws3 in
            let t = dealt_in_all (λ (w : Worker C). w.number) n (about_of b).workers ws3 x (omega arith) (omega arith)
            (λ i d j. number_3 i d (omega arith) ∙ crew.numbers i d (omega arith)) l in omega arith

        left_own : g ≡ (about_of b).tasks.value.tasks → NothingLeft (net_of (about_of b).tasks.value.tasks) (map seat_of ws3)
        left_own is = record {
          free = all_map (λ s. (hand_of s ≡ None) × (slots_of s ≡ [])) seat_of ws3 (λ i d l. (drained.workers i d l).free);
          claimed = λ x l. let n = net_of (about_of b).tasks.value.tasks in
              let a = total_map (λ s. done_by (claims x) (view_of s)) (λ (w : Worker C). w.seat) ws3 in
              let z = total_map (λ s. done_by (zeroes n x) (view_of s)) (λ (w : Worker C). w.seat) ws3 in
              let c = claims_took x (subst (λ (t : Tasks). x < task_count t) (sym is) l) l in let t = took_put x in let p = put_dealt x l in omega arith;
        }

        pub nothing_left : g ≡ (about_of b).tasks.value.tasks → NothingLeft (net_of g) (map seat_of ws3)
        nothing_left is = subst (λ (t : Tasks). NothingLeft (net_of t) (map seat_of ws3)) (sym is) (left_own is)
