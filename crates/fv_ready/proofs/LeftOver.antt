-- Where nothing is left over, every task is done: by induction on the order of tasks.
use Rattle.std.proofs.Common.{◌≡◌, ℕ, zero, suc, ◌+◌, ◌<◌, ◌≤◌, true, false, ◌&&◌, ltb, List, [], ◌∷◌, length, refl, sym, ap, ◌∙◌, subst}
use Rattle.std.proofs.Common.{arith, ◌==◌, Option, None, MatchOption, All}
use mathlib.Core.Logic.{dite}
use native.Mathlib.Decide.{ℕ_discrete}
use Rattle.atomic_table.specs.Seated.{TableId}
use Rattle.fv_graph.specs.Tasks.{bit, total}
use Rattle.fv_graph.specs.TasksBeside.{times}
use Rattle.fv_graph.specs.Net.{Net, IsNet, need_count}
use Rattle.fv_graph.specs.TasksBeside.{task_count}
use Rattle.fv_graph.specs.Graph.{Graph, IsGraph, net_of}
use Rattle.fv_graph.proofs.lemmas.Graphs.{is_wires}
use Rattle.fv_graph.proofs.lemmas.Counts.{bit_same, bit_apart, bit_one, bit_true, bit_false, bit_left, both_true}
use Rattle.fv_ready.specs.declared.view.Deed.{Deed}
use Rattle.fv_ready.specs.declared.view.Deed.TheVariants.{Stamped, Arrived, Saw, Claimed}
use Rattle.fv_ready.specs.declared.view.About.{About}
use Rattle.fv_ready.specs.Wired.{graph_wires}
use Rattle.fv_ready.specs.Rule.{wins, loses, claims, arrives, finishes, zeroes, done_by}
use Rattle.fv_ready.specs.Promised.{Tells}
use Rattle.fv_ready.specs.Carried.{IsFree, IsBusy}
use Rattle.fv_ready.specs.declared.seat.InHand.{InHand}
use Rattle.fv_ready.specs.declared.seat.WorkerSeat.{WorkerSeat}
use Rattle.fv_ready.specs.Seats.{view_of, slots_of, hand_of, IsSeat}
use Rattle.fv_ready.specs.Closed.{AreSeats}
use Rattle.fv_ready.specs.declared.board.Board.{Board}
use Rattle.fv_ready.specs.Boards.{name_of, about_of, tasks_of}
use Rattle.fv_ready.specs.Counted.{told_by, NothingLeft}

-- ---- lists of deeds
claimed_as : (t : ℕ) (ds : List Deed) → total (claims t) ds ≡ total (wins t) ds + total (loses t) ds
claimed_as t [] = refl
claimed_as t (Stamped k u b ∷ ds) = let r = claimed_as t ds in omega arith
claimed_as t (Arrived e c ∷ ds) = let r = claimed_as t ds in omega arith
claimed_as t (Saw u c ∷ ds) = let r = claimed_as t ds in omega arith
claimed_as t (Claimed u true ∷ ds) = let r = claimed_as t ds in omega arith
claimed_as t (Claimed u false ∷ ds) = let r = claimed_as t ds in omega arith

-- an arrival into t that had the count 0 was at some edge into t
record IsInto (n : Net) (t : ℕ) (ds : List Deed) : Type 0 where
  pub edge : ℕ
  pub into : n.reader edge ≡ t
  pub came : 0 < total (arrives edge) ds

zeroed_by : (n : Net) (t : ℕ) (ds : List Deed) → 0 < total (zeroes n t) ds → IsInto n t ds
zeroed_by n t [] h = absurd (omega arith)
zeroed_by n t (Stamped k u b ∷ ds) h = let r = zeroed_by n t ds (omega arith) in let k = r.came in record { edge = r.edge; into = r.into; came = omega arith }
zeroed_by n t (Saw u c ∷ ds) h = let r = zeroed_by n t ds (omega arith) in let k = r.came in record { edge = r.edge; into = r.into; came = omega arith }
zeroed_by n t (Claimed u b ∷ ds) h = let r = zeroed_by n t ds (omega arith) in let k = r.came in record { edge = r.edge; into = r.into; came = omega arith }
zeroed_by n t (Arrived e c ∷ ds) h = dite (ℕ_discrete (bit ((c == 0) && (n.reader e == t))) 0)
    (λ z. let r = zeroed_by n t ds (omega arith) in record { edge = r.edge; into = r.into; came = let c = r.came in omega arith })
    (λ some'. let b = both_true (c == 0) (n.reader e == t) (bit_true ((c == 0) && (n.reader e == t)) (omega arith)) in
    let o = bit_same e e refl in record { edge = e; into = bit_one (n.reader e) t (let q = ap bit b.1 in omega arith); came = omega arith })

module _ {C Key : Type 0} (edge_of : C → ℕ) (key_of : C → Key) (id : TableId) (a : About C) (graph : IsGraph a.tasks.value.tasks) where
  abbrev pub n : Net
  n = net_of a.tasks.value.tasks

  -- ---- seats that have nothing in hand
  abbrev IsIdle : WorkerSeat C → Type 0
  IsIdle s = IsFree graph_wires edge_of key_of a (view_of s) (slots_of s)

  idle : (s : WorkerSeat C) → IsSeat edge_of key_of id a s → hand_of s ≡ None → IsIdle s
  idle s h none = subst (λ (o : Option InHand). MatchOption o (IsIdle s) (λ r. IsBusy graph_wires edge_of key_of a r.task r.started (view_of s)
      (slots_of s))) none h.hand

  finished_all : (t : ℕ) (ss : List (WorkerSeat C)) → AreSeats edge_of key_of id a ss → All (λ s. (hand_of s ≡ None) × (slots_of s ≡ [])) ss
      → told_by (finishes t) ss ≡ told_by (wins t) ss
  finished_all t [] are free = refl
  finished_all t (s ∷ ss) are free = let f = idle s are.0 (free 0 s (omega arith)).0 in let p = f.finished t in
      let r = finished_all t ss are.1 (λ k d l. free (suc k) d (omega arith)) in omega arith

  -- each inner edge out of a task that is finished once has arrived once, and no other has
  some_bit : (k : ℕ) → k ≤ 1 → bit (ltb 0 k) ≡ k
  some_bit zero l = refl
  some_bit (suc k) l = let z : k ≡ 0 = omega arith in ap (λ j. bit (ltb 0 (suc j))) z ∙ ap suc (sym z)

  arrived_one : (e : ℕ) (s : WorkerSeat C) → IsSeat edge_of key_of id a s → (hand_of s ≡ None) × (slots_of s ≡ [])
      → done_by (arrives e) (view_of s) ≡ bit (n.is_inner e && ltb 0 (done_by (finishes (n.source e)) (view_of s)))
  arrived_one e s h free = let f = idle s h free.0 in let o = f.owed e in
      let z : times e (Rattle.fv_ready.specs.Rule.places (slots_of s)) ≡ 0 = ap (λ (l : List (ℕ
      × Option C)). times e (Rattle.fv_ready.specs.Rule.places l)) free.1 in omega arith

  arrived_all : (e : ℕ) → n.is_inner e ≡ true → (ss : List (WorkerSeat C)) → AreSeats edge_of key_of id a ss
      → All (λ s. (hand_of s ≡ None) × (slots_of s ≡ [])) ss → told_by (finishes (n.source e)) ss ≤ 1
      → told_by (arrives e) ss ≡ told_by (finishes (n.source e)) ss
  arrived_all e inner [] are free once = refl
  arrived_all e inner (s ∷ ss) are free once = let p = arrived_one e s are.0 (free 0 s (omega arith)) in
      let q = bit_left (n.is_inner e) (ltb 0 (done_by (finishes (n.source e)) (view_of s))) inner in
      let b = some_bit (done_by (finishes (n.source e)) (view_of s)) (omega arith) in
      let r = arrived_all e inner ss are.1 (λ k d l. free (suc k) d (omega arith)) (omega arith) in omega arith

  never : (e : ℕ) → n.is_inner e ≡ false → (ss : List (WorkerSeat C)) → AreSeats edge_of key_of id a ss
      → All (λ s. (hand_of s ≡ None) × (slots_of s ≡ [])) ss → told_by (arrives e) ss ≡ 0
  never e outer [] are free = refl
  never e outer (s ∷ ss) are free = let p = arrived_one e s are.0 (free 0 s (omega arith)) in
      let q : bit (n.is_inner e && ltb 0 (done_by (finishes (n.source e)) (view_of s))) ≡ 0 = ap (λ b. bit (b && ltb 0 (done_by (finishes (n.source e))
      (view_of s)))) outer in
      let r = never e outer ss are.1 (λ k d l. free (suc k) d (omega arith)) in omega arith

  claims_all : (t : ℕ) (ss : List (WorkerSeat C)) → told_by (claims t) ss ≡ told_by (wins t) ss + told_by (loses t) ss
  claims_all t [] = refl
  claims_all t (s ∷ ss) = let c = claimed_as t (view_of s).deeds in let r = claims_all t ss in omega arith

  -- a task that reads no other gets no arrival
  record IsCome (t : ℕ) (ss : List (WorkerSeat C)) : Type 0 where
    pub edge : ℕ
    pub into : n.reader edge ≡ t
    pub came : 0 < told_by (arrives edge) ss

  came_by : (t : ℕ) (ss : List (WorkerSeat C)) → 0 < told_by (zeroes n t) ss → IsCome t ss
  came_by t [] h = absurd (omega arith)
  came_by t (s ∷ ss) h = dite (ℕ_discrete (done_by (zeroes n t) (view_of s)) 0)
      (λ z. let r = came_by t ss (omega arith) in record { edge = r.edge; into = r.into; came = let c = r.came in omega arith })
      (λ some'. let r = zeroed_by n t (view_of s).deeds (omega arith) in record { edge = r.edge; into = r.into; came = let c = r.came in omega arith })

  module _ (ss : List (WorkerSeat C)) (are : AreSeats edge_of key_of id a ss) (told : Tells n (λ f. told_by f ss)) (left : NothingLeft n ss) where
    net : IsNet n
    net = (is_wires a.tasks.value.tasks graph).is_net

    some_among : (e : ℕ) (xs : List ℕ) → 0 < times e xs → 0 < length xs
    some_among e [] h = absurd (omega arith)
    some_among e (x ∷ xs) h = omega arith

    none_into : (t : ℕ) → t < n.tasks → need_count n t ≡ 0 → told_by (zeroes n t) ss ≡ 0
    none_into t there none = dite (ℕ_discrete (told_by (zeroes n t) ss) 0) (λ z. z)
        (λ some'. let r = came_by t ss (omega arith) in let c = r.came in
        let inner : n.is_inner r.edge ≡ true = bit_true (n.is_inner r.edge) (dite (ℕ_discrete (bit (n.is_inner r.edge)) 0)
        (λ z. let o = never r.edge (bit_false (n.is_inner r.edge) z) ss are left.free in absurd (omega arith)) (λ k. omega arith)) in
        let once = net.needs_once t r.edge there in let b = bit_left (n.is_inner r.edge) (n.reader r.edge == t) inner in
        let s = bit_same (n.reader r.edge) t r.into in let l = some_among r.edge (n.needs t) (omega arith) in absurd (omega arith))

    -- where all that a task reads is done, the task is done, and was claimed once
    record IsThrough (t : ℕ) : Type 0 where
      pub done : told_by (finishes t) ss ≡ 1
      pub never_late : told_by (loses t) ss ≡ 0

    through : (t : ℕ) → t < n.tasks → ((u : ℕ) → u < t → told_by (finishes u) ss ≡ 1) → IsThrough t
    through t there below =
        let came : (e : ℕ) → 0 < times e (n.needs t) → told_by (arrives e) ss ≡ 1 = λ e among.
        let once = net.needs_once t e there in
        let b = both_true (n.is_inner e) (n.reader e == t) (bit_true (n.is_inner e && (n.reader e == t)) (omega arith)) in
        let into = bit_one (n.reader e) t (let q = ap bit b.1 in omega arith) in
        let rise = net.rises e b.0 in let d = below (n.source e) (omega arith) in
        let r = arrived_all e b.0 ss are left.free (omega arith) in omega arith in
        let claimed : told_by (claims t) ss ≡ 1 = dite (ℕ_discrete (need_count n t) 0)
        (λ z. let c = left.claimed t there in let b = bit_same (need_count n t) 0 z in let o = none_into t there z in omega arith)
        (λ some'. let c = left.claimed t there in let b = bit_apart (need_count n t) 0 some' in let o = told.zeroed t there (omega arith) came in
        omega arith) in
        let c = claims_all t ss in let w = told.won_once t in
        let won : told_by (wins t) ss ≡ 1 = dite (ℕ_discrete (told_by (wins t) ss) 0)
        (λ z. let l = told.lost_won t there (omega arith) in absurd (omega arith)) (λ k. omega arith) in
        record { done = finished_all t ss are left.free ∙ won; never_late = omega arith }

    all_through : (k t : ℕ) → t < k → t < n.tasks → IsThrough t
    all_through zero t l there = absurd (omega arith)
    all_through (suc k) t l there = through t there (λ u m. (all_through k u (omega arith) (omega arith)).done)

    pub all_done : (t : ℕ) → t < n.tasks → told_by (finishes t) ss ≡ 1
    all_done t there = (all_through (suc t) t (omega arith) there).done

    pub none_late : (t : ℕ) → t < n.tasks → told_by (loses t) ss ≡ 0
    none_late t there = (all_through (suc t) t (omega arith) there).never_late

-- the same of a board
pub whole : {C Key : Type 0} (edge_of : C → ℕ) (key_of : C → Key) (b : Board C Key) (ss : List (WorkerSeat C))
    → AreSeats edge_of key_of (name_of b) (about_of b) ss → Tells (net_of (tasks_of b)) (λ f. told_by f ss) → NothingLeft (net_of (tasks_of b)) ss
    → (t : ℕ) → t < task_count (tasks_of b) → (told_by (finishes t) ss ≡ 1) × (told_by (loses t) ss ≡ 0)
whole edge_of key_of b ss are = subst (λ (k : Graph). IsGraph k.tasks → Tells (net_of k.tasks) (λ f. told_by f ss) → NothingLeft (net_of k.tasks) ss
    → (t : ℕ) → t < task_count k.tasks → (told_by (finishes t) ss ≡ 1) × (told_by (loses t) ss ≡ 0)) b.told
    (λ graph told left t l. (
      all_done edge_of key_of (name_of b) (about_of b) graph ss are told left t l,
      none_late edge_of key_of (name_of b)
          (about_of b) graph ss are told left t l,
    ))
    b.graph
