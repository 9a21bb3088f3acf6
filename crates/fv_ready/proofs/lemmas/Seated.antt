-- Each call keeps what a seat means.
use Rattle.std.proofs.Common.{◌≡◌, ℕ, zero, suc, ◌+◌, ◌*◌, ◌^◌, ◌<◌, ◌≤◌, Bool, true, false, cond, ltb}
use Rattle.std.proofs.Common.{◌&&◌, ◌||◌, lt-ltb, true≢false, List, [], ◌∷◌, ◌++◌, length, drop, refl, sym, ap, ◌∙◌, subst}
use Rattle.std.proofs.Common.{arith, ◌==◌, eq-eqb, ne_eqb, Option, Some, None, MatchOption, IsSomeAnd, IfSome, MatchBool, vec_capacity, length-append}
use Rattle.std.specs.Option.{IsSome}
use Rattle.std.specs.Global.{Vec}
use Rattle.std.proofs.lemmas.List.{length-map}
use mathlib.Core.Logic.{dite}
use native.Mathlib.Decide.{ℕ_discrete}
use Rattle.atomic_table.specs.Seated.{TableId}
use Rattle.atomic_table.specs.Table.{Me}
use Rattle.fv_graph.specs.Tasks.{Tasks, bit}
use Rattle.fv_graph.specs.TasksBeside.{times, task_count}
use Rattle.fv_graph.specs.Graph.{Graph, IsGraph, net_of, edges_of, stride, inward, outward, feeds_of}
use Rattle.fv_graph.specs.Graph.{pair_edge, pair_at, vector_of, loop_of, reader_of, is_entry, is_exit}
use Rattle.fv_graph.specs.Words.{passing}
use Rattle.fv_graph.proofs.lemmas.Graphs.{is_wires, further}
use Rattle.fv_graph.proofs.lemmas.Counts.{bit_same, total_append}
use Rattle.fv_ready.specs.declared.view.Deed.TheVariants.{Stamped, Arrived, Saw, Claimed}
use Rattle.fv_ready.specs.declared.view.About.{About}
use Rattle.fv_ready.specs.declared.view.View.{View}
use Rattle.fv_ready.specs.Wired.{graph_wires}
use Rattle.fv_ready.specs.Rule.{noted, places, Each, Took, IsFresh, going, done_by, finishes, arrives}
use Rattle.fv_ready.specs.Shown.{OwesNothing}
use Rattle.fv_ready.specs.Carried.{slot_at, with_slot, but_slot, MayHold, IsFree, IsBusy, AreHanded, IsMine, HasKey}
use Rattle.fv_ready.proofs.lemmas.Hands.{free_owes, free_noted, free_mine, busy_noted, busy_mine, claim_busy}
use Rattle.fv_ready.proofs.lemmas.Hands.{exchange_busy, arrive_free, free_turned, finish_free, places_with}
use Rattle.fv_ready.proofs.lemmas.Leaving.{leads, parts, dropped}
use Rattle.fv_ready.specs.declared.seat.InHand.{InHand}
use Rattle.fv_ready.specs.declared.seat.WorkerSeat.{WorkerSeat}
use Rattle.fv_ready.specs.declared.board.Board.{Board}
use Rattle.fv_ready.specs.Seats.{view_of, slots_of, hand_of, IsSeat}
use Rattle.fv_ready.specs.Boards.{about_of, tasks_of, IsHanded, IsSeatOf}
use Rattle.fv_ready.proofs.Found.{Parted, but_is}

counts_one : (k : ℕ) → 0 < k → bit (ltb 0 k) ≡ 1
counts_one k l = ap bit (lt-ltb 0 k l)

module _ {C Key : Type 0} (edge_of : C → ℕ) (key_of : C → Key) (a : About C) where
  abbrev pub Hand : Option InHand → View C → List (ℕ × Option C) → Type 0
  Hand o v c = MatchOption o (IsFree graph_wires edge_of key_of a v c) (λ r. IsBusy graph_wires edge_of key_of a r.task r.started v c)

  pub hand_seen : (o : Option InHand) (v : View C) (c : List (ℕ × Option C)) (t k : ℕ) → Hand o v c → Hand o (noted v (Saw t k)) c
  hand_seen None v c t k h = free_noted graph_wires edge_of key_of a v c (Saw t k) (λ x. refl) (λ x. refl) (λ x. refl) h
  hand_seen (Some r) v c t k h = busy_noted graph_wires edge_of key_of a v c r.task r.started r.started (Saw t k) (λ x. refl) (λ x. refl)
      (λ x. refl) (λ o. refl) (omega arith) h

  pub hand_mine : IsGraph a.tasks.value.tasks → (o : Option InHand) (v : View C) (c : List (ℕ × Option C)) → Hand o v c → Each
      (λ e _. IsMine graph_wires edge_of key_of a v e) c × Each (λ _ x. HasKey graph_wires edge_of key_of a v x) c
  hand_mine g None v c h = free_mine graph_wires edge_of key_of a (is_wires a.tasks.value.tasks g) v c h
  hand_mine g (Some r) v c h = busy_mine graph_wires edge_of key_of a (is_wires a.tasks.value.tasks g) v c r.task r.started h

  pub hand_with : (o : Option InHand) (v : View C) (c : List (ℕ × Option C)) (r : InHand) (e : ℕ) (y : Option C) → o ≡ Some r → MayHold
      graph_wires edge_of key_of a e y → Hand o v c → Hand o v (with_slot c e y)
  hand_with None v c r e y is m h = absurd (cc)
  hand_with (Some q) v c r e y is m h = exchange_busy graph_wires edge_of key_of a v c q.task q.started e y h m

  -- an edge that a seat owes: it has no task in hand
  pub hand_owes : (o : Option InHand) (v : View C) (c : List (ℕ × Option C)) (e : ℕ) → (net_of a.tasks.value.tasks).is_inner e ≡ true → 0 <
      done_by (finishes ((net_of a.tasks.value.tasks).source e)) v → done_by (arrives e) v ≡ 0 → Hand o v c → (o ≡ None) × (0 < times e (places c))
  hand_owes None v c e inner done new h = (
    refl,
    (let o = h.owed e in
        let l = counts_one (done_by (finishes ((net_of a.tasks.value.tasks).source e)) v) done in
        let k = ap (λ b. bit (b && ltb 0 (done_by (finishes ((net_of a.tasks.value.tasks).source e)) v))) inner in omega arith),
  )
  hand_owes (Some r) v c e inner done new h = absurd (let o = h.arrived e in
      let l = counts_one (done_by (finishes ((net_of a.tasks.value.tasks).source e)) v) done in
      let k = ap (λ b. bit (b && ltb 0 (done_by (finishes ((net_of a.tasks.value.tasks).source e)) v))) inner in omega arith)

-- a task has at most one edge for each pair, and one more, on either side
long_passing : (p : ℕ → Bool) (from n : ℕ) → length (passing p from n) ≤ n
long_passing p from zero = omega arith
long_passing p from (suc n) = let r = long_passing p (suc from) n in pick (p from) (passing p (suc from) n) r
  where
    pick : (b : Bool) (xs : List ℕ) → length xs ≤ n → length (cond b (from ∷ xs) xs) ≤ suc n
    pick true xs l = omega arith
    pick false xs l = omega arith

pub edges_fit : (g : Tasks) (t : ℕ) → length (inward g t) + length (outward g t) ≤ 2 * (length g.reads + 1)
edges_fit g t =
    let i = length-map (passing (λ k. (pair_at g k).reader == loop_of g t) 0 (length g.reads)) (λ k. pair_edge g k (vector_of g t)) in
    let o = length-map (passing (λ k. (pair_at g k).source == loop_of g t) 0 (length g.reads)) (λ k. pair_edge g k (vector_of g t)) in
    let li = long_passing (λ k. (pair_at g k).reader == loop_of g t) 0 (length g.reads) in
    let lo = long_passing (λ k. (pair_at g k).source == loop_of g t) 0 (length g.reads) in omega arith

pub reads_fit : (g : Tasks) → 0 < g.vectors → length g.reads ≤ edges_of g
reads_fit g some' = let f = further 0 g.vectors (stride g) some' in omega arith

-- a seat after a call
module _ {C Key : Type 0} (edge_of : C → ℕ) (key_of : C → Key) (a : About C) (id : TableId) where
  pub seat_after : (s t : WorkerSeat C) (v : View C) (c : List (ℕ × Option C)) → IsSeat edge_of key_of id a s → t.seat.table_id ≡
      s.seat.table_id → view_of t ≡ v → slots_of t ≡ c → v.board ≡ Some a
      → places c ≡ t.edges.items → vec_capacity s.edges ≤ vec_capacity t.edges → Hand edge_of key_of a t.in_hand v c → IsSeat edge_of key_of id a t
  seat_after s t v c h same view slots board mirror room hand = record {
    name = same ∙ h.name;
    board = ap (λ (u : View C). u.board) view ∙ board;
    mirror = ap places slots ∙ mirror;
    room = λ x l. let q = h.room x l in omega arith;
    hand = subst (λ (p : View C × List (ℕ × Option C)). Hand edge_of key_of a t.in_hand p.0 p.1) (λ i. (sym view i, sym slots i)) hand;
  }

-- what a board was told of its tasks, which the code has by another name
module _ {C Key : Type 0} (b : Board C Key) where
  pub told_graph : IsGraph (about_of b).tasks.value.tasks
  told_graph = subst (λ (k : Graph). IsGraph k.tasks) (sym b.told) b.graph

  pub told_below : (t : ℕ) → t < task_count (tasks_of b) → t < task_count (about_of b).tasks.value.tasks
  told_below t h = subst (λ (k : Graph). t < task_count k.tasks) (sym b.told) h

  pub told_few : task_count (about_of b).tasks.value.tasks < 2 ^ 62
  told_few = let p = b.few.0 in let q = b.few.1 in subst (λ (k : Graph). task_count k.tasks < 2 ^ 62) (sym b.told) (omega arith)

module _ {C Key : Type 0} (edge_of : C → ℕ) (key_of : C → Key) (b : Board C Key) (s : WorkerSeat C) (h : IsSeatOf edge_of key_of b s) where
  -- the task in hand
  pub busy_of : (r : InHand) → hand_of s ≡ Some r → IsBusy graph_wires edge_of key_of (about_of b) r.task r.started (view_of s) (slots_of s)
  busy_of r is = subst (λ o. Hand edge_of key_of (about_of b) o (view_of s) (slots_of s)) is h.hand

  -- no task in hand
  pub free_of : hand_of s ≡ None → IsFree graph_wires edge_of key_of (about_of b) (view_of s) (slots_of s)
  free_of is = subst (λ o. Hand edge_of key_of (about_of b) o (view_of s) (slots_of s)) is h.hand

  pub owes_nothing : hand_of s ≡ None → slots_of s ≡ [] → OwesNothing (net_of (about_of b).tasks.value.tasks) (view_of s)
  owes_nothing is empty = free_owes graph_wires edge_of key_of (about_of b) (view_of s)
      (subst (λ l. IsFree graph_wires edge_of key_of (about_of b) (view_of s) l) empty (free_of is))

module _ {C Key : Type 0} (edge_of : C → ℕ) (key_of : C → Key) (a : About C) where
  -- a claim that is lost
  pub hand_lost : (v : View C) (c : List (ℕ × Option C)) (t : ℕ) → Hand edge_of key_of a None v c → Hand edge_of key_of a None (noted v (Claimed t false)) c
  hand_lost v c t h = free_noted graph_wires edge_of key_of a v c (Claimed t false) (λ x. refl) (λ x. refl) (λ x. refl) h

  -- a start
  pub hand_started : (v : View C) (c : List (ℕ × Option C)) (t k : ℕ) → IsBusy graph_wires edge_of key_of a t false v c → IsBusy
      graph_wires edge_of key_of a t true (noted v (Stamped k t true)) c
  hand_started v c t k h = busy_noted graph_wires edge_of key_of a v c t false true (Stamped k t true) (λ x. refl) (λ x. refl) (λ x. refl)
      (λ o. refl) (let b = bit_same t t refl in omega arith) h

  -- a finish
  module _ (graph : IsGraph a.tasks.value.tasks) (v : View C) (c : List (ℕ × Option C)) (t : ℕ)
      (busy : IsBusy graph_wires edge_of key_of a t true v c) (handed : AreHanded graph_wires edge_of key_of a t c) where
    pub left_is : drop (going graph_wires edge_of key_of a t) c ≡ (parts graph_wires edge_of key_of a (is_wires a.tasks.value.tasks graph)
        v c t busy handed (leads a.tasks.value.tasks t)).back
    left_is = dropped graph_wires edge_of key_of a (is_wires a.tasks.value.tasks graph) v c t busy handed (leads a.tasks.value.tasks t)

    pub hand_finished : (k : ℕ) → IsFree graph_wires edge_of key_of a (noted v (Stamped k t false)) (drop (going graph_wires edge_of key_of a t) c)
    hand_finished k = subst (λ l. IsFree graph_wires edge_of key_of a (noted v (Stamped k t false)) l) (sym left_is)
        (finish_free graph_wires edge_of key_of a (is_wires a.tasks.value.tasks graph) v c t true busy handed
        (leads a.tasks.value.tasks t).exits (leads a.tasks.value.tasks t).is k)

    pub places_left : places (drop (going graph_wires edge_of key_of a t) c) ≡ feeds_of a.tasks.value.tasks t
    places_left = ap places left_is ∙ (parts graph_wires edge_of key_of a (is_wires a.tasks.value.tasks graph) v c t busy handed
        (leads a.tasks.value.tasks t)).back_at

  -- an arrival at an edge that the seat owes
  module _ (v : View C) (c : List (ℕ × Option C)) (xs ys : List ℕ) (e : ℕ) (p : Parted c xs ys e) (first : times e xs ≡ 0)
      (free : IsFree graph_wires edge_of key_of a v c) where
    -- with its slot in front
    pub free_front : IsFree graph_wires edge_of key_of a v ((e, p.x) ∷ (p.back ++ p.front))
    free_front = free_turned graph_wires edge_of key_of a v p.front ((e, p.x) ∷ p.back) (subst (λ l. IsFree graph_wires edge_of key_of a v l) p.is free)

    pub hand_arrived : (k : ℕ) → IsFree graph_wires edge_of key_of a (noted v (Arrived e k)) (but_slot c e)
    hand_arrived k = subst (λ l. IsFree graph_wires edge_of key_of a (noted v (Arrived e k)) l) (sym (but_is c xs ys e p first))
        (free_turned graph_wires edge_of key_of a (noted v (Arrived e k)) p.back p.front
        (arrive_free graph_wires edge_of key_of a v e p.x (p.back ++ p.front) k free_front))

  -- what a slot holds names its edge, and has the board's key
  pub may_at : (c : List (ℕ × Option C)) (e : ℕ) (p : C) → Each (λ e x. MayHold graph_wires edge_of key_of a e x) c → slot_at c e ≡ Some p
      → (edge_of p ≡ e) × (key_of p ≡ key_of a.sample.value)
  may_at [] e p h is = absurd (cc)
  may_at (x ∷ xs) e p h is = dite (ℕ_discrete x.0 e)
      (λ s. let m = h.0 p (subst (λ b. cond b x.1 (slot_at xs e) ≡ Some p) (eq-eqb x.0 e s) is) in (m.0 ∙ s, m.1))
      (λ n. may_at xs e p h.1 (subst (λ b. cond b x.1 (slot_at xs e) ≡ Some p) (ne_eqb x.0 e n) is))

-- the parcels that are handed, of the tasks that the board was told
pub told_handed : {C Key : Type 0} (edge_of : C → ℕ) (key_of : C → Key) (b : Board C Key) (t : ℕ) (s : WorkerSeat C) → IsHanded b t s →
    AreHanded graph_wires edge_of key_of (about_of b) t (slots_of s)
told_handed {C} edge_of key_of b t s h =
    subst (λ (k : Graph). (e : ℕ) → 0 < times e (outward k.tasks t) → (p : C) × (slot_at (slots_of s) e ≡ Some p)) (sym b.told) h

-- the edges that a task owes are among its edges
pub feeds_fit : {C : Type 0} (a : About C) (g : Graph) (t : ℕ) → a.tasks.value ≡ g → length (feeds_of g.tasks t) ≤ length
    (inward a.tasks.value.tasks t) + length (outward a.tasks.value.tasks t)
feeds_fit a g t told = let l = leads a.tasks.value.tasks t in let k = ap length l.is ∙ length-append l.exits (feeds_of a.tasks.value.tasks t) in
    let e = ap (λ (k : Graph). length (feeds_of k.tasks t)) told in omega arith

either_first : (x y z : Bool) → x ≡ true → (x || y || z) ≡ true
either_first true y z e = refl
either_first false y z e = absurd (true≢false (sym e))

-- an edge that a seat owes: it has no task in hand, and has the edge's slot
pub record Owes {C Key : Type 0} (edge_of : C → ℕ) (key_of : C → Key) (a : About C) (s : WorkerSeat C) (e : ℕ) : Type 0 where
  pub inner : (net_of a.tasks.value.tasks).is_inner e ≡ true
  pub done : 0 < done_by (finishes ((net_of a.tasks.value.tasks).source e)) (view_of s)
  pub new : done_by (arrives e) (view_of s) ≡ 0
  pub hand : hand_of s ≡ None
  pub has : 0 < times e (places (slots_of s))
  pub free : IsFree graph_wires edge_of key_of a (view_of s) (slots_of s)

pub owes_of : {C Key : Type 0} (edge_of : C → ℕ) (key_of : C → Key) (b : Board C Key) (s : WorkerSeat C) (e : ℕ) → IsSeatOf edge_of key_of b s →
    (net_of (tasks_of b)).is_inner e ≡ true → (0 < done_by (finishes ((net_of (tasks_of b)).source e)) (view_of s)) × (done_by (arrives e) (view_of s) ≡ 0)
    → Owes edge_of key_of (about_of b) s e
owes_of edge_of key_of b s e h inner owed =
    let inner' = subst (λ (k : Graph). (net_of k.tasks).is_inner e ≡ true) (sym b.told) inner in
    let done' = subst (λ (k : Graph). 0 < done_by (finishes ((net_of k.tasks).source e)) (view_of s)) (sym b.told) owed.0 in
    let o = hand_owes edge_of key_of (about_of b) (hand_of s) (view_of s) (slots_of s) e inner' done' owed.1 h.hand in
    record { inner = inner'; done = done'; new = owed.1; hand = o.0; has = o.1; free = free_of edge_of key_of b s h o.0 }

-- an inner edge is an edge, and its reader a task
pub inner_fits : (g : Tasks) → IsGraph g → (e : ℕ) → (net_of g).is_inner e ≡ true → (e < edges_of g) × (reader_of g e < task_count g)
inner_fits g h e inner = let w = is_wires g h in
    (w.in_range e (either_first ((net_of g).is_inner e) (is_entry g e) (is_exit g e) inner), (w.is_net.rises e inner).1)

-- the other way round
pub hand_none : {C Key : Type 0} (edge_of : C → ℕ) (key_of : C → Key) (a : About C) (o : Option InHand) (v : View C)
    (c : List (ℕ × Option C)) → o ≡ None → IsFree graph_wires edge_of key_of a v c → Hand edge_of key_of a o v c
hand_none edge_of key_of a o v c none' h = subst (λ o. Hand edge_of key_of a o v c) (sym none') h

-- what a seat with a task in hand is told of it
pub some_of : {X : Type 0} (o : Option X) (P : X → Type 0) → IsSomeAnd o P → IsSome o
some_of None P h = absurd h
some_of (Some x) P h = refl

pub some_at : {X : Type 0} (o : Option X) (P : X → Type 0) (x : X) → o ≡ Some x → IsSomeAnd o P → P x
some_at o P x is h = subst (λ k. IsSomeAnd k P) is h

pub if_some : {X : Type 0} (o : Option X) (P : X → Type 0) (x : X) → o ≡ Some x → P x → IfSome o P
if_some o P x is h = subst (λ k. IfSome k P) (sym is) h

module _ {C Key : Type 0} (edge_of : C → ℕ) (key_of : C → Key) (a : About C) where
  hand_each : (o : Option InHand) (P : InHand → Type 0) (v : View C) (c : List (ℕ × Option C)) → IsSomeAnd o P → Hand edge_of key_of a o v
      c → Each (λ e x. MayHold graph_wires edge_of key_of a e x) c
  hand_each None P v c p h = absurd p
  hand_each (Some r) P v c p h = h.may

  pub hand_may : (o : Option InHand) (P : InHand → Type 0) (v : View C) (c : List (ℕ × Option C)) (e : ℕ) (p : C) → IsSomeAnd o P → Hand
      edge_of key_of a o v c → slot_at c e ≡ Some p → (edge_of p ≡ e) × (key_of p ≡ key_of a.sample.value)
  hand_may o P v c e p some' h is = may_at edge_of key_of a c e p (hand_each o P v c some' h) is

  hand_kept : (o : Option InHand) (P : InHand → Type 0) (v : View C) (c : List (ℕ × Option C)) (e : ℕ) (y : Option C) → IsSomeAnd o P →
      MayHold graph_wires edge_of key_of a e y → Hand edge_of key_of a o v c → Hand edge_of key_of a o v (with_slot c e y)
  hand_kept None P v c e y p m h = absurd p
  hand_kept (Some r) P v c e y p m h = exchange_busy graph_wires edge_of key_of a v c r.task r.started e y h m

  -- the edges of the task in hand have slots
  pub hand_inward : (g : Graph) → a.tasks.value ≡ g → (o : Option InHand) (v : View C) (c : List (ℕ × Option C)) (e : ℕ) → IsSomeAnd o
      (λ r. 0 < times e (inward g.tasks r.task)) → Hand edge_of key_of a o v c → 0 < times e (places c)
  hand_inward g told None v c e p h = absurd p
  hand_inward g told (Some r) v c e p h = let i = ap (λ (k : Graph). times e (inward k.tasks r.task)) told in
      let s = ap (times e) h.at ∙ total_append (λ y. bit (y == e)) (inward a.tasks.value.tasks r.task) (outward a.tasks.value.tasks r.task) in omega arith

  pub hand_outward : (g : Graph) → a.tasks.value ≡ g → (o : Option InHand) (v : View C) (c : List (ℕ × Option C)) (e : ℕ) → IsSomeAnd o
      (λ r. (r.started ≡ true) × (0 < times e (outward g.tasks r.task))) → Hand edge_of key_of a o v c
      → 0 < times e (places c)
  hand_outward g told None v c e p h = absurd p
  hand_outward g told (Some r) v c e p h = let i = ap (λ (k : Graph). times e (outward k.tasks r.task)) told in let q = p.1 in
      let s = ap (times e) h.at ∙ total_append (λ y. bit (y == e)) (inward a.tasks.value.tasks r.task) (outward a.tasks.value.tasks r.task) in omega arith

  pub may_some : (e : ℕ) (p : C) → (edge_of p ≡ e) × (key_of p ≡ key_of a.sample.value) → MayHold graph_wires edge_of key_of a e (Some p)
  may_some e p h q is = subst (λ x. (edge_of x ≡ e) × (key_of x ≡ key_of a.sample.value)) (let z : p ≡ q = cc in z) h

  -- an exchange of a slot
  pub exchanged : (id : TableId) (s t : WorkerSeat C) (P : InHand → Type 0) (e : ℕ) (y : Option C) → IsSeat edge_of key_of id a s →
      IsSomeAnd s.in_hand P → MayHold graph_wires edge_of key_of a e y → t.seat.me ≡ (view_of s, with_slot (slots_of s) e y)
      → (t.seat.table_id ≡ s.seat.table_id) × (t.edges ≡ s.edges) × (t.in_hand ≡ s.in_hand) → IsSeat edge_of key_of id a t
  exchanged id s t P e y h some' m me same = seat_after edge_of key_of a id s t (view_of s) (with_slot (slots_of s) e y) h same.0
      (ap (λ k. k.0) me) (ap (λ k. k.1) me) h.board
      (places_with (slots_of s) e y ∙ h.mirror ∙ sym (ap (λ (v : Vec ℕ). v.items) same.1)) (let q = ap (λ (v : Vec ℕ). vec_capacity v) same.1 in omega arith)
      (subst (λ o. Hand edge_of key_of a o (view_of s) (with_slot (slots_of s) e y)) (sym same.2)
      (hand_kept s.in_hand P (view_of s) (slots_of s) e y some' m h.hand))

-- what a claim tells where it is won
module _ {C Key : Type 0} (edge_of : C → ℕ) (key_of : C → Key) (a : About C) where
  abbrev Told : Bool → ℕ → Me (Option C) (View C) → Me (Option C) (View C) → Type 0
  Told b t m k = MatchBool b (Took graph_wires edge_of key_of a (inward a.tasks.value.tasks t) (outward a.tasks.value.tasks t) m.1 k.1 ×
      IsFresh t m.0) (k.1 ≡ m.1)

  pub won_took : (b : Bool) (t : ℕ) (m k : Me (Option C) (View C)) → b ≡ true → Told b t m k → m.1 ≡ [] → Took graph_wires edge_of key_of a
      (inward a.tasks.value.tasks t) (outward a.tasks.value.tasks t) [] k.1
  won_took true t m k is h empty = subst (λ l. Took graph_wires edge_of key_of a (inward a.tasks.value.tasks t) (outward a.tasks.value.tasks t) l k.1) empty h.0
  won_took false t m k is h empty = absurd (true≢false (sym is))

  pub won_busy : (b : Bool) (t : ℕ) (m k : Me (Option C) (View C)) → b ≡ true → Told b t m k → m.1 ≡ [] → t < task_count
      a.tasks.value.tasks → OwesNothing (net_of a.tasks.value.tasks) m.0 → IsBusy graph_wires edge_of key_of a t false (noted m.0 (Claimed t true)) k.1
  won_busy true t m k is h empty there owes = claim_busy graph_wires edge_of key_of a m.0 k.1 t there owes h.1 (won_took true t m k is h empty)
  won_busy false t m k is h empty there owes = absurd (true≢false (sym is))

  pub lost_slots : (b : Bool) (t : ℕ) (m k : Me (Option C) (View C)) → b ≡ false → Told b t m k → m.1 ≡ [] → k.1 ≡ []
  lost_slots true t m k is h empty = absurd (true≢false is)
  lost_slots false t m k is h empty = h ∙ empty

  -- the same by the name that the code has for the board's tasks
  pub took_as : (g : Graph) (t : ℕ) (c : List (ℕ × Option C)) → a.tasks.value ≡ g → Took graph_wires edge_of key_of a
      (inward a.tasks.value.tasks t) (outward a.tasks.value.tasks t) [] c → Took graph_wires edge_of key_of a (inward g.tasks t) (outward g.tasks t) [] c
  took_as g t c told h = subst (λ (k : Graph). Took graph_wires edge_of key_of a (inward k.tasks t) (outward k.tasks t) [] c) told h
