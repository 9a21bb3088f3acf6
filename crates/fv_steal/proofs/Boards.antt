-- What the calls of the board ask, by the names that a turn has for things.
use Rattle.std.proofs.Common.{◌≡◌, ◌≢◌, ℕ, zero, suc, map, IfSome, div-add-mod', ◌+◌, ◌<◌, ◌≤◌, true, List, [], ◌∷◌, ◌++◌, length, get_or, take, drop}
use Rattle.std.proofs.Common.{refl, sym, ap, ◌∙◌, subst, arith, ◌==◌, ◌&&◌, Option, Some, None, IsSomeAnd, MatchOption, set}
use Rattle.std.specs.Option.{IsSome}
use Rattle.std.proofs.lemmas.List.{length-map}
use Rattle.fv_outside.specs.headline.Tasks.{Tasks, bit, total}
use Rattle.fv_outside.specs.Tasks.{times, task_count}
use Rattle.fv_outside.specs.declared.tasks.Task.{Task}
use Rattle.fv_graph.specs.Graph.{Graph, net_of, inward, outward, reader_of, task_of, task_at}
use Rattle.fv_graph.specs.Wires.{IsWires, wires_of}
use Rattle.fv_graph.proofs.lemmas.Counts.{bit_same, total_append, total_set}
use Rattle.fv_ready.specs.declared.view.View.{View}
use Rattle.fv_ready.specs.declared.view.Deed.TheVariants.{Stamped}
use Rattle.fv_ready.specs.Wired.{graph_wires}
use Rattle.fv_ready.specs.Rule.{done_by, noted, stamps, zeroes, places, Fits}
use Rattle.fv_ready.proofs.lemmas.Hands.{done_noted}
use Rattle.fv_ready.specs.Carried.{slot_at}
use Rattle.fv_ready.specs.declared.seat.InHand.{InHand}
use Rattle.fv_ready.specs.declared.board.Board.{Board}
use Rattle.fv_ready.specs.declared.seat.WorkerSeat.{WorkerSeat}
use Rattle.fv_ready.specs.Seats.{slots_of, hand_of}
use Rattle.fv_ready.specs.Boards.{about_of, graph_of, tasks_of, IsSeatOf, AreTaken}
use Rattle.fv_ready.proofs.lemmas.Seated.{busy_of}
use Rattle.fv_steal.specs.declared.handles.Victim.{Victim}
use Rattle.fv_steal.specs.Deques.{taken_by}
use Rattle.fv_steal.specs.inner.Steps.{AreFull, AreEmpty, PutAsZeroed}
use Rattle.fv_steal.proofs.Lists.{times_at, times_drop, times_take}
use Rattle.fv_steal.proofs.Edges.{reader_needs, not_inward}
use Rattle.fv_steal.proofs.Slots.{in_front, behind}
use Rattle.fv_steal.proofs.Arrivals.{more_put}

-- an edge into the task in hand, or out of it
pub edge_in : {C Key : Type 0} (b : Board C Key) (g : Graph) → graph_of b ≡ g → (o : Option InHand) (t : ℕ) → o ≡ Some record { task = t; started = true }
    → (e : ℕ) → 0 < times e (inward g.tasks t) → IsSomeAnd o (λ r. 0 < times e (inward (tasks_of b) r.task))
edge_in b g is o t hand e among = subst (λ (k : Option InHand). IsSomeAnd k (λ r. 0 < times e (inward (tasks_of b) r.task))) (sym hand)
    (subst (λ (k : Graph). 0 < times e (inward k.tasks t)) (sym is) among)

pub edge_out : {C Key : Type 0} (b : Board C Key) (g : Graph) → graph_of b ≡ g → (o : Option InHand) (t : ℕ) → o ≡ Some record { task = t; started = true }
    → (e : ℕ) → 0 < times e (outward g.tasks t) → IsSomeAnd o (λ r. (r.started ≡ true) × (0 < times e (outward (tasks_of b) r.task)))
edge_out b g is o t hand e among = subst (λ (k : Option InHand). IsSomeAnd k (λ r. (r.started ≡ true) × (0 < times e (outward (tasks_of b) r.task)))) (sym hand)
    (refl, subst (λ (k : Graph). 0 < times e (outward k.tasks t)) (sym is) among)

-- what stands at a place of a list by another name
pub at_index : (xs es : List ℕ) (i : ℕ) → xs ≡ es → i < length xs → 0 < times (get_or xs i 0) es
at_index xs es i is low = subst (λ l. 0 < times (get_or xs i 0) l) is (times_at xs i 0 low)

pub low_in : (xs es : List ℕ) (i : ℕ) → xs ≡ es → i < length xs → i < length es
low_in xs es i is low = subst (λ l. i < length l) is low

-- the next slot is full
pub first_full : {C : Type 0} (slots : List (ℕ × Option C)) (xs es : List ℕ) (i : ℕ) → xs ≡ es → i < length xs → AreFull slots (drop i es)
    → IsSome (slot_at slots (get_or xs i 0))
first_full slots xs es i is low full =
    let d = times_drop es i 0 (get_or es i 0) (low_in xs es i is low) in let b = bit_same (get_or es i 0) (get_or es i 0) refl in
    let f = full (get_or es i 0) (omega arith) in subst (λ l. IsSome (slot_at slots (get_or l i 0))) (sym is) (subst IsSome (sym f.1) refl)

-- the last slot is empty
pub last_empty : {C : Type 0} (slots : List (ℕ × Option C)) (es : List ℕ) (k : ℕ) → k < length es → AreEmpty slots (take (k + 1) es)
    → slot_at slots (get_or es k 0) ≡ None
last_empty slots es k low empty =
    let d = times_take es k 0 (get_or es k 0) low in let b = bit_same (get_or es k 0) (get_or es k 0) refl in empty (get_or es k 0) (omega arith)

-- the reader that became ready was not put before
pub fresh_put : {C Key : Type 0} (b : Board C Key) (g : Graph) → graph_of b ≡ g → IsWires (wires_of g.tasks) → (v : View C) (put : List ℕ) (e r : ℕ)
    → r ≡ reader_of g.tasks e → (net_of g.tasks).is_inner e ≡ true → PutAsZeroed (net_of g.tasks) v put
    → done_by (zeroes (net_of (tasks_of b)) ((net_of (tasks_of b)).reader e)) v ≡ 0 → times r put ≡ 0
fresh_put b g is ws v put e r q inner h first =
    let n = reader_needs g.tasks ws e inner in
    ap (λ x. times x put) q ∙ h (reader_of g.tasks e) n.0 n.1
    ∙ subst (λ (k : Graph). done_by (zeroes (net_of k.tasks) ((net_of k.tasks).reader e)) v ≡ 0) is first

pub pushed_more : (c r s : ℕ) (put put' : List ℕ) → put' ≡ put ++ r ∷ [] → r ≡ s → (c == 0) ≡ true → (x : ℕ)
    → times x put' ≡ times x put + bit ((c == 0) && (s == x))
pushed_more c r s put put' is q z x = ap (times x) is ∙ more_put c r put z x ∙ ap (λ k. times x put + bit ((c == 0) && (k == x))) q

-- a hold takes a number, or none
pub stolen : (r : Option ℕ) (vs vs' : List Victim) (i : ℕ) (a d : Victim) → i < length vs → vs' ≡ set vs i a
    → MatchOption r (taken_by a ≡ taken_by (get_or vs i d)) (λ x. taken_by a ≡ taken_by (get_or vs i d) ++ x ∷ [])
    → MatchOption r ((x : ℕ) → total (λ v. times x (taken_by v)) vs' ≡ total (λ v. times x (taken_by v)) vs)
    (λ t. (x : ℕ) → total (λ v. times x (taken_by v)) vs' ≡ total (λ v. times x (taken_by v)) vs + bit (t == x))
stolen None vs vs' i a d low is h = λ x. let s = total_set (λ v. times x (taken_by v)) vs i a d low in
    let k = ap (total (λ (v : Victim). times x (taken_by v))) is in
    let p = ap (times x) h in omega arith
stolen (Some t) vs vs' i a d low is h = λ x. let s = total_set (λ v. times x (taken_by v)) vs i a d low in
    let k = ap (total (λ (v : Victim). times x (taken_by v))) is in
    let p = ap (times x) h in let q = total_append (λ y. bit (y == x)) (taken_by (get_or vs i d)) (t ∷ []) in omega arith

pub low_back : (xs es : List ℕ) (i : ℕ) → xs ≡ es → i < length es → i < length xs
low_back xs es i is low = subst (λ l. i < length l) (sym is) low

-- a parcel was popped
pub record IsPopped {C : Type 0} (es : List ℕ) (before : List C) (k : ℕ) : Type 0 where
  pub long : length before ≡ k + 1
  pub low : k < length es

pub is_popped : {C : Type 0} (es : List ℕ) (before after : List C) (p : C) (k : ℕ) → before ≡ after ++ p ∷ [] → k ≡ length after → length before ≤ length es
    → IsPopped es before k
is_popped es before after p k is q short =
    let l = ap (λ (x : List _). length x) is in let m = Rattle.std.proofs.Common.length-append after (p ∷ []) in
    record { long = omega arith; low = omega arith }

-- an edge out of the task in hand has a slot
pub has_slot : {C Key : Type 0} (edge_of : C → ℕ) (key_of : C → Key) (b : Board C Key) (s : WorkerSeat C) (g : Graph) (t e : ℕ) → graph_of b ≡ g
    → IsSeatOf edge_of key_of b s → hand_of s ≡ Some record { task = t; started = true } → 0 < times e (outward g.tasks t) → 0 < times e (places (slots_of s))
has_slot edge_of key_of b s g t e is h hand among =
    let k = busy_of edge_of key_of b s h (record { task = t; started = true }) hand in
    let p = ap (times e) k.at ∙ total_append (λ y. bit (y == e)) (inward (about_of b).tasks.value.tasks t) (outward (about_of b).tasks.value.tasks t) in
    let q : times e (outward (about_of b).tasks.value.tasks t) ≡ times e (outward g.tasks t) = ap (λ (k : Graph). times e (outward k.tasks t)) (b.told
    ∙ is) in omega arith

pub of_hand : {X : Type 0} (P : X → Type 0) (o : Option X) (r : X) → o ≡ Some r → IfSome o P → P r
of_hand P o r is h = subst (λ k. IfSome k P) is h

-- the slots of a task that was just taken
module _ {C Key : Type 0} (edge_of : C → ℕ) (key_of : C → Key) (b : Board C Key) (g : Graph) (is : graph_of b ≡ g) (t : ℕ) (slots slots' : List (ℕ × Option C))
    (taken : AreTaken edge_of key_of b t slots) (same : slots' ≡ slots) where
  pub taken_full : AreFull slots' (inward g.tasks t)
  taken_full e among =
      let h : times e (places taken.0) ≡ times e (inward g.tasks t) = ap (times e) taken.3 ∙ ap (λ (k : Graph). times e (inward k.tasks t)) is in
      let f = in_front (λ d x. Fits graph_wires edge_of key_of (about_of b) d x) (λ d x k. (k.0, k.1)) taken.0 (taken.1 ++ []) taken.5 e (omega arith) in
      (f.0, ap (λ l. slot_at l e) (same ∙ taken.2) ∙ f.1)

  pub taken_empty : IsWires (wires_of g.tasks) → t < task_count g.tasks → AreEmpty slots' (outward g.tasks t)
  taken_empty ws there e among =
      let h : times e (places taken.0) ≡ times e (inward g.tasks t) = ap (times e) taken.3 ∙ ap (λ (k : Graph). times e (inward k.tasks t)) is in
      let o = not_inward g.tasks ws t there e among in
      ap (λ l. slot_at l e) (same ∙ taken.2) ∙ behind taken.0 taken.1 taken.6 e (omega arith)

-- the number of a task, by another name of the tasks
pub at_task : (g h : Tasks) (k : Task) (t : ℕ) → h ≡ g → k ≡ task_of g t → task_at h k.loop_no k.vector ≡ t
at_task g h k t p q = (λ i. task_at (p i) (q i).loop_no (q i).vector) ∙ div-add-mod' t g.loops

-- the stamp of a start stands in the list
pub has_stamp : {C : Type 0} (s t : ℕ) (v w : View C) → w ≡ noted v (Stamped s t true) → 0 < done_by (stamps s) w
has_stamp s t v w is = let a = ap (λ (u : View _). done_by (stamps s) u) is ∙ done_noted (stamps s) v (Stamped s t true) in let b = bit_same s s refl in
    omega arith

pub same_long : {X Y : Type 0} (f : X → Y) (xs ys : List X) → map f xs ≡ map f ys → length xs ≡ length ys
same_long f xs ys e = let a = length-map xs f in let b = length-map ys f in let c = ap (λ (l : List _). length l) e in omega arith

pub map_set_same : {X Y : Type 0} (f : X → Y) (xs : List X) (i : ℕ) (a d : X) → i < length xs → f a ≡ f (get_or xs i d) → map f (set xs i a) ≡ map f xs
map_set_same f [] i a d h e = absurd (omega arith)
map_set_same f (x ∷ xs) zero a d h e = ap (λ y. y ∷ map f xs) e
map_set_same f (x ∷ xs) (suc i) a d h e = ap (λ l. f x ∷ l) (map_set_same f xs i a d (omega arith) e)
