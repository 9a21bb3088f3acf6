-- Seats are dealt one by one.
use Rattle.std.proofs.Common.{◌≡◌, ℕ, zero, suc, ◌+◌, ◌-◌, ◌<◌, ◌≤◌, true, false, List, [], ◌∷◌, ◌++◌}
use Rattle.std.proofs.Common.{map, length, refl, sym, ap, ◌∙◌, subst, arith, Some, None, Option, MatchOption, vec_len, vec_capacity}
use Rattle.atomic_table.specs.Seated.{TableId}
use Rattle.atomic_table.specs.Table.{Me, Splits}
use Rattle.fv_graph.specs.Graph.{Graph}
use Rattle.fv_graph.specs.Wires.{Wires}
use Rattle.std.specs.Global.{Vec}
use Rattle.fv_graph.specs.Graph.{inward, outward}
use Rattle.fv_graph.proofs.lemmas.Counts.{bit_right, bit_same, bit_apart}
use Rattle.fv_graph.specs.TasksBeside.{times}
use mathlib.Core.Logic.{dite}
use native.Mathlib.Decide.{ℕ_discrete}
use Rattle.fv_ready.specs.Wired.{graph_wires}
use Rattle.fv_ready.specs.Rule.{places}
use Rattle.fv_ready.specs.Carried.{IsFree, IsBusy}
use Rattle.fv_ready.specs.declared.seat.InHand.{InHand}
use Rattle.fv_ready.proofs.lemmas.Numbers.{long_numbers}
use Rattle.fv_ready.proofs.lemmas.Splits.{splits}
use Rattle.fv_graph.specs.Words.{passing}
use Rattle.fv_ready.specs.declared.view.About.{About}
use Rattle.fv_ready.specs.declared.view.View.{View}
use Rattle.fv_ready.specs.declared.seat.WorkerSeat.{WorkerSeat}
use Rattle.fv_ready.specs.Whole.{first_number, other_numbers, left_part, right_part, IsWhole}
use Rattle.fv_ready.specs.Counted.{having}
use Rattle.fv_ready.specs.Closed.{AreSeats}
use Rattle.fv_ready.specs.Begun.{IsNewSeat, AreNewSeats, IsFirstSeat, AreFirstSeats, AreRoomy}

pub cut_first : (from n : ℕ) → 0 < n → first_number (passing (λ _. true) from n) ≡ from ∷ []
cut_first from zero h = absurd (omega arith)
cut_first from (suc n) h = refl

pub cut_others : (from n : ℕ) → 0 < n → other_numbers (passing (λ _. true) from n) ≡ passing (λ _. true) (suc from) (n - 1)
cut_others from zero h = absurd (omega arith)
cut_others from (suc n) h = ap (passing (λ _. true) (suc from)) (omega arith)

pub passing_next : (f : ℕ → ℕ) (from n : ℕ) → map f (passing (λ _. true) from (n + 1)) ≡ map f (passing (λ _. true) from n) ++ f (from + n) ∷ []
passing_next f from zero = ap (λ k. f k ∷ []) (omega arith)
passing_next f from (suc n) = ap (λ k. map f (passing (λ _. true) from k)) (let q : suc n + 1 ≡ suc (n + 1) = omega arith in
    q) ∙ ap (λ l. f from ∷ l) (passing_next f (suc from) n) ∙ ap (λ k. f from ∷ (map f (passing (λ _. true) (suc from) n) ++ f k ∷ [])) (omega arith)

module _ {C : Type 0} (id : TableId) (a : About C) (room : ℕ) where
  pub seats_snoc : (k : ℕ) (ss : List (WorkerSeat C)) (s : WorkerSeat C) → AreNewSeats id a room k ss → IsNewSeat id a room (k + length ss)
      s → AreNewSeats id a room k (ss ++ s ∷ [])
  seats_snoc k [] s h n = (subst (λ i. IsNewSeat id a room i s) (omega arith) n, tt)
  seats_snoc k (x ∷ xs) s h n = (h.0, seats_snoc (suc k) xs s h.1 (subst (λ i. IsNewSeat id a room i s) (omega arith) n))

-- the last of several lists
pub last_roomy : (room : ℕ) (vs : List (Vec ℕ)) (v : Vec ℕ) → AreRoomy room (vs ++ v ∷ []) → AreRoomy room vs × ((v.items ≡ []) × (room ≤ vec_capacity v))
last_roomy room [] v h = (tt, h.0)
last_roomy room (x ∷ xs) v h = let r = last_roomy room xs v h.1 in ((h.0, r.0), r.1)

pub more_roomy : (room : ℕ) (vs : List (Vec ℕ)) (v : Vec ℕ) → AreRoomy room vs → v.items ≡ [] → room ≤ vec_capacity v → AreRoomy room (vs ++ v ∷ [])
more_roomy room [] v h e l = ((e, l), tt)
more_roomy room (x ∷ xs) v h e l = (h.0, more_roomy room xs v h.1 e l)

module _ {C : Type 0} (a : About C) where
  abbrev pub fresh : List ℕ → Me (Option C) (View C)
  fresh ns = (record { board = Some a; numbers = ns; deeds = [] }, [])

  -- the seats below i are dealt, each with one of the lists, and the last one has the other numbers
  pub record IsDealing (id : TableId) (workers i : ℕ) (last_id : TableId) (me : Me (Option C) (View C)) (dealt : Vec (WorkerSeat C))
      (first_lists left : Vec (Vec ℕ)) : Type 0 where
    pub name : last_id ≡ id
    pub last : me ≡ fresh (passing (λ _. true) (i - 1) (workers - (i - 1)))
    pub count : vec_len dealt + 1 ≡ i
    pub seats : (room : ℕ) → AreRoomy room first_lists.items → AreRoomy room left.items × AreNewSeats id a room 0 dealt.items
    pub room : workers ≤ vec_capacity dealt
    pub below : i ≤ workers
    pub lists : vec_len left + (i - 1) ≡ workers

  pub deals_left : (m m' : Me (Option C) (View C)) (from n k : ℕ) → m ≡ fresh (passing (λ _. true) from n) → 0 < n → k ≡ from → m' ≡
      (left_part m.0, m.1) → m' ≡ fresh (k ∷ [])
  deals_left m m' from n k e h s is = is ∙ ap (λ (x : Me (Option C) (View C)). (left_part x.0, x.1)) e ∙ ap fresh
      (cut_first from n h ∙ ap (λ i. i ∷ []) (sym s))

  pub deals_right : (m m' : Me (Option C) (View C)) (from n from' n' : ℕ) → m ≡ fresh (passing (λ _. true) from n) → 0 < n → from' ≡ suc
      from → n' ≡ n - 1 → m' ≡ (right_part m.0, []) → m' ≡ fresh (passing (λ _. true) from' n')
  deals_right m m' from n from' n' e h s r is = is ∙ ap (λ (x : Me (Option C) (View C)). (right_part x.0, [])) e ∙ ap fresh
      (cut_others from n h ∙ (λ i. passing (λ _. true) (sym s i) (sym r i)))

  pub deals_last : (m : Me (Option C) (View C)) (from n k : ℕ) → m ≡ fresh (passing (λ _. true) from n) → n ≡ 1 → k ≡ from → m ≡ fresh (k ∷ [])
  deals_last m from n k e one s = e ∙ ap fresh ((λ i. passing (λ _. true) (sym s i) (one i)))

  pub new_seat : (id : TableId) (room k : ℕ) (s : WorkerSeat C) → s.seat.table_id ≡ id → s.seat.me ≡ fresh (k ∷ []) → s.in_hand ≡ None →
      (s.edges.items ≡ []) × (room ≤ vec_capacity s.edges) → IsNewSeat id a room k s
  new_seat id room k s t e h r = record { table = t; view = ap (λ m. m.0) e; slots = ap (λ m. m.1) e; hand = h; edges = r.0; roomy = r.1 }

-- a new seat is a seat
module _ {C Key : Type 0} (edge_of : C → ℕ) (key_of : C → Key) (id : TableId) (a : About C) (room : ℕ)
    (enough : (t : ℕ) → length (inward a.tasks.value.tasks t) + length (outward a.tasks.value.tasks t) ≤ room) where
  first_seat : (k : ℕ) (s : WorkerSeat C) → IsNewSeat id a room k s → IsFirstSeat edge_of key_of id a k s
  first_seat k s h = record {
    seat = record {
      name = h.table;
      board = ap (λ v. v.board) h.view;
      mirror = ap places h.slots ∙ sym h.edges;
      room = λ t l. let e = enough t in let r = h.roomy in omega arith;
      hand = subst (λ (p : Option InHand × (View C × List (ℕ × Option C))). MatchOption p.0
          (IsFree graph_wires edge_of key_of a p.1.0 p.1.1) (λ r. IsBusy graph_wires edge_of key_of a r.task r.started p.1.0 p.1.1))
          (λ i. (sym h.hand i, (sym h.view i, sym h.slots i)))
          (record { finished = λ t. refl; owed = λ e. sym (bit_right ((graph_wires a.tasks.value).net.is_inner e) false refl); full = tt });
    };
    view = h.view;
    slots = h.slots;
    hand = h.hand;
  }

  pub first_seats : (k : ℕ) (ss : List (WorkerSeat C)) → AreNewSeats id a room k ss → AreFirstSeats edge_of key_of id a k ss
  first_seats k [] h = tt
  first_seats k (s ∷ ss) h = (first_seat k s h.0, first_seats (suc k) ss h.1)

-- the first seats are seats of the board, and have each number once
module _ {C Key : Type 0} (edge_of : C → ℕ) (key_of : C → Key) (id : TableId) (a : About C) where
  pub are_seats : (k : ℕ) (ss : List (WorkerSeat C)) → AreFirstSeats edge_of key_of id a k ss → AreSeats edge_of key_of id a ss
  are_seats k [] h = tt
  are_seats k (s ∷ ss) h = (h.0.seat, are_seats (suc k) ss h.1)

  none_below : (k x : ℕ) (ss : List (WorkerSeat C)) → AreFirstSeats edge_of key_of id a k ss → x < k → having x ss ≡ 0
  none_below k x [] h low = refl
  none_below k x (s ∷ ss) h low = let v = ap (λ (u : View C). times x u.numbers) h.0.view in let b = bit_apart k x (λ e. omega arith) in
      let r = none_below (suc k) x ss h.1 (omega arith) in omega arith

  pub having_one : (k x : ℕ) (ss : List (WorkerSeat C)) → AreFirstSeats edge_of key_of id a k ss → k ≤ x → x < k + length ss → having x ss ≡ 1
  having_one k x [] h low high = absurd (omega arith)
  having_one k x (s ∷ ss) h low high = let v = ap (λ (u : View C). times x u.numbers) h.0.view in dite (ℕ_discrete k x)
      (λ e. let b = bit_same k x e in let r = none_below (suc k) x ss h.1 (omega arith) in omega arith)
      (λ n. let b = bit_apart k x n in let r = having_one (suc k) x ss h.1 (omega arith) (omega arith) in omega arith)

pub splits_last : {C Key : Type 0} (wires : Graph → Wires) (edge_of : C → ℕ) (key_of : C → Key) (a : About C) (id : ℕ)
    (m : Me (Option C) (View C)) (from n : ℕ) → m ≡ fresh a (passing (λ _. true) from n) → 1 < n
    → Splits {S = Option C} (λ s. IsWhole wires edge_of key_of a s) id m.0 (left_part m.0) (right_part m.0)
splits_last wires edge_of key_of a id m from n e h = splits wires edge_of key_of a id m.0 (ap (λ x. x.0.board) e) (ap (λ x. x.0.deeds) e)
    (let l : length m.0.numbers ≡ n = ap (λ x. length x.0.numbers) e ∙ long_numbers from n in omega arith)
