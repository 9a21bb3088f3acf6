-- Slots are taken out one by one, and seats one by one from the back.
use Rattle.std.proofs.Common.{◌≡◌, ◌≢◌, ℕ, zero, suc, ◌+◌, Bool, false, List, [], ◌∷◌, ◌++◌}
use Rattle.std.proofs.Common.{length, get_or, set, refl, sym, ap, ◌∙◌, arith, Option, Some, append_assoc, append-nil}
use mathlib.Core.Option.{some, some-injective}
use mathlib.Core.Logic.{dite}
use native.Mathlib.Decide.{ℕ_discrete}
use lib.ListN.{get_elem?}
use Rattle.atomic_table.specs.Seated.{TableId}
use Rattle.fv_graph.specs.TasksBeside.{times}
use Rattle.fv_graph.proofs.lemmas.Counts.{total_append}
use Rattle.fv_ready.specs.declared.view.Deed.{Deed}
use Rattle.fv_ready.specs.declared.view.About.{About}
use Rattle.fv_ready.specs.declared.view.View.{View}
use Rattle.fv_ready.specs.declared.seat.WorkerSeat.{WorkerSeat}
use Rattle.fv_ready.specs.Rule.{done_by}
use Rattle.fv_ready.specs.Counted.{told_by, having}
use Rattle.fv_ready.specs.Closed.{AreSeats, AreSlots, IsTaken}
use Rattle.fv_ready.specs.Seats.{IsSeat}

here_false : (l : List Bool) (k : ℕ) → get_or (set l k false) k false ≡ false
here_false [] k = refl
here_false (x ∷ xs) zero = refl
here_false (x ∷ xs) (suc k) = here_false xs k

there_same : (l : List Bool) (k e : ℕ) → e ≢ k → get_or (set l k false) e false ≡ get_or l e false
there_same [] k e ne = refl
there_same (x ∷ xs) zero zero ne = absurd (ne refl)
there_same (x ∷ xs) zero (suc e) ne = refl
there_same (x ∷ xs) (suc k) zero ne = refl
there_same (x ∷ xs) (suc k) (suc e) ne = there_same xs k e (λ q. ne (ap suc q))

pub taken_step : (filled : List Bool) (n k : ℕ) → IsTaken filled n k → IsTaken (set filled k false) n (k + 1)
taken_step filled n k h = record {
  below = λ e l. dite (ℕ_discrete e k) (λ s. ap (λ i. get_or (set filled k false) i false) s ∙ here_false filled k)
      (λ ne. there_same filled k e ne ∙ h.below e (omega arith));
  above = λ e l s. there_same filled k e (λ q. omega arith) ∙ h.above e (omega arith) s;
}

module _ {C : Type 0} where
  -- what was taken out so far
  pub record Got (slots : List (Option C)) (from k : ℕ) (old new : List C) : Type 0 where
    pub ps : List C
    pub is : new ≡ old ++ ps
    pub long : from + length ps ≡ k
    pub are : AreSlots slots from ps

  pub got_none : (slots : List (Option C)) (from : ℕ) (old : List C) → Got slots from from old old
  got_none slots from old = record { ps = []; is = sym (append-nil old); long = omega arith; are = tt }

  are_snoc : (slots : List (Option C)) (from : ℕ) (ps : List C) (p : C) → AreSlots slots from ps → get_elem? slots (from + length ps) ≡
      some (Some p) → AreSlots slots from (ps ++ p ∷ [])
  are_snoc slots from [] p h e = (ap (get_elem? slots) (omega arith) ∙ e, tt)
  are_snoc slots from (q ∷ qs) p h e = (h.0, are_snoc slots (suc from) qs p h.1 (ap (get_elem? slots) (omega arith) ∙ e))

  long_more : (ps : List C) (p : C) → length (ps ++ p ∷ []) ≡ length ps + 1
  long_more [] p = refl
  long_more (q ∷ qs) p = let r = long_more qs p in omega arith

  pub got_one : (slots : List (Option C)) (from k : ℕ) (old new new' : List C) (p : C) (x : Option C) → Got slots from k old new →
      get_elem? slots k ≡ some x → x ≡ Some p → new' ≡ new ++ p ∷ [] → Got slots from (k + 1) old new'
  got_one slots from k old new new' p x g at is e = record {
    ps = g.ps ++ p ∷ [];
    is = e ∙ ap (λ l. l ++ p ∷ []) g.is ∙ append_assoc old g.ps (p ∷ []);
    long = let l = long_more g.ps p in let m = g.long in omega arith;
    are = are_snoc slots from g.ps p g.are (ap (get_elem? slots) g.long ∙ at ∙ ap some is);
  }

  pub found : (slots : List (Option C)) (k : ℕ) (x : Option C) (p : C) → get_elem? slots k ≡ some x → get_elem? slots k ≡ some (Some p) → x ≡ Some p
  found slots k x p a b = some-injective x (Some p) (sym a ∙ b)

module _ {C Key : Type 0} (edge_of : C → ℕ) (key_of : C → Key) (id : TableId) (a : About C) where
  pub seats_front : (ss : List (WorkerSeat C)) (s : WorkerSeat C) → AreSeats edge_of key_of id a (ss ++ s ∷ []) → AreSeats edge_of key_of
      id a ss × IsSeat edge_of key_of id a s
  seats_front [] s h = (tt, h.0)
  seats_front (x ∷ xs) s h = let r = seats_front xs s h.1 in ((h.0, r.0), r.1)

module _ {C : Type 0} where
  pub told_snoc : (f : Deed → ℕ) (ss : List (WorkerSeat C)) (s : WorkerSeat C) (all : List (WorkerSeat C)) → all ≡ ss ++ s ∷ [] → told_by f
      all ≡ told_by f ss + done_by f s.seat.me.0
  told_snoc f ss s all e = let k = total_append (λ (s : WorkerSeat C). done_by f s.seat.me.0) ss (s ∷ []) in let r = ap (told_by f) e in omega arith

  pub having_snoc : (k : ℕ) (ss : List (WorkerSeat C)) (s : WorkerSeat C) (all : List (WorkerSeat C)) → all ≡ ss ++ s ∷ [] → having k all ≡
      having k ss + times k s.seat.me.0.numbers
  having_snoc k ss s all e = let h = total_append (λ (s : WorkerSeat C). times k s.seat.me.0.numbers) ss (s ∷ []) in let r = ap (having k) e in omega arith

-- the seats that are left and the one that took in the others have and did, taken together, what all had and did
pub record IsGathering {C Key : Type 0} (edge_of : C → ℕ) (key_of : C → Key) (id : TableId) (a : About C) (all_id : TableId) (v : View C)
    (first left : List (WorkerSeat C)) : Type 0 where
  pub name : all_id ≡ id
  pub board : v.board ≡ Some a
  pub seats : AreSeats edge_of key_of id a left
  pub lists : (f : Deed → ℕ) → done_by f v + told_by f left ≡ told_by f first
  pub numbers : (k : ℕ) → times k v.numbers + having k left ≡ having k first
