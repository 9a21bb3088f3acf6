-- The slots of the tasks of the worked examples, when these are taken and when they are done.
use Rattle.std.proofs.Common.{refl, Bool, ◌==◌, ◌&&◌, ◌+◌, ◌≡◌, ℕ, ◌<◌, true, List, [], ◌∷◌, ◌++◌}
use Rattle.std.proofs.Common.{sym, ap, ◌∙◌, subst, arith, Option, Some, None, IfSome, IsSomeAnd}
use mathlib.Core.Logic.{dite}
use native.Mathlib.Decide.{ℕ_discrete}
use Rattle.fv_outside.specs.headline.Tasks.{Tasks, bit}
use Rattle.fv_outside.specs.Tasks.{times}
use Rattle.fv_graph.specs.Graph.{inward, outward}
use Rattle.fv_graph.proofs.lemmas.Counts.{bit_same, bit_apart, total_append}
use Rattle.fv_ready.specs.declared.view.Deed.{Deed}
use Rattle.fv_ready.specs.declared.view.Deed.TheVariants.{Saw}
use Rattle.fv_ready.specs.declared.view.View.{View}
use Rattle.fv_ready.specs.declared.view.About.{About}
use Rattle.fv_ready.specs.Wired.{graph_wires}
use Rattle.fv_ready.specs.Rule.{done_by, sees, noted, places, Each, Fits}
use Rattle.fv_ready.specs.Carried.{slot_at}
use Rattle.fv_ready.specs.declared.board.Board.{Board}
use Rattle.fv_ready.specs.declared.seat.InHand.{InHand}
use Rattle.fv_ready.specs.declared.seat.WorkerSeat.{WorkerSeat}
use Rattle.fv_ready.specs.Seats.{hand_of, slots_of}
use Rattle.fv_ready.specs.Boards.{tasks_of, about_of, IsHanded, AreTaken}
use Rattle.fv_schedule_tests.specs.TwoLoops.{two_loops}

-- what holds of the task in hand
pub of_hand : {X : Type 0} (P : X → Type 0) (o : Option X) (r : X) → o ≡ Some r → IfSome o P → P r
of_hand P o r is h = subst (λ k. IfSome k P) is h

module _ {C Key : Type 0} (edge_of : C → ℕ) (key_of : C → Key) where
  one_full : (a : About C) (xs : List (ℕ × Option C)) (e : ℕ) → places xs ≡ e ∷ [] → Each (λ e x. Fits graph_wires edge_of key_of a e x) xs →
      (p : C) × (xs ≡ (e, Some p) ∷ [])
  one_full a [] e is full = absurd (cc)
  one_full a (x ∷ []) e is full = let at : x.0 ≡ e = cc in let f = full.0 in (f.0, (λ i. (at i, f.1 i) ∷ []))
  one_full a (x ∷ y ∷ ys) e is full = absurd (cc)

  two_full : (a : About C) (xs : List (ℕ × Option C)) (d e : ℕ) → places xs ≡ d ∷ e ∷ [] → Each (λ e x. Fits graph_wires edge_of key_of a e x) xs →
      (p q : C) × (xs ≡ (d, Some p) ∷ (e, Some q) ∷ [])
  two_full a [] d e is full = absurd (cc)
  two_full a (x ∷ xs) d e is full = let at : x.0 ≡ d = cc in let behind : places xs ≡ e ∷ [] = cc in let f = full.0 in
      let r = one_full a xs e behind full.1 in (f.0, r.0, (λ i. (at i, f.1 i) ∷ r.1 i))

none_at : {C : Type 0} (xs : List (ℕ × Option C)) (e : ℕ) → places xs ≡ e ∷ [] → Each (λ e x. x ≡ None) xs → xs ≡ (e, None) ∷ []
none_at [] e is empty = absurd (cc)
none_at (x ∷ []) e is empty = let at : x.0 ≡ e = cc in λ i. (at i, empty.0 i) ∷ []
none_at (x ∷ y ∷ ys) e is empty = absurd (cc)

nones_at : {C : Type 0} (xs : List (ℕ × Option C)) (d e : ℕ) → places xs ≡ d ∷ e ∷ [] → Each (λ e x. x ≡ None) xs → xs ≡ (d, None) ∷ (e, None) ∷ []
nones_at [] d e is empty = absurd (cc)
nones_at (x ∷ xs) d e is empty = let at : x.0 ≡ d = cc in let behind : places xs ≡ e ∷ [] = cc in
    let r = none_at xs e behind empty.1 in λ i. (at i, empty.0 i) ∷ r i

module _ {C Key : Type 0} (edge_of : C → ℕ) (key_of : C → Key) (b : Board C Key) (tasks : tasks_of b ≡ two_loops) (slots : List (ℕ × Option C)) where
  -- the slots of task 0, just taken
  pub first_taken : AreTaken edge_of key_of b 0 slots → (p : C) × (slots ≡ (0, Some p) ∷ (3, None) ∷ (2, None) ∷ [])
  first_taken t = let f = one_full edge_of key_of (about_of b) t.0 0 (t.3 ∙ ap (λ (g : Tasks). inward g 0) tasks) t.5 in
      let n = nones_at t.1 3 2 (t.4 ∙ ap (λ (g : Tasks). outward g 0) tasks) t.6 in
      (f.0, t.2 ∙ (λ i. f.1 i ++ (n i ++ [])))

  -- the slots of task 1, just taken
  pub second_taken : AreTaken edge_of key_of b 1 slots → (p q : C) × (slots ≡ (1, Some p) ∷ (2, Some q) ∷ (4, None) ∷ [])
  second_taken t = let f = two_full edge_of key_of (about_of b) t.0 1 2 (t.3 ∙ ap (λ (g : Tasks). inward g 1) tasks) t.5 in
      let n = none_at t.1 4 (t.4 ∙ ap (λ (g : Tasks). outward g 1) tasks) t.6 in
      (f.0, f.1, t.2 ∙ (λ i. f.2 i ++ (n i ++ [])))

module _ {C Key : Type 0} (b : Board C Key) (tasks : tasks_of b ≡ two_loops) (s : WorkerSeat C) where
  -- task 0 is handed
  pub first_handed : (p q : C) → slots_of s ≡ (0, None) ∷ (3, Some p) ∷ (2, Some q) ∷ [] → IsHanded b 0 s
  first_handed p q is e at = let among : 0 < times e (3 ∷ 2 ∷ []) = subst (λ (g : Tasks). 0 < times e (outward g 0)) tasks at in
      dite (ℕ_discrete 3 e) (λ k. (p, ap (λ l. slot_at l e) is ∙ ap (slot_at ((0, None) ∷ (3, Some p) ∷ (2, Some q) ∷ [])) (sym k)))
      (λ n. dite (ℕ_discrete 2 e) (λ k. (q, ap (λ l. slot_at l e) is ∙ ap (slot_at ((0, None) ∷ (3, Some p) ∷ (2, Some q) ∷ [])) (sym k)))
      (λ m. let x = bit_apart 3 e n in let y = bit_apart 2 e m in absurd (omega arith)))

  -- task 1 is handed
  pub second_handed : (p : C) → slots_of s ≡ (1, None) ∷ (2, None) ∷ (4, Some p) ∷ [] → IsHanded b 1 s
  second_handed p is e at = let among : 0 < times e (4 ∷ []) = subst (λ (g : Tasks). 0 < times e (outward g 1)) tasks at in
      dite (ℕ_discrete 4 e) (λ k. (p, ap (λ l. slot_at l e) is ∙ ap (slot_at ((1, None) ∷ (2, None) ∷ (4, Some p) ∷ [])) (sym k)))
      (λ n. let x = bit_apart 4 e n in absurd (omega arith))

  -- what the stamp of a finish asks of the task in hand
  pub when_handed : (t : ℕ) → hand_of s ≡ Some record { task = t; started = true } → IsHanded b t s →
      IsSomeAnd (hand_of s) (λ r. r.started ≡ true → IsHanded b r.task s)
  when_handed t is h = subst (λ (o : Option InHand). IsSomeAnd o (λ r. r.started ≡ true → IsHanded b r.task s)) (sym is) (λ _. h)

-- a list of steps after two more
pub after_two : {C : Type 0} (f : Deed → ℕ) (v : View C) (d e : Deed) → done_by f (noted (noted v d) e) ≡ done_by f v + f d + f e
after_two f v d e = let a = total_append f v.deeds (d ∷ []) in let b = total_append f (v.deeds ++ d ∷ []) (e ∷ []) in omega arith

-- a seat that found a task ready has seen its count at 0
pub saw_ready : {C : Type 0} (t : ℕ) (v w : View C) (r : Bool) → (c : ℕ) × (w ≡ noted v (Saw t c)) × (r ≡ (c == 0)) → r ≡ true → 0 < done_by (sees t) w
saw_ready t v w r list is = let a = ap (λ u. done_by (sees t) u) list.1 ∙ total_append (sees t) v.deeds (Saw t list.0 ∷ []) in
    let zero : (list.0 == 0) ≡ true = sym list.2 ∙ is in let one = bit_same t t refl in
    let b = ap (λ k. bit (k && (t == t))) zero in omega arith
