-- Two lists are popped side by side, and their elements put together.
use Rattle.std.proofs.Common.{◌≡◌, ℕ, zero, suc, ◌+◌, ◌-◌, ◌<◌, ◌≤◌, List, [], ◌∷◌, ◌++◌, length, get_or, take, sym, ap, ◌∙◌, subst, arith, length-append}
use Rattle.std.proofs.lemmas.List.{take_more, same_from_push}
use Rattle.std.specs.Global.{Vec}
use Rattle.fv_steal.specs.declared.handles.TaskDeque.{TaskDeque}
use Rattle.fv_steal.specs.declared.handles.Victim.{Victim}
use Rattle.fv_ready.specs.declared.seat.WorkerSeat.{WorkerSeat}
use Rattle.fv_steal.specs.declared.part.Part.{Part}
use Rattle.fv_steal.specs.declared.worker.Worker.{Worker}
use Rattle.fv_steal.specs.inner.Assembled.{IsPart, AreParts, IsFrom, AreFrom}

pub each_push : {X : Type 0} (P : ℕ → X → Type 0) (xs : List X) (x : X) → ((j : ℕ) (d : X) → j < length xs → P j (get_or xs j d)) → P (length xs) x
    → (j : ℕ) (d : X) → j < length (xs ++ x ∷ []) → P j (get_or (xs ++ x ∷ []) j d)
each_push P [] x h p zero d l = p
each_push P [] x h p (suc j) d l = absurd (omega arith)
each_push P (y ∷ ys) x h p zero d l = h 0 y (omega arith)
each_push P (y ∷ ys) x h p (suc j) d l = each_push (λ i. P (suc i)) ys x (λ i e q. h (suc i) e (omega arith)) p j d (omega arith)

-- A pop of the first m items leaves the first m - 1, and gives the one after them.
pub popped_take : {X : Type 0} (xs now ys : List X) (x : X) (m k : ℕ) → now ≡ take m xs → now ≡ ys ++ x ∷ [] → m ≡ k + 1 → m ≤ length xs
    → (ys ≡ take k xs) × ((d : X) → x ≡ get_or xs k d)
popped_take {X = X} xs now ys x m k a b e low =
    let cut : (d : X) → ys ++ x ∷ [] ≡ take k xs ++ get_or xs k d ∷ [] = λ d. sym b ∙ a ∙ ap (λ j. take j xs) e ∙ take_more xs k d (omega arith) in
    ((same_from_push ys (take k xs) x (get_or xs k x) (cut x)).0, λ d. (same_from_push ys (take k xs) x (get_or xs k d) (cut d)).1)

pub part_more : {C : Type 0} (room most : ℕ) (ds : List TaskDeque) (vss : List (Vec Victim)) (m k : ℕ) (ps : List (Part C)) (p : Part C) → m ≡ k + 1
    → AreParts room most ds vss m ps → IsPart room most ds vss k p → AreParts room most ds vss k (ps ++ p ∷ [])
part_more room most ds vss m k ps p e h is = record {
  long = let a = length-append ps (p ∷ []) in let l = h.long in omega arith;
  each = each_push (λ j q. IsPart room most ds vss (length ds - 1 - j) q) ps p h.each
      (subst (λ i. IsPart room most ds vss i p) (let l = h.long in let q : k ≡ length ds - 1 - length ps = omega arith in q) is);
}

pub worker_more : {C : Type 0} (ps : List (Part C)) (ss : List (WorkerSeat C)) (m k : ℕ) (ws : List (Worker C)) (w : Worker C) → m ≡ k + 1
    → AreFrom ps ss m ws → w.number ≡ length ws → ((d : WorkerSeat C) → w.seat ≡ get_or ss k d)
    → ((d : Part C) → record { deque = w.deque; victims = w.victims; parcels = w.parcels; lines = w.lines } ≡ get_or ps k d) → AreFrom ps ss k (ws ++ w ∷ [])
worker_more {C = C} ps ss m k ws w e h number seat part =
    let is : k ≡ length ps - 1 - length ws = let l = h.long in omega arith in record {
      long = let a = length-append ws (w ∷ []) in let l = h.long in omega arith;
      each = each_push (λ j u. IsFrom ps ss j u) ws w h.each (record {
        number = number;
        seat = λ d. seat d ∙ ap (λ j. get_or ss j d) is;
        part = λ d. part d ∙ ap (λ j. get_or ps j d) is;
      });
    }
