-- The weights of the new nodes, where marks change.
use Rattle.std.proofs.Common.{◌≡◌, ◌≢◌, inl, inr, ℕ, zero, suc, ◌+◌, ◌<◌, List, [], ◌∷◌, length, get_or, set, refl, sym, ap, subst, ◌∙◌, arith}
use Rattle.std.proofs.lemmas.List.{length-set, get_or-set_same, get_or-set_other}
use Rattle.std.proofs.lemmas.Bool.{cases_eq}
use Rattle.fv_components.specs.headline.Reach.{at}
use Rattle.fv_components.specs.declared.search.Mark.{Mark}
use Rattle.fv_components.specs.declared.search.Mark.TheVariants.{New, Open, Done}
use Rattle.fv_components.specs.inner.Search.{left, finished}

-- a new node that is met no longer counts
pub left_met : (f : ℕ → ℕ) (i : ℕ) (ms : List Mark) (w p : ℕ) → w < length ms → get_or ms w New ≡ New → left f i (set ms w (Open p)) + f (i + w) ≡ left f i ms
left_met f i [] w p l e = absurd (omega arith)
left_met f i (New ∷ ms) zero p l e = let z : i + 0 ≡ i = omega arith in let y = ap f z in omega arith
left_met f i (Open q ∷ ms) zero p l e = absurd cc
left_met f i (Done q ∷ ms) zero p l e = absurd cc
left_met f i (New ∷ ms) (suc w) p l e = let z : suc i + w ≡ i + suc w = omega arith in let y = ap f z in
    let x = left_met f (suc i) ms w p (omega arith) e in omega arith
left_met f i (Open q ∷ ms) (suc w) p l e = let z : suc i + w ≡ i + suc w = omega arith in let y = ap f z in
    let x = left_met f (suc i) ms w p (omega arith) e in omega arith
left_met f i (Done q ∷ ms) (suc w) p l e = let z : suc i + w ≡ i + suc w = omega arith in let y = ap f z in
    let x = left_met f (suc i) ms w p (omega arith) e in omega arith

-- one that was met before counts as before
pub left_done : (f : ℕ → ℕ) (i : ℕ) (ms : List Mark) (w k : ℕ) → get_or ms w New ≢ New → left f i (set ms w (Done k)) ≡ left f i ms
left_done f i [] w k e = refl
left_done f i (New ∷ ms) zero k e = absurd (e refl)
left_done f i (Open q ∷ ms) zero k e = refl
left_done f i (Done q ∷ ms) zero k e = refl
left_done f i (New ∷ ms) (suc w) k e = ap (λ x. f i + x) (left_done f (suc i) ms w k e)
left_done f i (Open q ∷ ms) (suc w) k e = left_done f (suc i) ms w k e
left_done f i (Done q ∷ ms) (suc w) k e = left_done f (suc i) ms w k e

stays_met : (ms : List Mark) (w k s : ℕ) → get_or ms s New ≢ New → get_or (set ms w (Done k)) s New ≢ New
stays_met [] w k s e = e
stays_met (m ∷ ms) zero k zero e = λ h. cc
stays_met (m ∷ ms) zero k (suc s) e = e
stays_met (m ∷ ms) (suc w) k zero e = e
stays_met (m ∷ ms) (suc w) k (suc s) e = stays_met ms w k s e

pub finished_met : (ms : List Mark) (ss : List ℕ) (k s : ℕ) → get_or ms s New ≢ New → get_or (finished ms ss k) s New ≢ New
finished_met ms [] k s e = e
finished_met ms (w ∷ ss) k s e = finished_met (set ms w (Done k)) ss k s (stays_met ms w k s e)

pub left_finished : (f : ℕ → ℕ) (ms : List Mark) (ss : List ℕ) (k : ℕ) → ((i : ℕ) → i < length ss → get_or ms (at ss i) New ≢ New)
    → left f 0 (finished ms ss k) ≡ left f 0 ms
left_finished f ms [] k h = refl
left_finished f ms (w ∷ ss) k h = left_finished f (set ms w (Done k)) ss k (λ i l. stays_met ms w k (at ss i) (h (suc i) (omega arith)))
    ∙ left_done f 0 ms w k (h 0 (omega arith))

pub length_finished : (ms : List Mark) (ss : List ℕ) (k : ℕ) → length (finished ms ss k) ≡ length ms
length_finished ms [] k = refl
length_finished ms (w ∷ ss) k = length_finished (set ms w (Done k)) ss k ∙ length-set ms w (Done k)

-- a node that is among them is done, and each other keeps its mark
pub finished_other : (ms : List Mark) (ss : List ℕ) (k s : ℕ) → ((i : ℕ) → i < length ss → at ss i ≢ s) → get_or (finished ms ss k) s New ≡ get_or ms s New
finished_other ms [] k s h = refl
finished_other ms (w ∷ ss) k s h = finished_other (set ms w (Done k)) ss k s (λ i l. h (suc i) (omega arith))
    ∙ get_or-set_other ms w s (Done k) New (λ e. h 0 (omega arith) (sym e))

finished_again : (ms : List Mark) (ss : List ℕ) (k s : ℕ) → s < length ms → get_or ms s New ≡ Done k → get_or (finished ms ss k) s New ≡ Done k
finished_again ms [] k s l e = e
finished_again ms (w ∷ ss) k s l e = finished_again (set ms w (Done k)) ss k s (omega (arith, length-set ms w (Done k))) (elim (cases_eq s w) [
  | inl q ↦ subst (λ x. get_or (set ms w (Done k)) x New ≡ Done k) (sym q) (get_or-set_same ms w (Done k) New (omega arith))
  | inr q ↦ get_or-set_other ms w s (Done k) New q ∙ e
])

pub finished_given : (ms : List Mark) (ss : List ℕ) (k i : ℕ) → i < length ss → at ss i < length ms → get_or (finished ms ss k) (at ss i) New ≡ Done k
finished_given ms [] k i l m = absurd (omega arith)
finished_given ms (w ∷ ss) k zero l m =
    finished_again (set ms w (Done k)) ss k w (omega (arith, length-set ms w (Done k))) (get_or-set_same ms w (Done k) New m)
finished_given ms (w ∷ ss) k (suc i) l m = finished_given (set ms w (Done k)) ss k i (omega arith) (omega (arith, length-set ms w (Done k)))
