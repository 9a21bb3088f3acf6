-- What all workers did, taken together.
use Rattle.std.proofs.Common.{◌≡◌, ℕ, suc, ◌+◌, ◌<◌, List, [], ◌∷◌, length, get_or, replicate, refl, ap, ◌∙◌}
use Rattle.std.proofs.Common.{arith, ◌==◌, All}
use mathlib.Core.Logic.{dite}
use native.Mathlib.Decide.{dec_le}
use Rattle.fv_outside.specs.headline.Tasks.{bit, total}
use Rattle.fv_outside.specs.Tasks.{times}
use Rattle.fv_graph.specs.Net.{Net, need_count}
use Rattle.fv_graph.proofs.lemmas.Counts.{times_passing}
use Rattle.fv_graph.specs.Core.{opening, deque_of, ready}
use Rattle.fv_graph.proofs.lemmas.Opens.{times_dealt, length_dealt, length_same, total_same}

-- two totals that agree term by term
pub total_each : {X : Type 0} (f g : X → ℕ) (xs : List X) → All (λ x. f x ≡ g x) xs → total f xs ≡ total g xs
total_each f g [] h = refl
total_each f g (x ∷ xs) h = let a = h 0 x (omega arith) in let r = total_each f g xs (λ k d l. h (suc k) d (omega arith)) in omega arith

pub total_plus : {X : Type 0} (f g : X → ℕ) (xs : List X) → total (λ x. f x + g x) xs ≡ total f xs + total g xs
total_plus f g [] = refl
total_plus f g (x ∷ xs) = let r = total_plus f g xs in omega arith

-- a total of lists, by their places
by_place : {X : Type 0} (f : X → ℕ) (number : X → ℕ) (xs : List X) (ds : List (List ℕ)) (x : ℕ) → length xs ≡ length ds
    → (from : ℕ) → ((i : ℕ) (d : X) → i < length xs → number (get_or xs i d) ≡ from + i) → (all : List (List ℕ))
    → ((i : ℕ) → i < length ds → get_or all (from + i) [] ≡ get_or ds i []) → total (λ w. times x (get_or all (number w) [])) xs ≡ total (times x) ds
by_place f number [] [] x long from is all same = refl
by_place f number [] (d ∷ ds) x long from is all same = absurd (omega arith)
by_place f number (w ∷ xs) [] x long from is all same = absurd (omega arith)
by_place f number (w ∷ xs) (d ∷ ds) x long from is all same =
    let a : times x (get_or all (number w) []) ≡ times x d = ap (λ k. times x (get_or all k [])) (is 0 w (omega arith)) ∙ ap (times x) (same 0 (omega arith)) in
    let r = by_place f number xs ds x (omega arith) (suc from) (λ i e l. is (suc i) e (omega arith) ∙ omega arith) all
    (λ i l. ap (λ k. get_or all k []) (omega arith) ∙ same (suc i) (omega arith)) in omega arith

pub dealt_in_all : {X : Type 0} (number : X → ℕ) (n : Net) (workers : ℕ) (ws : List X) (x : ℕ) → 0 < workers → length ws ≡ workers
    → ((i : ℕ) (d : X) → i < length ws → number (get_or ws i d) ≡ i) → x < n.tasks
    → total (λ w. times x (deque_of (opening n workers) (number w))) ws ≡ bit (need_count n x == 0)
dealt_in_all number n workers ws x some long is there =
    let ds = (opening n workers).deques in
    let l = length_dealt workers 0 (ready n) (replicate workers []) ∙ length_same workers [] in
    let p = by_place (λ _. 0) number ws ds x (omega arith) 0 (λ i d h. is i d h ∙ omega arith) ds (λ i h. ap (λ k. get_or ds k []) (omega arith)) in
    let t = times_dealt workers 0 (ready n) (replicate workers []) some (length_same workers []) x in let z = total_same (times x) workers [] refl in
    let d = times_passing (λ t. need_count n t == 0) 0 n.tasks x (omega arith) (omega arith) in omega arith

-- a task that reads another is dealt to nobody
pub dealt_none : (n : Net) (workers w x : ℕ) → x < n.tasks → 0 < need_count n x → times x (deque_of (opening n workers) w) ≡ 0
dealt_none n workers w x there needs =
    let ds = (opening n workers).deques in let l = length_dealt workers 0 (ready n) (replicate workers []) ∙ length_same workers [] in
    dite (dec_le (suc w) workers)
    (λ h. let t = times_dealt workers 0 (ready n) (replicate workers []) (omega arith) (length_same workers []) x in
    let z = total_same (times x) workers [] refl in
    let d = times_passing (λ t. need_count n t == 0) 0 n.tasks x (omega arith) (omega arith) in
    let b = Rattle.fv_graph.proofs.lemmas.Counts.bit_apart (need_count n x) 0 (λ e. omega arith) in
    let a = Rattle.fv_graph.proofs.lemmas.Counts.total_at (times x) ds w [] (omega arith) in omega arith)
    (λ h. ap (times x) (Rattle.fv_graph.proofs.lemmas.Opens.get_out ds w [] (omega arith)))
