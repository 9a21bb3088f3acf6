-- How a core begins: the lists that are made, and the deal.
use Rattle.std.proofs.Common.{◌≡◌, ℕ, zero, suc, ◌+◌, ◌-◌, ◌*◌, ◌/◌, ◌%◌, ◌<◌, ◌≤◌, Bool, true, false, cond, List, [], ◌∷◌, ◌++◌, map, length}
use Rattle.std.proofs.Common.{replicate, get_or, set, refl, sym, ap, ◌∙◌, subst, arith, suc-mul, mod-lt, div-add-mod'}
use Rattle.std.proofs.lemmas.List.{map-append}
use Rattle.std.proofs.Math.Nat.{mod-eq_of_lt}
use Rattle.fv_graph.specs.Words.{passing}
use Rattle.fv_graph.proofs.lemmas.Counts.{get_set}
use Rattle.fv_graph.proofs.lemmas.Graphs.{unique}
use Rattle.fv_graph.proofs.lemmas.Grouping.{passing_next}
use Rattle.fv_graph.specs.Core.{dealt, numbers}

pub one_more : {X : Type 0} (n : ℕ) (x : X) → replicate (n + 1) x ≡ replicate n x ++ x ∷ []
one_more zero x = refl
one_more (suc n) x = ap (λ k. replicate k x) (let q : suc n + 1 ≡ suc (n + 1) = omega arith in q) ∙ ap (λ l. x ∷ l) (one_more n x)

pub numbers_more : (f : ℕ → ℕ) (n : ℕ) → map f (numbers (n + 1)) ≡ map f (numbers n) ++ f n ∷ []
numbers_more f n = ap (map f) (passing_next (λ _. true) 0 n) ∙ map-append f (numbers n) ((0 + n) ∷ []) ∙ ap (λ k. map f (numbers n) ++ f k ∷ []) (omega arith)

-- a list of lists of which each is empty
pub all_empty : (xs : List (List ℕ)) → ((w : ℕ) → w < length xs → get_or xs w [] ≡ []) → xs ≡ replicate (length xs) []
all_empty [] h = refl
all_empty (x ∷ xs) h = ap (λ y. y ∷ xs) (h 0 (omega arith)) ∙ ap (λ l. [] ∷ l) (all_empty xs (λ w l. h (suc w) (omega arith)))

-- one deque more is emptied
pub emptied : (xs ys : List (List ℕ)) (w : ℕ) → w < length xs → ((v : ℕ) → v < w → get_or xs v [] ≡ []) → ys ≡ set xs w [] → (v : ℕ) → v < w + 1
    → get_or ys v [] ≡ []
emptied xs ys w h before is v l = ap (λ zs. get_or zs v []) is ∙ get_set (λ z. z ≡ []) xs w v [] [] h (λ _. refl) (λ ne. before v (omega arith))

-- ---- the deal goes round
turn : (k workers : ℕ) → 0 < workers → (k + workers) % workers ≡ k % workers
turn k workers some = let a = div-add-mod' (k + workers) workers in let b = div-add-mod' k workers in let m = suc-mul (k / workers) workers in
    (unique ((k + workers) / workers) ((k + workers) % workers) (suc (k / workers)) (k % workers) workers (mod-lt (k + workers) some) (mod-lt k some)
    (omega arith)).1

dealt_turn : (workers k : ℕ) (ts : List ℕ) (ds : List (List ℕ)) → 0 < workers → dealt workers (k + workers) ts ds ≡ dealt workers k ts ds
dealt_turn workers k [] ds some = refl
dealt_turn workers k (t ∷ ts) ds some =
    let n = turn k workers some in
    ap (λ j. dealt workers (suc (k + workers)) ts (set ds j (get_or ds j [] ++ t ∷ []))) n
    ∙ ap (λ j. dealt workers j ts (set ds (k % workers) (get_or ds (k % workers) [] ++ t ∷ [])))
    (let q : suc (k + workers) ≡ suc k + workers = omega arith in q)
    ∙ dealt_turn workers (suc k) ts (set ds (k % workers) (get_or ds (k % workers) [] ++ t ∷ [])) some

dealt_turns : (workers q k : ℕ) (ts : List ℕ) (ds : List (List ℕ)) → 0 < workers → dealt workers (q * workers + k) ts ds ≡ dealt workers k ts ds
dealt_turns workers zero k ts ds some = ap (λ j. dealt workers j ts ds) (omega arith)
dealt_turns workers (suc q) k ts ds some = ap (λ j. dealt workers j ts ds) (let m = suc-mul q workers in
    let e : suc q * workers + k ≡ q * workers + k + workers = omega arith in e) ∙ dealt_turn workers (q * workers + k) ts ds some
    ∙ dealt_turns workers q k ts ds some

dealt_mod : (workers k : ℕ) (ts : List ℕ) (ds : List (List ℕ)) → 0 < workers → dealt workers k ts ds ≡ dealt workers (k % workers) ts ds
dealt_mod workers k ts ds some = ap (λ j. dealt workers j ts ds) (sym (div-add-mod' k workers)) ∙ dealt_turns workers (k / workers) (k % workers) ts ds some

-- one task more is looked at
dealt_chosen : (b : Bool) (workers w t : ℕ) (rest : List ℕ) (ds : List (List ℕ)) → w < workers
    → dealt workers (cond b ((w + 1) % workers) w) rest (cond b (set ds w (get_or ds w [] ++ t ∷ [])) ds) ≡ dealt workers w (cond b (t ∷ rest) rest) ds
dealt_chosen true workers w t rest ds h =
    sym (dealt_mod workers (w + 1) rest (set ds w (get_or ds w [] ++ t ∷ [])) (omega arith))
    ∙ ap (λ j. dealt workers j rest (set ds w (get_or ds w [] ++ t ∷ []))) (let q : w + 1 ≡ suc w = omega arith in q)
    ∙ ap (λ j. dealt workers (suc w) rest (set ds j (get_or ds j [] ++ t ∷ []))) (sym (mod-eq_of_lt h))
dealt_chosen false workers w t rest ds h = refl

pub dealt_next : (p : ℕ → Bool) (workers w t n : ℕ) (ds es : List (List ℕ)) (v : ℕ) → w < workers → t < n → v ≡ cond (p t) ((w + 1) % workers) w
    → es ≡ cond (p t) (set ds w (get_or ds w [] ++ t ∷ [])) ds
    → dealt workers v (passing p (t + 1) (n - (t + 1))) es ≡ dealt workers w (passing p t (n - t)) ds
dealt_next p workers w t n ds es v h l a b =
    ap (λ k. dealt workers k (passing p (t + 1) (n - (t + 1))) es) a
    ∙ ap (dealt workers (cond (p t) ((w + 1) % workers) w) (passing p (t + 1) (n - (t + 1)))) b
    ∙ ap (λ k. dealt workers (cond (p t) ((w + 1) % workers) w) (passing p k (n - (t + 1))) (cond (p t) (set ds w (get_or ds w [] ++ t ∷ [])) ds))
    (let q : t + 1 ≡ suc t = omega arith in q)
    ∙ dealt_chosen (p t) workers w t (passing p (suc t) (n - (t + 1))) ds h
    ∙ ap (λ k. dealt workers w (passing p t k) ds) (let q : suc (n - (t + 1)) ≡ n - t = omega arith in q)

-- no deque holds more than the tasks that were looked at
pub no_longer : (b : Bool) (ds es : List (List ℕ)) (w t : ℕ) → w < length ds → ((v : ℕ) → length (get_or ds v []) ≤ t)
    → es ≡ cond b (set ds w (get_or ds w [] ++ t ∷ [])) ds → (v : ℕ) → length (get_or es v []) ≤ t + 1
no_longer true ds es w t h short is v =
    subst (λ xs. length (get_or xs v []) ≤ t + 1) (sym is) (get_set (λ z. length z ≤ t + 1) ds w v (get_or ds w [] ++ t ∷ []) [] h
    (λ _. let s = short w in let p = pushed (get_or ds w []) t in omega arith) (λ _. let s = short v in omega arith))
  where
    pushed : (xs : List ℕ) (t : ℕ) → length (xs ++ t ∷ []) ≡ length xs + 1
    pushed [] t = refl
    pushed (x ∷ xs) t = ap suc (pushed xs t) ∙ omega arith
no_longer false ds es w t h short is v = subst (λ xs. length (get_or xs v []) ≤ t + 1) (sym is) (let s = short v in omega arith)

pub one_of_two : (b : Bool) (x y n : ℕ) → x < n → y < n → cond b x y < n
one_of_two true x y n h l = h
one_of_two false x y n h l = l

-- a list of which each element is x
pub all_same : {X : Type 0} (x : X) (xs : List X) → ((k : ℕ) → k < length xs → get_or xs k x ≡ x) → xs ≡ replicate (length xs) x
all_same x [] h = refl
all_same x (y ∷ ys) h = ap (λ z. z ∷ ys) (h 0 (omega arith)) ∙ ap (λ l. x ∷ l) (all_same x ys (λ k l. h (suc k) (omega arith)))

pub set_more : {X : Type 0} (x : X) (xs : List X) (i : ℕ) → i < length xs → ((k : ℕ) → k < i → get_or xs k x ≡ x) → (k : ℕ) → k < i + 1
    → get_or (set xs i x) k x ≡ x
set_more x xs i h before k l = get_set (λ z. z ≡ x) xs i k x x h (λ _. refl) (λ ne. before k (omega arith))
