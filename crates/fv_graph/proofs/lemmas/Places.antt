-- A list of what each worker has, after a write at one worker.
use Rattle.std.proofs.Common.{◌≡◌, ℕ, zero, suc, ◌+◌, ◌-◌, ◌<◌, ◌==◌, Bool, true, false, cond, not, List, [], ◌∷◌, map, length, get_or, set}
use Rattle.std.proofs.Common.{take, drop, Option, Some, None, refl, sym, ap, ◌∙◌, arith, nat_lt, lt-ltb, true≢false, ne_eqb, ◌||◌}
use Rattle.std.specs.List.{remove, position_or_len, list_any}
use Rattle.fv_graph.specs.Tasks.{bit}
use Rattle.fv_graph.specs.TasksBeside.{times}
use Rattle.std.specs.Option.{option_copied, option_map, unwrap_or, is_some}
use denote.Ref.{Bor}
use Rattle.fv_graph.specs.Ends.{but_back, but_front, back_of, without}

module _ {A B : Type 0} (f : A → B) where
  pub map_set : (xs : List A) (i : ℕ) (y : A) → map f (set xs i y) ≡ set (map f xs) i (f y)
  map_set [] i y = refl
  map_set (x ∷ xs) zero y = refl
  map_set (x ∷ xs) (suc i) y = ap (λ l. f x ∷ l) (map_set xs i y)

  pub get_map : (xs : List A) (i : ℕ) (d : A) (e : B) → i < length xs → get_or (map f xs) i e ≡ f (get_or xs i d)
  get_map [] i d e h = absurd (omega arith)
  get_map (x ∷ xs) zero d e h = refl
  get_map (x ∷ xs) (suc i) d e h = get_map xs i d e (omega arith)

  -- what f sees of the place is g of what it saw
  pub map_at : (g : B → B) (xs : List A) (i : ℕ) (y old : A) (e : B) → i < length xs → old ≡ get_or xs i old → f y ≡ g (f old)
      → map f (set xs i y) ≡ set (map f xs) i (g (get_or (map f xs) i e))
  map_at g xs i y old e h is to = map_set xs i y ∙ ap (set (map f xs) i) (to ∙ ap g (ap f is ∙ sym (get_map xs i old e h)))

  pub set_same : (xs : List B) (i : ℕ) (e : B) → set xs i (get_or xs i e) ≡ xs
  set_same [] i e = refl
  set_same (x ∷ xs) zero e = refl
  set_same (x ∷ xs) (suc i) e = ap (λ l. x ∷ l) (set_same xs i e)

  -- f sees the same of the place
  pub map_same : (xs : List A) (i : ℕ) (y old : A) → i < length xs → old ≡ get_or xs i old → f y ≡ f old → map f (set xs i y) ≡ map f xs
  map_same xs i y old h is to = map_at (λ b. b) xs i y old (f old) h is to ∙ set_same (map f xs) i (f old)

pub but_back_take : (xs : List ℕ) → but_back xs ≡ take (length xs - 1) xs
but_back_take [] = refl
but_back_take (x ∷ []) = refl
but_back_take (x ∷ y ∷ ys) = ap (λ l. x ∷ l) (but_back_take (y ∷ ys))
    ∙ ap (λ k. take k (x ∷ y ∷ ys)) (let q : suc (suc (length ys) - 1) ≡ suc (suc (length ys)) - 1 = omega arith in q)

pub but_front_drop : (xs : List ℕ) → drop 1 xs ≡ but_front xs
but_front_drop [] = refl
but_front_drop (x ∷ xs) = refl

-- the back stands at the last place
pub back_at : (xs : List ℕ) (d : ℕ) → 0 < length xs → back_of xs ≡ Some (get_or xs (length xs - 1) d)
back_at [] d h = absurd (omega arith)
back_at (x ∷ []) d h = refl
back_at (x ∷ y ∷ ys) d h = back_at (y ∷ ys) d (omega arith)
    ∙ ap (λ k. Some (get_or (x ∷ y ∷ ys) k d)) (let q : suc (suc (length ys) - 1) ≡ suc (suc (length ys)) - 1 = omega arith in q)

pub back_none : (xs : List ℕ) → length xs ≡ 0 → back_of xs ≡ None
back_none [] h = refl
back_none (x ∷ xs) h = absurd (omega arith)

-- the first number e is at the first place where it stands
pub without_at : (e : ℕ) (xs : List ℕ) → without e xs ≡ remove xs (position_or_len (λ x. x == e) xs)
without_at e [] = refl
without_at e (x ∷ xs) = taken (x == e) e x xs (without_at e xs)
  where
    taken : (b : Bool) (e x : ℕ) (xs : List ℕ) → without e xs ≡ remove xs (position_or_len (λ y. y == e) xs)
        → cond b xs (x ∷ without e xs) ≡ remove (x ∷ xs) (cond (not b) (1 + position_or_len (λ y. y == e) xs) 0)
    taken true e x xs r = refl
    taken false e x xs r = ap (λ l. x ∷ l) r
        ∙ ap (remove (x ∷ xs)) (let q : suc (position_or_len (λ y. y == e) xs) ≡ 1 + position_or_len (λ y. y == e) xs = omega arith in q)

pub chosen_some : (b : Bool) (k i : ℕ) → Some i ≡ cond b (Some k) None → i ≡ k
chosen_some true k i h = cc
chosen_some false k i h = cc

pub chosen_none : (b : Bool) (k : ℕ) → cond b (Some k) None ≡ None → b ≡ false
chosen_none true k h = cc
chosen_none false k h = refl

-- where e does not stand, nothing is taken out
pub without_none : (e : ℕ) (xs : List ℕ) → nat_lt (position_or_len (λ x. x == e) xs) (length xs) ≡ false → without e xs ≡ xs
without_none e [] h = refl
without_none e (x ∷ xs) h = kept (x == e) e x xs (without_none e xs) h
  where
    kept : (b : Bool) (e x : ℕ) (xs : List ℕ) → (nat_lt (position_or_len (λ y. y == e) xs) (length xs) ≡ false → without e xs ≡ xs)
        → nat_lt (cond (not b) (1 + position_or_len (λ y. y == e) xs) 0) (suc (length xs)) ≡ false → cond b xs (x ∷ without e xs) ≡ x ∷ xs
    kept true e x xs r h = absurd (true≢false (sym (lt-ltb 0 (suc (length xs)) (omega arith)) ∙ h))
    kept false e x xs r h = ap (λ l. x ∷ l) (r (grind arith))

-- what a look at the back gives
pub back_gives : (xs : List ℕ) (r : Option (Bor ℕ)) → is_some r ≡ nat_lt 0 (length xs)
    → ((d : ℕ) → unwrap_or (option_map (λ (x : Bor ℕ). x.now) r) d ≡ get_or xs (length xs - 1) d) → option_copied r ≡ back_of xs
back_gives xs None some value = sym (back_none xs (grind arith))
back_gives xs (Some x) some value = ap Some (value 0) ∙ sym (back_at xs 0 (grind arith))

-- whether a number stands in a list
pub found_times : (e : ℕ) (xs : List ℕ) → list_any (λ x. x == e) xs ≡ not (times e xs == 0)
found_times e [] = refl
found_times e (x ∷ xs) = first (x == e) (times e xs) (list_any (λ y. y == e) xs) (found_times e xs)
  where
    first : (b : Bool) (n : ℕ) (found : Bool) → found ≡ not (n == 0) → (b || found) ≡ not ((bit b + n) == 0)
    first true n found h = sym (ap not (ne_eqb (1 + n) 0 (λ q. omega arith)))
    first false n found h = h ∙ ap (λ k. not (k == 0)) (omega arith)
