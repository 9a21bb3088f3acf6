-- Lemmas on lists: those that grow at their end, fronts and backs, tables.
use Rattle.std.proofs.Common.{◌≡◌, ℕ, zero, suc, ◌+◌, ◌<◌, ◌≤◌, List, [], ◌∷◌, ◌++◌, length, map, reverse, get_or, take, drop, refl, sym, ap, ◌∙◌}
use Rattle.std.proofs.Common.{subst, arith, ap₂, ◌⊎◌, inl, inr, add-one, drop-cons, append_assoc}
use Rattle.std.proofs.lemmas.Bool.{cases_lt}
use Rattle.std.proofs.lemmas.List.{reverse-reverse, length_push, length-append, get_or_append_left, get_or_push, map_push, take_at, drop_at, append-nil}
use mathlib.Core.List.{reverse-cons}
use Rattle.fv_base.specs.headline.Lists.{IsPrefixOf, table}

-- ---- lists that grow at their end
-- a list is empty, or one followed by an item
pub snoc_induction : {A : Type 0} (P : List A → Type 0) → P [] → ((xs : List A) (x : A) → P xs → P (xs ++ x ∷ [])) → (xs : List A) → P xs
snoc_induction {A} P none more xs = subst P (reverse-reverse xs) (from (reverse xs))
  where
    from : (ys : List A) → P (reverse ys)
    from [] = none
    from (y ∷ ys) = subst P (sym (reverse-cons y ys)) (more (reverse ys) y (from ys))

pub length_snoc : {A : Type 0} (xs : List A) (x : A) → length (xs ++ x ∷ []) ≡ suc (length xs)
length_snoc xs x = omega (arith, length_push xs x)

-- ---- fronts and backs
pub same_front : {A : Type 0} (xs ys us vs : List A) → length xs ≡ length ys → xs ++ us ≡ ys ++ vs → xs ≡ ys
same_front xs ys us vs l e = sym (take_at xs us (length xs) refl) ∙ ap (take (length xs)) e ∙ take_at ys vs (length xs) (sym l)

pub same_back : {A : Type 0} (xs ys us vs : List A) → length xs ≡ length ys → xs ++ us ≡ ys ++ vs → us ≡ vs
same_back xs ys us vs l e = sym (drop_at xs us (length xs) refl) ∙ ap (drop (length xs)) e ∙ drop_at ys vs (length xs) (sym l)

-- the front of equal lists whose backs are as long
pub same_length : {A : Type 0} (xs ys us vs : List A) → length us ≡ length vs → xs ++ us ≡ ys ++ vs → length xs ≡ length ys
same_length xs ys us vs l e = omega (arith, length-append xs us, length-append ys vs, ap length e)

-- the item at a place, and what follows it
pub drop_step : {A : Type 0} (xs : List A) (i : ℕ) (d : A) → i < length xs → drop i xs ≡ get_or xs i d ∷ drop (i + 1) xs
drop_step xs i d h = rw (add-one, drop-cons xs i d) refl

-- ---- prefixes
pub prefix_refl : {A : Type 0} (xs : List A) → IsPrefixOf xs xs
prefix_refl xs = record { rest = []; is = sym (append-nil xs) }

pub prefix_trans : {A : Type 0} (xs ys zs : List A) → IsPrefixOf xs ys → IsPrefixOf ys zs → IsPrefixOf xs zs
prefix_trans xs ys zs p q = record { rest = p.rest ++ q.rest; is = q.is ∙ ap (λ l. l ++ q.rest) p.is ∙ append_assoc xs p.rest q.rest }

-- ---- tables
pub table_same : {A : Type 0} (n : ℕ) (f g : ℕ → A) → ((t : ℕ) → t < n → f t ≡ g t) → table n f ≡ table n g
table_same zero f g h = refl
table_same (suc n) f g h = ap₂ (λ xs x. xs ++ x ∷ []) (table_same n f g (λ t l. h t (omega arith))) (h n (omega arith))

pub length_table : {A : Type 0} (n : ℕ) (f : ℕ → A) → length (table n f) ≡ n
length_table zero f = refl
length_table (suc n) f = length_snoc (table n f) (f n) ∙ ap suc (length_table n f)

pub map_table : {A B : Type 0} (g : A → B) (n : ℕ) (f : ℕ → A) → map g (table n f) ≡ table n (λ t. g (f t))
map_table g zero f = refl
map_table g (suc n) f = map_push g (table n f) (f n) ∙ ap (λ xs. xs ++ g (f n) ∷ []) (map_table g n f)

le_cases : (t n : ℕ) → t ≤ n → (t < n) ⊎ (t ≡ n)
le_cases t n h = elim (cases_lt t n) [ inl l ↦ inl l | inr g ↦ inr (omega arith) ]

pub get_or_table : {A : Type 0} (n : ℕ) (f : ℕ → A) (t : ℕ) (d : A) → t < n → get_or (table n f) t d ≡ f t
get_or_table zero f t d h = absurd (omega arith)
get_or_table (suc n) f t d h =
    elim (le_cases t n (omega arith)) [
      | inl l ↦ get_or_append_left (table n f) (f n ∷ []) d t (omega (arith, length_table n f)) ∙ get_or_table n f t d l
      | inr e ↦ get_or_push (table n f) (f n) d t (length_table n f ∙ sym e) ∙ ap f (sym e)
    ]

pub table_items : {A : Type 0} (xs : List A) (d : A) → table (length xs) (λ i. get_or xs i d) ≡ xs
table_items {A} xs d = snoc_induction {A = A} (λ xs. table (length xs) (λ i. get_or xs i d) ≡ xs) refl
    (λ xs x h.
    ap (λ n. table n (λ i. get_or (xs ++ x ∷ []) i d)) (length_snoc xs x)
    ∙ ap₂ (λ ys y. ys ++ y ∷ [])
    (table_same (length xs) _ _ (λ t l. get_or_append_left xs (x ∷ []) d t l) ∙ h)
    (get_or_push xs x d (length xs) refl))
    xs
