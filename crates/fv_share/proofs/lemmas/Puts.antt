-- A list in which each item stands once, and one that is inserted.
use Rattle.std.proofs.Common.{◌≡◌, ◌⊎◌, inl, inr, ℕ, zero, suc, ◌+◌, ◌<◌, cond, List, [], ◌∷◌, ◌++◌, length, get_or, refl, sym, ap, ◌∙◌, subst, arith, Bool}
use Rattle.std.proofs.Common.{true, false, slice_get, Some, if◌then◌else◌, ℤ, nat_lt}
use Rattle.std.specs.Prelude.{◌||◌, not}
use Rattle.std.specs.List.{list_any, position_or_len}
use Rattle.std.proofs.lemmas.Bool.{cases_lt, ltb-true}
use Rattle.std.proofs.lemmas.List.{length_push, get_or_push, get_or_append_left}
use Rattle.std.proofs.lemmas.List.Sums.{position_or_len_is, passes_at_first}
use Rattle.indexmap.specs.IndexSet.{insert_key}
use Rattle.fv_base.specs.headline.Lists.{IsPrefixOf}
use Rattle.fv_base.proofs.lemmas.Lists.{prefix_refl}
use Rattle.fv_signal.specs.declared.signal.Signal.{Signal}
use Rattle.fv_share.specs.Drafts.{Draft, with_table, AreDistinct, IsPut, IsTablePut, BacksStayWithin, TablesStand, put, put_table, same, same_list}
use Rattle.fv_share.proofs.lemmas.Same.{same_equal, same_self, lists_equal}

or_false : (a b : Bool) → a || b ≡ false → (a ≡ false) × (b ≡ false)
or_false true b h = absurd cc
or_false false b h = (refl, h)

none_any : (n : Signal) (ns : List Signal) → list_any (same n) ns ≡ false → (i : ℕ) (d : Signal) → i < length ns → same n (get_or ns i d) ≡ false
none_any n [] h i d l = absurd (omega arith)
none_any n (x ∷ xs) h zero d l = (or_false _ _ h).0
none_any n (x ∷ xs) h (suc i) d l = none_any n xs (or_false _ _ h).1 i d (omega arith)

-- a new item at the end
distinct_push : (ns : List Signal) (n : Signal) → list_any (same n) ns ≡ false → AreDistinct ns → AreDistinct (ns ++ n ∷ [])
distinct_push ns n none h i j d a b e = elim (cases_lt i (length ns)) [
  | inl p ↦ elim (cases_lt j (length ns)) [
    | inl q ↦ h i j d p q (sym (get_or_append_left ns (n ∷ []) d i p) ∙ e ∙ get_or_append_left ns (n ∷ []) d j q)
    | inr q ↦ absurd (other i d p (sym (get_or_append_left ns (n ∷ []) d i p) ∙ e ∙ get_or_push ns n d j (omega (arith, length_push ns n))))
  ]
  | inr p ↦ elim (cases_lt j (length ns)) [
    | inl q ↦ absurd (other j d q (sym (get_or_append_left ns (n ∷ []) d j q) ∙ sym e ∙ get_or_push ns n d i (omega (arith, length_push ns n))))
    | inr q ↦ omega (arith, length_push ns n)
  ]
]
  where
    other : (k : ℕ) (d : Signal) → k < length ns → get_or ns k d ≡ n → ⊥
    other k d l f = absurd (let x = none_any n ns none k d l in let y = ap (same n) f ∙ same_self n in cc)

-- what is inserted stands once, and the others stay
pub inserted : (ns : List Signal) (n : Signal) → AreDistinct ns → AreDistinct (insert_key same ns n)
    × ((insert_key same ns n ≡ ns) ⊎ (insert_key same ns n ≡ ns ++ n ∷ []))
inserted ns n h = go (list_any (same n) ns) refl
  where
    go : (b : Bool) → list_any (same n) ns ≡ b → AreDistinct (insert_key same ns n) × ((insert_key same ns n ≡ ns) ⊎ (insert_key same ns n ≡ ns ++ n ∷ []))
    go true f = let g : insert_key same ns n ≡ ns = ap (λ c. if c then ns else ns ++ n ∷ []) f in (subst AreDistinct (sym g) h, inl g)
    go false f = let g : insert_key same ns n ≡ ns ++ n ∷ [] = ap (λ c. if c then ns else ns ++ n ∷ []) f in
        (subst AreDistinct (sym g) (distinct_push ns n f h), inr g)

pub got : (ns : List Signal) (i : ℕ) (k d : Signal) → slice_get ns i ≡ Some k → get_or ns i d ≡ k
got [] i k d e = absurd cc
got (x ∷ xs) zero k d e = (let z : x ≡ k = cc in z)
got (x ∷ xs) (suc i) k d e = got xs i k d e

-- ---- where it stands

found : (p : Signal → Bool) (xs : List Signal) → list_any p xs ≡ true → position_or_len p xs < length xs
found p [] h = absurd cc
found p (x ∷ xs) h = go (p x) refl (found p xs)
  where
    go : (b : Bool) → p x ≡ b → (list_any p xs ≡ true → position_or_len p xs < length xs) → position_or_len p (x ∷ xs) < length (x ∷ xs)
    go true e more = let q : position_or_len p (x ∷ xs) ≡ 0 = ap (λ b. cond (not b) (1 + position_or_len p xs) 0) e in omega arith
    go false e more =
        let q : position_or_len p (x ∷ xs) ≡ 1 + position_or_len p xs = ap (λ b. cond (not b) (1 + position_or_len p xs) 0) e in
        let rest : list_any p xs ≡ true = sym (ap (λ b. b || list_any p xs) e) ∙ h in
        omega (arith, q, more rest)

stands_by : (d : Draft) (n : Signal) (b : Bool) → list_any (same n) d.signals ≡ b → IsPut d n (put d n)
stands_by d n true f =
    let ss = d.signals in
    let i = position_or_len (same n) ss in
    let all : insert_key same ss n ≡ ss = ap (λ c. if c then ss else ss ++ n ∷ []) f in
    let here = found (same n) ss f in record {
      within = subst (λ l. i < length l) (sym all) here;
      stands = λ x. ap (λ l. get_or l i x) all ∙ sym (same_equal n (get_or ss i x) (passes_at_first (same n) ss x here));
      keeps = subst (IsPrefixOf ss) (sym all) (prefix_refl ss);
      alone = λ k l m. absurd (omega (arith, l, m, ap length all));
    }
stands_by d n false f =
    let ss = d.signals in
    let i = position_or_len (same n) ss in
    let all : insert_key same ss n ≡ ss ++ n ∷ [] = ap (λ c. if c then ss else ss ++ n ∷ []) f in
    let last : i ≡ length ss = position_or_len_is (same n) ss (length ss) n (omega arith) (λ k l. none_any n ss f k n l) (λ l. absurd (omega arith)) in record {
      within = subst (λ l. i < length l) (sym all) (omega (arith, last, length_push ss n));
      stands = λ x. ap (λ l. get_or l i x) all ∙ get_or_push ss n x i (sym last);
      keeps = subst (IsPrefixOf ss) (sym all) (record { rest = n ∷ []; is = refl });
      alone = λ k l m. omega (arith, l, m, last, ap length all, length_push ss n);
    }

-- what stands in a draft into which a signal was put: what stood there, or the signal
put_cases : (d : Draft) (n : Signal) (i : ℕ) (x : Signal) → i < length (put d n).1.signals →
    ((i < length d.signals) × (get_or (put d n).1.signals i x ≡ get_or d.signals i x)) ⊎ (get_or (put d n).1.signals i x ≡ n)
put_cases d n i x l = elim (cases_lt i (length d.signals)) [
  | inl m ↦ inl (m, ap (λ ss. get_or ss i x) p.keeps.is ∙ get_or_append_left d.signals p.keeps.rest x i m)
  | inr m ↦ inr (ap (λ k. get_or (put d n).1.signals k x) (p.alone i l m) ∙ p.stands x)
]
  where
    p : IsPut d n (put d n)
    p = stands_by d n (list_any (same n) d.signals) refl

pub backs_stay_within : BacksStayWithin
backs_stay_within d n g count h b i k x l e = elim (put_cases d n i x l) [
  | inl p ↦ b i k x p.0 (sym p.1 ∙ e)
  | inr p ↦ h k (sym p ∙ e)
]

-- ---- a table

table_by : (d : Draft) (T : List ℤ) (b : Bool) → nat_lt (position_or_len (same_list T) d.tables) (length d.tables) ≡ b → IsTablePut d T (put_table d T)
table_by d T true f =
    let t = position_or_len (same_list T) d.tables in
    let is : (t, d) ≡ put_table d T = sym (ap (λ c. if c then (t, d) else (length d.tables, with_table d T)) f) in
    subst (IsTablePut d T) is (record {
      stands = sym (lists_equal T (get_or d.tables t []) (passes_at_first (same_list T) d.tables [] (ltb-true t (length d.tables) f)));
      keeps = prefix_refl d.tables;
      rest = refl;
    })
table_by d T false f =
    let t = position_or_len (same_list T) d.tables in
    let is : (length d.tables, with_table d T) ≡ put_table d T = sym (ap (λ c. if c then (t, d) else (length d.tables, with_table d T)) f) in
    subst (IsTablePut d T) is (record { stands = get_or_push d.tables T [] (length d.tables) refl; keeps = record { rest = T ∷ []; is = refl }; rest = refl })

pub tables_stand : TablesStand
tables_stand d T = table_by d T (nat_lt (position_or_len (same_list T) d.tables) (length d.tables)) refl

pub put_stands : (d : Draft) (n : Signal) → IsPut d n (put d n)
put_stands d n = stands_by d n (list_any (same n) d.signals) refl
