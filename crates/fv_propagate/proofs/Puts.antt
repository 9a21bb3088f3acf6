-- Signals that are put, one after another.
use Rattle.std.proofs.Common.{◌≡◌, ℕ, zero, suc, ◌+◌, ◌<◌, List, [], ◌∷◌, ◌++◌, length, get_or, refl, sym, ap, ◌∙◌, subst, arith, ◌⊎◌, inl, inr, ℤ, pos}
use Rattle.std.proofs.lemmas.Bool.{cases_lt}
use Rattle.std.proofs.lemmas.List.{get_or_push, get_or_append_left}
use Rattle.fv_base.specs.headline.Lists.{IsPrefixOf}
use Rattle.fv_base.proofs.lemmas.Lists.{prefix_refl, prefix_trans, length_snoc}
use Rattle.fv_diagram.proofs.lemmas.Places.{prefix_long, prefix_get}
use Rattle.fv_signal.specs.declared.signal.Signal.{Signal}
use Rattle.fv_signal.specs.headline.Value.{Graph}
use Rattle.fv_share.specs.Drafts.{Draft}
use Rattle.fv_share.proofs.lemmas.Puts.{put_stands}
use Rattle.fv_signal.specs.declared.signal.Signal.TheVariants.{Const, Point, Back}
use Rattle.fv_num.specs.declared.op.Op.TheVariants.{Add, Rem}
use Rattle.fv_diagram.specs.Hooks.{padded}
use Rattle.fv_share.proofs.lemmas.Puts.{tables_stand}
use Rattle.fv_propagate.specs.inner.Progress.{Progress, put, puts, put_next, grouped, late_of, turned, listed}

-- the signal stands at place s of the graph
pub record StandsAt (g : Graph) (s : ℕ) (signal : Signal) : Type 0 where
  pub within : s < length g.signals
  pub is : (x : Signal) → get_or g.signals s x ≡ signal

pub put_keeps : (s : Progress) (n : Signal) → IsPrefixOf s.draft.signals (put s n).1.draft.signals
put_keeps s n = (put_stands s.draft n).keeps

pub put_there : (s : Progress) (n : Signal) → (put s n).0 < length (put s n).1.draft.signals
put_there s n = (put_stands s.draft n).within

-- where a signal stands that is there after one is put
pub put_cases : (s : Progress) (n : Signal) (i : ℕ) (x : Signal) → i < length (put s n).1.draft.signals →
    ((i < length s.draft.signals) × (get_or (put s n).1.draft.signals i x ≡ get_or s.draft.signals i x)) ⊎ (get_or (put s n).1.draft.signals i x ≡ n)
put_cases s n i x l =
    let p = put_stands s.draft n in elim (cases_lt i (length s.draft.signals)) [
      | inl m ↦ inl (m, prefix_get s.draft.signals (put s n).1.draft.signals i x p.keeps m)
      | inr m ↦ inr (ap (λ k. get_or (put s n).1.draft.signals k x) (p.alone i l m) ∙ p.stands x)
    ]

-- ---- several

pub puts_keep : (f : ℕ → Signal) (n : ℕ) (s : Progress) → IsPrefixOf s.draft.signals (puts f n s).1.draft.signals
puts_keep f zero s = prefix_refl s.draft.signals
puts_keep f (suc n) s =
    let q = puts f n s in prefix_trans s.draft.signals q.1.draft.signals (put q.1 (f n)).1.draft.signals (puts_keep f n s) (put_keeps q.1 (f n))

pub puts_wide : (f : ℕ → Signal) (n : ℕ) (s : Progress) → length (puts f n s).0 ≡ n
puts_wide f zero s = refl
puts_wide f (suc n) s = let q = puts f n s in length_snoc q.0 (put q.1 (f n)).0 ∙ ap suc (puts_wide f n s)

-- what they leave alone
pub puts_groups : (f : ℕ → Signal) (n : ℕ) (s : Progress) → (puts f n s).1.draft.groups ≡ s.draft.groups
puts_groups f zero s = refl
puts_groups f (suc n) s = puts_groups f n s

pub puts_closed : (f : ℕ → Signal) (n : ℕ) (s : Progress) → (puts f n s).1.draft.closed ≡ s.draft.closed
puts_closed f zero s = refl
puts_closed f (suc n) s = puts_closed f n s

pub puts_tables : (f : ℕ → Signal) (n : ℕ) (s : Progress) → (puts f n s).1.draft.tables ≡ s.draft.tables
puts_tables f zero s = refl
puts_tables f (suc n) s = puts_tables f n s

pub puts_delays : (f : ℕ → Signal) (n : ℕ) (s : Progress) → (puts f n s).1.delays ≡ s.delays
puts_delays f zero s = refl
puts_delays f (suc n) s = puts_delays f n s

pub puts_feedbacks : (f : ℕ → Signal) (n : ℕ) (s : Progress) → (puts f n s).1.feedbacks ≡ s.feedbacks
puts_feedbacks f zero s = refl
puts_feedbacks f (suc n) s = puts_feedbacks f n s

-- one more
pub puts_more : (f : ℕ → Signal) (i : ℕ) (s p q : Progress) (ids all : List ℕ) (id : ℕ) → (ids, p) ≡ puts f i s → (id, q) ≡ put p (f i) → all ≡ ids ++ id ∷ [] →
    (all, q) ≡ puts f (i + 1) s
puts_more f i s p q ids all id e h a =
    let n : suc i ≡ i + 1 = omega arith in
    let ids_are : ids ≡ (puts f i s).0 = ap (λ r. r.0) e in
    let p_is : p ≡ (puts f i s).1 = ap (λ r. r.1) e in
    let r_is : (id, q) ≡ put (puts f i s).1 (f i) = h ∙ ap (λ z. put z (f i)) p_is in
    ap (λ l. (l, q)) a ∙ ap (λ l. (l ++ id ∷ [], q)) ids_are ∙ ap (λ r. ((puts f i s).0 ++ r.0 ∷ [], r.1)) r_is ∙ ap (λ k. puts f k s) n

-- each of them is there
pub puts_there : (f : ℕ → Signal) (n : ℕ) (s : Progress) (i : ℕ) → i < n → get_or (puts f n s).0 i 0 < length (puts f n s).1.draft.signals
puts_there f zero s i l = absurd (omega arith)
puts_there f (suc n) s i l =
    let q = puts f n s in
    let r = put q.1 (f n) in
    let wide = puts_wide f n s in elim (cases_lt i n) [
      | inl m ↦
          subst (λ w. w < length r.1.draft.signals) (sym (get_or_append_left q.0 (r.0 ∷ []) 0 i (omega (arith, wide))))
          (omega (arith, puts_there f n s i m, prefix_long q.1.draft.signals r.1.draft.signals (put_keeps q.1 (f n))))
      | inr m ↦ subst (λ w. w < length r.1.draft.signals) (sym (get_or_push q.0 r.0 0 i (omega (arith, wide)))) (put_there q.1 (f n))
    ]

-- ---- a count

pub next_keeps : (s : Progress) (x n : ℕ) → IsPrefixOf s.draft.signals (put_next s x n).1.draft.signals
next_keeps s x n =
    let one = put s (Const (pos 1)) in
    let sum = put one.1 (Point Add (padded (x ∷ one.0 ∷ []))) in
    let many = put sum.1 (Const (pos n)) in
    prefix_trans s.draft.signals one.1.draft.signals (put_next s x n).1.draft.signals (put_keeps s (Const (pos 1)))
    (prefix_trans one.1.draft.signals sum.1.draft.signals (put_next s x n).1.draft.signals (put_keeps one.1 (Point Add (padded (x ∷ one.0 ∷ []))))
    (prefix_trans sum.1.draft.signals many.1.draft.signals (put_next s x n).1.draft.signals (put_keeps sum.1 (Const (pos n)))
    (put_keeps many.1 (Point Rem (padded (sum.0 ∷ many.0 ∷ []))))))

pub late_keeps : (s : Progress) → IsPrefixOf s.draft.signals (late_of s).1.draft.signals
late_keeps s = put_keeps (grouped s) (Back (length s.draft.groups) 0)

pub turned_keeps : (n : ℕ) (s : Progress) → IsPrefixOf s.draft.signals (turned n s).1.draft.signals
turned_keeps n s =
    prefix_trans s.draft.signals (late_of s).1.draft.signals (turned n s).1.draft.signals (late_keeps s) (next_keeps (late_of s).1 (late_of s).0 n)

-- ---- a table: it changes nothing but the tables

pub listed_is : (s : Progress) (T : List ℤ) → (listed s T).1 ≡ record s { draft = record s.draft { tables = (listed s T).1.draft.tables } }
listed_is s T = ap (λ (d : Draft). let p : Progress = record s { draft = d } in p) (tables_stand s.draft T).rest

pub listed_signals : (s : Progress) (T : List ℤ) → (listed s T).1.draft.signals ≡ s.draft.signals
listed_signals s T = ap (λ (d : Draft). d.signals) (tables_stand s.draft T).rest

pub listed_groups : (s : Progress) (T : List ℤ) → (listed s T).1.draft.groups ≡ s.draft.groups
listed_groups s T = ap (λ (d : Draft). d.groups) (tables_stand s.draft T).rest

pub listed_closed : (s : Progress) (T : List ℤ) → (listed s T).1.draft.closed ≡ s.draft.closed
listed_closed s T = ap (λ (d : Draft). d.closed) (tables_stand s.draft T).rest

-- ---- in a graph that has the signals so far

pub put_at : (F : Graph) (s : Progress) (n : Signal) → IsPrefixOf (put s n).1.draft.signals F.signals → StandsAt F (put s n).0 n
put_at F s n g =
    let p = put_stands s.draft n in
    let all = (put s n).1.draft.signals in record {
      within = omega (arith, p.within, prefix_long all F.signals g);
      is = λ x. prefix_get all F.signals (put s n).0 x g p.within ∙ p.stands x;
    }

pub puts_at : (F : Graph) (f : ℕ → Signal) (n : ℕ) (s : Progress) (i : ℕ) → i < n → IsPrefixOf (puts f n s).1.draft.signals F.signals →
    StandsAt F (get_or (puts f n s).0 i 0) (f i)
puts_at F f zero s i l g = absurd (omega arith)
puts_at F f (suc n) s i l g =
    let q = puts f n s in
    let r = put q.1 (f n) in
    let wide = puts_wide f n s in elim (cases_lt i n) [
      | inl m ↦
          subst (λ w. StandsAt F w (f i)) (sym (get_or_append_left q.0 (r.0 ∷ []) 0 i (omega (arith, wide))))
          (puts_at F f n s i m (prefix_trans q.1.draft.signals r.1.draft.signals F.signals (put_keeps q.1 (f n)) g))
      | inr m ↦
          let e : n ≡ i = omega arith in
          subst (λ w. StandsAt F w (f i)) (sym (get_or_push q.0 r.0 0 i (omega (arith, wide)))) (subst (λ k. StandsAt F r.0 (f k)) e (put_at F q.1 (f n) g))
    ]
