-- How far back signals are read.
use Rattle.std.proofs.Common.{◌≡◌, ◌⊎◌, inl, inr, ℕ, zero, suc, ◌+◌, ◌<◌, ◌≤◌, List, [], ◌∷◌, ◌++◌, length, take, map, max, get_or, All, refl, sym, ap, ap₂}
use Rattle.std.proofs.Common.{◌∙◌, subst, arith, Bool, true, false, nat_eq, nat_lt, if◌then◌else◌, pos}
use Rattle.std.specs.Prelude.{◌||◌, slice_set}
use Rattle.std.proofs.lemmas.Bool.{cases_lt, cases_eq, eq-eqb, ne_eqb, eqb-true, lt-ltb, cond-true, cond-false}
use Rattle.std.proofs.lemmas.List.{take_more, take_all, length-set, get_or-set_same, get_or-set_other}
use Rattle.std.proofs.lemmas.List.Elements.{All-get_or}
use Rattle.fv_base.proofs.lemmas.Lists.{table_same, map_table, table_items}
use Rattle.fv_num.specs.headline.Frames.{table}
use Rattle.fv_signal.specs.declared.signal.Signal.{Signal}
use Rattle.fv_signal.specs.declared.signal.Signal.TheVariants.{Const, Delay, Back}
use Rattle.fv_signal.specs.headline.Value.{Graph, definition}
use Rattle.fv_signal.proofs.lemmas.Grown.{length_grown}
use Rattle.fv_analysis.specs.headline.Stands.{node, stand, stand_in, stands_of}
use Rattle.fv_analysis.specs.headline.History.{delay_of, is_back_of, greatest_delay, is_fed_back, history_from, history_of}
use Rattle.fv_analysis.specs.History.{OfDelay, OfBack}
use Rattle.fv_analysis.specs.History.{HistoriesCover}
use Rattle.fv_analysis.specs.inner.History.{Tell, TellMore}

-- ---- one signal more

greatest_push : (g : Graph) (r : ℕ) (ss : List Signal) (s : Signal) → greatest_delay g r (ss ++ s ∷ []) ≡ max (greatest_delay g r ss) (delay_of g r s)
greatest_push g r [] s = omega arith
greatest_push g r (x ∷ ss) s = omega (arith, greatest_push g r ss s)

or_assoc : (a b c : Bool) → a || (b || c) ≡ (a || b) || c
or_assoc true b c = refl
or_assoc false b c = refl

or_false : (a : Bool) → a || false ≡ a
or_false true = refl
or_false false = refl

fed_push : (g : Graph) (r : ℕ) (ss : List Signal) (s : Signal) → is_fed_back g r (ss ++ s ∷ []) ≡ is_fed_back g r ss || is_back_of g r s
fed_push g r [] s = or_false (is_back_of g r s)
fed_push g r (x ∷ ss) s = ap (λ b. is_back_of g r x || b) (fed_push g r ss s) ∙ or_assoc (is_back_of g r x) (is_fed_back g r ss) (is_back_of g r s)

pub tell_more : (g : Graph) (n : ℕ) (s : Signal) (ds es : List ℕ) (bs cs : List Bool) → n < length g.signals → s ≡ get_or g.signals n s → Tell g n ds bs →
    TellMore g s ds bs es cs → Tell g (n + 1) es cs
tell_more g n s ds es bs cs l at h m = record {
  delays_long = m.delays_long ∙ h.delays_long;
  backs_long = m.backs_long ∙ h.backs_long;
  delays_are = λ r k.
      m.delays_are r (omega (arith, k, h.delays_long)) ∙ ap (λ x. max x (delay_of g r s)) (h.delays_are r k)
      ∙ sym (greatest_push g r (take n g.signals) s) ∙ ap (greatest_delay g r) longer;
  backs_are = λ r k.
      m.backs_are r (omega (arith, k, h.backs_long)) ∙ ap (λ x. x || is_back_of g r s) (h.backs_are r k) ∙ sym (fed_push g r (take n g.signals) s)
      ∙ ap (is_fed_back g r) longer;
}
  where
    longer : take n g.signals ++ s ∷ [] ≡ take (n + 1) g.signals
    longer = ap (λ x. take n g.signals ++ x ∷ []) at ∙ sym (take_more g.signals n s l)

-- nothing is told
pub tell_nothing : (g : Graph) (ds : List ℕ) (bs : List Bool) → length ds ≡ length g.signals → length bs ≡ length g.signals →
    ((r : ℕ) → get_or ds r 0 ≡ 0) → ((r : ℕ) → get_or bs r false ≡ false) → Tell g 0 ds bs
tell_nothing g ds bs d b zeros falses = record { delays_long = d; backs_long = b; delays_are = λ r l. zeros r; backs_are = λ r l. falses r }

-- ---- a delay, and a Back

or_true : (a : Bool) → a || true ≡ true
or_true true = refl
or_true false = refl

pub delay_set : (ds : List ℕ) (p most r : ℕ) → p < length ds →
    get_or (slice_set ds p (max (get_or ds p 0) most)) r 0 ≡ max (get_or ds r 0) (if nat_eq p r then most else 0)
delay_set ds p most r l =
    let v = max (get_or ds p 0) most in elim (cases_eq p r) [
      | inl e ↦
          ap (λ k. get_or (slice_set ds p v) k 0) (sym e) ∙ get_or-set_same ds p v 0 l
          ∙ ap₂ max (ap (λ k. get_or ds k 0) e) (sym (cond-true (nat_eq p r) most 0 (eq-eqb p r e)))
      | inr ne ↦
          let z : get_or ds r 0 ≡ max (get_or ds r 0) 0 = omega arith in
          get_or-set_other ds p r v 0 (λ e. ne (sym e)) ∙ z ∙ ap (max (get_or ds r 0)) (sym (cond-false (nat_eq p r) most 0 (ne_eqb p r ne)))
    ]

pub back_set : (bs : List Bool) (p r : ℕ) → p < length bs → get_or (slice_set bs p true) r false ≡ get_or bs r false || nat_eq p r
back_set bs p r l = elim (cases_eq p r) [
  | inl e ↦
      ap (λ k. get_or (slice_set bs p true) k false) (sym e) ∙ get_or-set_same bs p true false l
      ∙ sym (ap (λ b. get_or bs r false || b) (eq-eqb p r e) ∙ or_true (get_or bs r false))
  | inr ne ↦
      get_or-set_other bs p r true false (λ e. ne (sym e)) ∙ sym (ap (λ b. get_or bs r false || b) (ne_eqb p r ne) ∙ or_false (get_or bs r false))
]

-- a signal that tells nothing
pub tells_nothing : (g : Graph) (s : Signal) (ds : List ℕ) (bs : List Bool) → ((r : ℕ) → delay_of g r s ≡ 0) → ((r : ℕ) → is_back_of g r s ≡ false) →
    TellMore g s ds bs ds bs
tells_nothing g s ds bs d b = record {
  delays_long = refl;
  backs_long = refl;
  delays_are = λ r l. let z : get_or ds r 0 ≡ max (get_or ds r 0) 0 = omega arith in z ∙ ap (max (get_or ds r 0)) (sym (d r));
  backs_are = λ r l. sym (ap (λ x. get_or bs r false || x) (b r) ∙ or_false (get_or bs r false));
}

pub tells_delay : (g : Graph) (x d most p : ℕ) (ds es : List ℕ) (bs : List Bool) → p ≡ stand g x → p < length ds →
    es ≡ slice_set ds p (max (get_or ds p 0) most) → TellMore g (Delay x d most) ds bs es bs
tells_delay g x d most p ds es bs at l e = record {
  delays_long = ap length e ∙ length-set ds p (max (get_or ds p 0) most);
  backs_long = refl;
  delays_are = λ r k. ap (λ xs. get_or xs r 0) e ∙ delay_set ds p most r l ∙ ap (λ q. max (get_or ds r 0) (if nat_eq q r then most else 0)) at;
  backs_are = λ r k. sym (or_false (get_or bs r false));
}

pub tells_back : (g : Graph) (group i p : ℕ) (ds : List ℕ) (bs cs : List Bool) → p ≡ stand g (definition g group i) → p < length bs →
    cs ≡ slice_set bs p true → TellMore g (Back group i) ds bs ds cs
tells_back g group i p ds bs cs at l e = record {
  delays_long = refl;
  backs_long = ap length e ∙ length-set bs p true;
  delays_are = λ r k. omega arith;
  backs_are = λ r k. ap (λ xs. get_or xs r false) e ∙ back_set bs p r l ∙ ap (λ q. get_or bs r false || nat_eq q r) at;
}

-- ---- all histories

pub all_histories : (g : Graph) (stands ds : List ℕ) (bs : List Bool) → stands ≡ stands_of g → All (λ r. r < length g.signals) stands →
    Tell g (length g.signals) ds bs → map (λ r. history_from (get_or ds r 0) (get_or bs r false)) stands ≡ table (length g.signals) (history_of g)
all_histories g stands ds bs e there h =
    let n = length g.signals in
    let f : ℕ → ℕ = λ r. history_from (get_or ds r 0) (get_or bs r false) in
    let long : length stands ≡ n = omega (arith, ap length e, length_grown (stand_in g) [] g.signals) in
    let whole : take n g.signals ≡ g.signals = take_all n g.signals (omega arith) in
    let listed : stands ≡ table n (stand g) =
    sym (table_items stands 0) ∙ ap (λ k. table k (λ i. get_or stands i 0)) long ∙ table_same n _ _ (λ i l. ap (λ xs. get_or xs i 0) e) in
    ap (map f) listed ∙ map_table f n (stand g)
    ∙ table_same n _ _ (λ i l.
    let r : stand g i < n = subst (λ xs. get_or xs i 0 < n) e (All-get_or (λ r. r < n) stands i 0 (omega (arith, long, l)) there) in
    ap₂ history_from (h.delays_are (stand g i) r ∙ ap (greatest_delay g (stand g i)) whole) (h.backs_are (stand g i) r ∙ ap (is_fed_back g (stand g i)) whole))

-- ---- the law

has_greatest : (g : Graph) (r : ℕ) (ss : List Signal) (i : ℕ) (d : Signal) → i < length ss → delay_of g r (get_or ss i d) ≤ greatest_delay g r ss
has_greatest g r [] i d l = absurd (omega (arith, l))
has_greatest g r (x ∷ ss) zero d l = omega arith
has_greatest g r (x ∷ ss) (suc i) d l = omega (arith, has_greatest g r ss i d (omega (arith, l)))

has_back : (g : Graph) (r : ℕ) (ss : List Signal) (i : ℕ) (d : Signal) → i < length ss → is_back_of g r (get_or ss i d) ≡ true → is_fed_back g r ss ≡ true
has_back g r [] i d l h = absurd (omega (arith, l))
has_back g r (x ∷ ss) zero d l h = ap (λ b. b || is_fed_back g r ss) h
has_back g r (x ∷ ss) (suc i) d l h = ap (λ b. is_back_of g r x || b) (has_back g r ss i d (omega (arith, l)) h) ∙ or_true (is_back_of g r x)

find_greatest : (g : Graph) (r : ℕ) (ss : List Signal) → 0 < greatest_delay g r ss →
    (i : ℕ) × (i < length ss) × ((d : Signal) → delay_of g r (get_or ss i d) ≡ greatest_delay g r ss)
find_greatest g r [] h = absurd (omega (arith, h))
find_greatest g r (x ∷ ss) h = elim (cases_lt (delay_of g r x) (greatest_delay g r ss)) [
  | inl l ↦ let f = find_greatest g r ss (omega (arith, l)) in (suc f.0, omega (arith, f.1), λ d. f.2 d ∙ omega (arith, l))
  | inr l ↦ (0, omega arith, λ d. omega (arith, l))
]

find_back : (g : Graph) (r : ℕ) (ss : List Signal) → is_fed_back g r ss ≡ true → (i : ℕ) × (i < length ss)
    × ((d : Signal) → is_back_of g r (get_or ss i d) ≡ true)
find_back g r [] h = absurd cc
find_back g r (x ∷ ss) h = go (is_back_of g r x) refl (find_back g r ss)
  where
    go : (b : Bool) → is_back_of g r x ≡ b → (is_fed_back g r ss ≡ true → (i : ℕ) × (i < length ss) × ((d : Signal) → is_back_of g r (get_or ss i d) ≡ true)) →
        (i : ℕ) × (i < length (x ∷ ss)) × ((d : Signal) → is_back_of g r (get_or (x ∷ ss) i d) ≡ true)
    go true e more = (0, omega arith, λ d. e)
    go false e more = let f = more (sym (ap (λ b. b || is_fed_back g r ss) e) ∙ h) in (suc f.0, omega (arith, f.1), f.2)

delay_is : (g : Graph) (r : ℕ) (s : Signal) → 0 < delay_of g r s → (x : ℕ) × (d : ℕ) × (s ≡ Delay x d (delay_of g r s)) × (stand g x ≡ r)
delay_is g r (Delay x d most) h = elim (cases_eq (stand g x) r) [
  | inl e ↦ (x, d, ap (Delay x d) (sym (cond-true (nat_eq (stand g x) r) most 0 (eq-eqb (stand g x) r e))), e)
  | inr ne ↦ absurd (omega (arith, h, cond-false (nat_eq (stand g x) r) most 0 (ne_eqb (stand g x) r ne)))
]
delay_is g r s h = absurd (omega (arith, h))

back_is : (g : Graph) (r : ℕ) (s : Signal) → is_back_of g r s ≡ true → (group : ℕ) × (i : ℕ) × (s ≡ Back group i) × (stand g (definition g group i) ≡ r)
back_is g r (Back group i) h = (group, i, refl, eqb-true (stand g (definition g group i)) r h)
back_is g r s h = absurd cc

history_long : (m : ℕ) (fed : Bool) → 0 < m → history_from m fed ≡ m
history_long m fed l = cond-true (nat_lt 0 m) m (if fed then 1 else 0) (lt-ltb 0 m l)

history_least : (m : ℕ) (fed : Bool) → m ≤ history_from m fed
history_least m fed = elim (cases_lt 0 m) [ inl l ↦ omega (arith, history_long m fed l) | inr l ↦ omega arith ]

history_fed : (m : ℕ) (fed : Bool) → fed ≡ true → 1 ≤ history_from m fed
history_fed m fed e = elim (cases_lt 0 m) [
  | inl l ↦ omega (arith, history_long m fed l)
  | inr l ↦ let z : m ≡ 0 = omega arith in omega (arith, ap₂ history_from z e)
]

-- what a history is for
data Cause (m : ℕ) (fed : Bool) (n : ℕ) : Type 0 where
  Delayed : 0 < m → n ≡ m → Cause m fed n
  Fed : fed ≡ true → n ≡ 1 → Cause m fed n

cause_of : (m : ℕ) (fed : Bool) → 0 < history_from m fed → Cause m fed (history_from m fed)
cause_of m fed h = elim (cases_lt 0 m) [ inl l ↦ Delayed l (history_long m fed l) | inr l ↦ at fed refl ]
  where
    at : (b : Bool) → fed ≡ b → Cause m fed (history_from m fed)
    at true e = elim (cases_lt 0 m) [
      | inl l ↦ Delayed l (history_long m fed l)
      | inr l ↦ let z : m ≡ 0 = omega arith in Fed e (ap₂ history_from z e)
    ]
    at false e = elim (cases_lt 0 m) [
      | inl l ↦ Delayed l (history_long m fed l)
      | inr l ↦ let z : m ≡ 0 = omega arith in absurd (omega (arith, h, ap₂ history_from z e))
    ]

pub histories_cover : (g : Graph) → HistoriesCover g
histories_cover g = record {
  delays = λ r x d most h.
      let k = stand g x in
      let m = has_greatest g k g.signals r (Const (pos 0)) h.within in
      let is : delay_of g k (node g r) ≡ most = ap (delay_of g k) h.is ∙ cond-true (nat_eq k k) most 0 (eq-eqb k k refl) in
      omega (arith, m, is, history_least (greatest_delay g k g.signals) (is_fed_back g k g.signals));
  backs = λ r group i h.
      let k = stand g (definition g group i) in
      history_fed (greatest_delay g k g.signals) (is_fed_back g k g.signals)
      (has_back g k g.signals r (Const (pos 0)) h.within (ap (is_back_of g k) h.is ∙ eq-eqb k k refl));
  least = λ s l.
      let k = stand g s in
      elim (cause_of (greatest_delay g k g.signals) (is_fed_back g k g.signals) l) [
        | Delayed some e ↦
            let f = find_greatest g k g.signals some in
            let at = f.2 (Const (pos 0)) in
            let d = delay_is g k (node g f.0) (omega (arith, at, some)) in
            OfDelay f.0 d.0 d.1 (record { within = f.1; is = d.2 ∙ ap (Delay d.0 d.1) (at ∙ sym e) }) d.3
        | Fed fed e ↦
            let f = find_back g k g.signals fed in
            let b = back_is g k (node g f.0) (f.2 (Const (pos 0))) in
            OfBack f.0 b.0 b.1 (record { within = f.1; is = b.2 }) b.3 e
      ];
}
