-- Signals are numbered, one after another.
use Rattle.std.proofs.Common.{◌≡◌, inl, inr, ℕ, zero, suc, ◌+◌, ◌<◌, ◌≤◌, List, [], ◌∷◌, ◌++◌, length, get_or, refl, sym, ap, ◌∙◌, subst, arith, Bool, true}
use Rattle.std.proofs.Common.{false, if◌then◌else◌}
use Rattle.std.specs.Prelude.{None, Some, ◌↔◌, IsTrue}
use Rattle.std.proofs.lemmas.Bool.{cases_lt}
use Rattle.std.proofs.lemmas.List.{length_push, get_or_push, get_or_append_left}
use Rattle.fv_signal.specs.declared.rate.Rate.{Rate}
use Rattle.fv_signal.specs.declared.rate.Rate.TheVariants as rate
use Rattle.fv_signal.specs.headline.Value.{Graph}
use Rattle.fv_signal.specs.headline.Rates.{rate_at}
use Rattle.fv_components.specs.headline.Reach.{at}
use Rattle.fv_analysis.specs.headline.Stands.{node}
use Rattle.fv_split_plan.specs.headline.Separated.{IsComputed}
use Rattle.fv_split_plan.specs.Separated.{lane_at}
use Rattle.fv_split_lanes.specs.declared.lanes.Numbering.{Numbering}
use Rattle.fv_split_lanes.specs.inner.Homes.{bit_at}
use Rattle.fv_split_lanes.specs.inner.Numbered.{AddsLane, AddsNone, AddsSignal, NumberedUpTo, IsInnerBy, AreInner}

-- what stands at a place of a list that has one item more
pub data Pushed {A : Type 0} (xs : List A) (x d : A) (k : ℕ) : Type 0 where
  Old : k < length xs → get_or (xs ++ x ∷ []) k d ≡ get_or xs k d → Pushed xs x d k
  New : k ≡ length xs → get_or (xs ++ x ∷ []) k d ≡ x → Pushed xs x d k
  Past : length xs < k → get_or (xs ++ x ∷ []) k d ≡ d → Pushed xs x d k

pub pushed : {A : Type 0} (xs : List A) (x d : A) (k : ℕ) → Pushed xs x d k
pushed {A} xs x d k = elim (cases_lt k (length xs)) [
  | inl l ↦ Old l (get_or_append_left xs (x ∷ []) d k l)
  | inr l ↦ elim (cases_lt (length xs) k) [
    | inl m ↦ Past m (past (xs ++ x ∷ []) k (omega (arith, length_push xs x)))
    | inr m ↦ let e : k ≡ length xs = omega arith in New e (get_or_push xs x d k (sym e))
  ]
]
  where
    past : (ys : List A) (k : ℕ) → length ys ≤ k → get_or ys k d ≡ d
    past [] k l = refl
    past (y ∷ ys) zero l = absurd (omega arith)
    past (y ∷ ys) (suc k) l = past ys k (omega arith)

some_is : {a b : ℕ} → Some a ≡ Some b → a ≡ b
some_is {a} {b} e = cc

none_is_not : {a : ℕ} → None ≡ Some a → ⊥
none_is_not {a} e = cc

module _ (marks : List Bool) (numbers ranks : List ℕ) (n : ℕ) (old new : Numbering) (h : NumberedUpTo marks numbers ranks n old) where
  -- one signal more, with a lane
  pub lane_more : bit_at marks n ≡ true → AddsLane old n (at ranks (at numbers n)) new → NumberedUpTo marks numbers ranks (n + 1) new
  lane_more marked a = record {
    long = omega (arith, ap length a.lanes, length_push old.lanes.items (Some (length old.signals.items)), h.long);
    placed = omega (arith, ap length a.places, length_push old.places.items (at ranks (at numbers n)), h.placed);
    owned = omega (
      arith,
      ap length a.owners,
      length_push old.owners.items (at ranks (at numbers n)),
      ap length a.signals,
      length_push old.signals.items n,
      h.owned,
    );
    has = has;
    all = all;
    named = named;
    owners = owners;
    places = places;
  }
    where
      count : ℕ
      count = length old.signals.items

      counted : length new.signals.items ≡ count + 1
      counted = ap length a.signals ∙ length_push old.signals.items n

      signal_old : (l : ℕ) → l < count → at new.signals.items l ≡ at old.signals.items l
      signal_old l m = ap (λ xs. at xs l) a.signals ∙ get_or_append_left old.signals.items (n ∷ []) 0 l m

      signal_new : at new.signals.items count ≡ n
      signal_new = ap (λ xs. at xs count) a.signals ∙ get_or_push old.signals.items n 0 count refl

      lane_old : (s : ℕ) → s < n → lane_at new.lanes.items s ≡ lane_at old.lanes.items s
      lane_old s m = ap (λ xs. lane_at xs s) a.lanes ∙ get_or_append_left old.lanes.items (Some count ∷ []) None s (omega (arith, h.long))

      lane_new : lane_at new.lanes.items n ≡ Some count
      lane_new = ap (λ xs. lane_at xs n) a.lanes ∙ get_or_push old.lanes.items (Some count) None n h.long

      has : (s l : ℕ) → lane_at new.lanes.items s ≡ Some l → (bit_at marks s ≡ true) × (l < length new.signals.items) × (at new.signals.items l ≡ s)
      has s l e = elim (pushed old.lanes.items (Some count) None s) [
        | Old m f ↦
            let k = h.has s l (sym f ∙ sym (ap (λ xs. lane_at xs s) a.lanes) ∙ e) in
            (k.0, omega (arith, k.1, counted), signal_old l k.1 ∙ k.2)
        | New z f ↦
            let w : s ≡ n = z ∙ h.long in
            let v : count ≡ l = some_is (sym f ∙ sym (ap (λ xs. lane_at xs s) a.lanes) ∙ e) in
            (ap (bit_at marks) w ∙ marked, omega (arith, counted, v), ap (at new.signals.items) (sym v) ∙ signal_new ∙ sym w)
        | Past m f ↦ absurd (none_is_not (sym f ∙ sym (ap (λ xs. lane_at xs s) a.lanes) ∙ e))
      ]

      all : (s : ℕ) → s < n + 1 → bit_at marks s ≡ true → (l : ℕ) × (lane_at new.lanes.items s ≡ Some l)
      all s m y = elim (cases_lt s n) [
        | inl k ↦ let w = h.all s k y in (w.0, lane_old s k ∙ w.1)
        | inr k ↦ let z : s ≡ n = omega arith in (count, ap (lane_at new.lanes.items) z ∙ lane_new)
      ]

      named : (l : ℕ) → l < length new.signals.items → (at new.signals.items l < n + 1) × (lane_at new.lanes.items (at new.signals.items l) ≡ Some l)
      named l m = elim (cases_lt l count) [
        | inl k ↦
            let w = h.named l k in
            (omega (arith, signal_old l k, w.0), ap (lane_at new.lanes.items) (signal_old l k) ∙ lane_old (at old.signals.items l) w.0 ∙ w.1)
        | inr k ↦
            let z : l ≡ count = omega (arith, counted) in
            let v : at new.signals.items l ≡ n = ap (at new.signals.items) z ∙ signal_new in
            (omega (arith, v), ap (lane_at new.lanes.items) v ∙ lane_new ∙ ap Some (sym z))
      ]

      owners : (l : ℕ) → l < length new.signals.items → at new.owners.items l ≡ at ranks (at numbers (at new.signals.items l))
      owners l m = elim (cases_lt l count) [
        | inl k ↦
            ap (λ xs. at xs l) a.owners ∙ get_or_append_left old.owners.items (at ranks (at numbers n) ∷ []) 0 l (omega (arith, h.owned)) ∙ h.owners l k
            ∙ ap (λ s. at ranks (at numbers s)) (sym (signal_old l k))
        | inr k ↦
            let z : l ≡ count = omega (arith, counted) in
            ap (λ xs. at xs l) a.owners ∙ get_or_push old.owners.items (at ranks (at numbers n)) 0 l (h.owned ∙ sym z)
            ∙ ap (λ s. at ranks (at numbers s)) (sym (ap (at new.signals.items) z ∙ signal_new))
      ]

      places : (s : ℕ) → s < n + 1 → at new.places.items s ≡ (if bit_at marks s then at ranks (at numbers s) else at ranks (length marks))
      places s m = elim (cases_lt s n) [
        | inl k ↦ ap (λ xs. at xs s) a.places ∙ get_or_append_left old.places.items (at ranks (at numbers n) ∷ []) 0 s (omega (arith, h.placed)) ∙ h.places s k
        | inr k ↦
            let z : s ≡ n = omega arith in
            ap (λ xs. at xs s) a.places ∙ get_or_push old.places.items (at ranks (at numbers n)) 0 s (h.placed ∙ sym z)
            ∙ ap (λ q. at ranks (at numbers q)) (sym z)
            ∙ sym (ap (λ b. if b then at ranks (at numbers s) else at ranks (length marks)) (ap (bit_at marks) z ∙ marked))
      ]

  -- one signal more, without a lane
  pub none_more : bit_at marks n ≡ false → AddsNone old (at ranks (length marks)) new → NumberedUpTo marks numbers ranks (n + 1) new
  none_more unmarked a = record {
    long = omega (arith, ap length a.lanes, length_push old.lanes.items None, h.long);
    placed = omega (arith, ap length a.places, length_push old.places.items (at ranks (length marks)), h.placed);
    owned = ap length a.owners ∙ h.owned ∙ sym (ap length a.signals);
    has = has;
    all = all;
    named = named;
    owners =
        λ l m. ap (λ xs. at xs l) a.owners ∙ h.owners l (omega (arith, m, ap length a.signals)) ∙ ap (λ xs. at ranks (at numbers (at xs l))) (sym a.signals);
    places = places;
  }
    where
      lane_old : (s : ℕ) → s < n → lane_at new.lanes.items s ≡ lane_at old.lanes.items s
      lane_old s m = ap (λ xs. lane_at xs s) a.lanes ∙ get_or_append_left old.lanes.items (None ∷ []) None s (omega (arith, h.long))

      has : (s l : ℕ) → lane_at new.lanes.items s ≡ Some l → (bit_at marks s ≡ true) × (l < length new.signals.items) × (at new.signals.items l ≡ s)
      has s l e = elim (pushed old.lanes.items None None s) [
        | Old m f ↦
            let k = h.has s l (sym f ∙ sym (ap (λ xs. lane_at xs s) a.lanes) ∙ e) in
            (k.0, omega (arith, k.1, ap length a.signals), ap (λ xs. at xs l) a.signals ∙ k.2)
        | New z f ↦ absurd (none_is_not (sym f ∙ sym (ap (λ xs. lane_at xs s) a.lanes) ∙ e))
        | Past m f ↦ absurd (none_is_not (sym f ∙ sym (ap (λ xs. lane_at xs s) a.lanes) ∙ e))
      ]

      all : (s : ℕ) → s < n + 1 → bit_at marks s ≡ true → (l : ℕ) × (lane_at new.lanes.items s ≡ Some l)
      all s m y = elim (cases_lt s n) [
        | inl k ↦ let w = h.all s k y in (w.0, lane_old s k ∙ w.1)
        | inr k ↦ absurd (let z : s ≡ n = omega arith in let w = sym (ap (bit_at marks) z ∙ unmarked) ∙ y in cc)
      ]

      named : (l : ℕ) → l < length new.signals.items → (at new.signals.items l < n + 1) × (lane_at new.lanes.items (at new.signals.items l) ≡ Some l)
      named l m =
          let w = h.named l (omega (arith, m, ap length a.signals)) in
          let e : at new.signals.items l ≡ at old.signals.items l = ap (λ xs. at xs l) a.signals in
          (omega (arith, e, w.0), ap (lane_at new.lanes.items) e ∙ lane_old (at old.signals.items l) w.0 ∙ w.1)

      places : (s : ℕ) → s < n + 1 → at new.places.items s ≡ (if bit_at marks s then at ranks (at numbers s) else at ranks (length marks))
      places s m = elim (cases_lt s n) [
        | inl k ↦ ap (λ xs. at xs s) a.places ∙ get_or_append_left old.places.items (at ranks (length marks) ∷ []) 0 s (omega (arith, h.placed)) ∙ h.places s k
        | inr k ↦
            let z : s ≡ n = omega arith in
            ap (λ xs. at xs s) a.places ∙ get_or_push old.places.items (at ranks (length marks)) 0 s (h.placed ∙ sym z)
            ∙ sym (ap (λ b. if b then at ranks (at numbers s) else at ranks (length marks)) (ap (bit_at marks) z ∙ unmarked))
      ]

pub signal_more : (marks : List Bool) (numbers ranks : List ℕ) (n : ℕ) (old new : Numbering) (b : Bool) (owner none : ℕ) →
    NumberedUpTo marks numbers ranks n old →
    b ≡ bit_at marks n → owner ≡ at ranks (at numbers n) → none ≡ at ranks (length marks) → AddsSignal old n b owner none new →
    NumberedUpTo marks numbers ranks (n + 1) new
signal_more marks numbers ranks n old new true owner none h eb eo en a =
    lane_more marks numbers ranks n old new h (sym eb) (subst (λ x. AddsLane old n x new) eo a)
signal_more marks numbers ranks n old new false owner none h eb eo en a =
    none_more marks numbers ranks n old new h (sym eb) (subst (λ x. AddsNone old x new) en a)

pub none_numbered : (marks : List Bool) (numbers ranks : List ℕ) (p : Numbering) → p.lanes.items ≡ [] → p.signals.items ≡ [] → p.owners.items ≡ [] →
    p.places.items ≡ [] →
    NumberedUpTo marks numbers ranks 0 p
none_numbered marks numbers ranks p el es eo ep = record {
  long = ap length el;
  placed = ap length ep;
  owned = ap length eo ∙ sym (ap length es);
  has = λ s l e. absurd (none_is_not (sym (ap (λ xs. lane_at xs s) el) ∙ e));
  all = λ s l y. absurd (omega arith);
  named = λ l m. absurd (let z = ap length es in omega arith);
  owners = λ l m. absurd (let z = ap length es in omega arith);
  places = λ s l. absurd (omega arith);
}

-- ---- inner signals

pub inner_none : (g : Graph) (rates : List Rate) (marks : List Bool) → AreInner g rates marks 0 []
inner_none g rates marks = record { long = refl; each = λ s. (λ e. absurd (let z : false ≡ true = e in cc), λ h. let l = h.0 in absurd (omega arith)) }

pub inner_more : (g : Graph) (rates : List Rate) (marks inner new : List Bool) (n : ℕ) (b : Bool) → AreInner g rates marks n inner → new ≡ inner ++ b ∷ [] →
    (IsTrue b ↔ (IsComputed (node g n) × (rate_at rates n ≡ rate.Sample) × (bit_at marks n ≡ false))) → AreInner g rates marks (n + 1) new
inner_more g rates marks inner new n b h e is = subst (AreInner g rates marks (n + 1)) (sym e) record {
  long = omega (arith, length_push inner b, h.long);
  each = λ s. (to s, of s);
}
  where
    to : (s : ℕ) → bit_at (inner ++ b ∷ []) s ≡ true → (s < n + 1) × IsInnerBy g rates marks s
    to s y = elim (pushed inner b false s) [
      | Old l f ↦ let k = (h.each s).0 (sym f ∙ y) in (omega (arith, k.0), k.1)
      | New z f ↦
          let w : n ≡ s = sym (z ∙ h.long) in
          let k = is.0 (sym f ∙ y) in
          (omega (arith, w), subst (IsInnerBy g rates marks) w (record { computed = k.0; sampled = k.1; alone = k.2 }))
      | Past l f ↦ absurd (let w = sym f ∙ y in cc)
    ]

    of : (s : ℕ) → (s < n + 1) × IsInnerBy g rates marks s → bit_at (inner ++ b ∷ []) s ≡ true
    of s k = elim (cases_lt s n) [
      | inl l ↦ get_or_append_left inner (b ∷ []) false s (omega (arith, h.long)) ∙ (h.each s).1 (l, k.1)
      | inr l ↦
          let z : s ≡ n = (let w = k.0 in omega arith) in
          let i = subst (IsInnerBy g rates marks) z k.1 in
          get_or_push inner b false s (h.long ∙ sym z) ∙ is.1 (i.computed, i.sampled, i.alone)
    ]
