-- Signals get their homes, from the last to the first.
use Rattle.std.proofs.Common.{◌≡◌, ◌≢◌, ◌⊎◌, inl, inr, ℕ, zero, suc, ◌<◌, ◌≤◌, List, [], ◌∷◌, length, get_or, set, refl, sym, ap, subst, ◌∙◌, arith, Bool, true}
use Rattle.std.proofs.Common.{false, if◌then◌else◌}
use Rattle.std.proofs.lemmas.List.{length-set, get_or-set_same, get_or-set_other, get_or_default}
use Rattle.std.proofs.lemmas.Bool.{cases_eq}
use Rattle.fv_components.specs.headline.Reach.{Links, at, Leads, Reaches}
use Rattle.fv_components.proofs.lemmas.Walks.{reaches_self, reaches_trans, reaches_step}
use Rattle.fv_split_lanes.specs.inner.Homes.{AreLower, AreSingle, AreLaneless, given, AreHomesFrom}

abbrev one_given : (inner : ℕ → Bool) → List ℕ → ℕ → ℕ → List ℕ
one_given inner homes r home = if inner r then set homes r home else homes

length_one : (inner : ℕ → Bool) (homes : List ℕ) (r home : ℕ) → length (one_given inner homes r home) ≡ length homes
length_one inner homes r home = elim (inner r) as (λ b. length
    (if b then set homes r home else homes) ≡ length homes) [ true ↦ length-set homes r home | false ↦ refl ]

pub length_given : (inner : ℕ → Bool) (homes rs : List ℕ) (home : ℕ) → length (given inner homes rs home) ≡ length homes
length_given inner homes [] home = refl
length_given inner homes (r ∷ rs) home = length_given inner (one_given inner homes r home) rs home ∙ length_one inner homes r home

-- a home that is there stays the same under more of it
one_keeps : (inner : ℕ → Bool) (homes : List ℕ) (r home x : ℕ) → r < length homes → at homes x ≡ home → at (one_given inner homes r home) x ≡ home
one_keeps inner homes r home x l e = elim (inner r) as (λ b. at (if b then set homes r home else homes) x ≡ home) [
  | true ↦ elim (cases_eq x r) [
    | inl q ↦ ap (at (set homes r home)) q ∙ get_or-set_same homes r home 0 l
    | inr q ↦ get_or-set_other homes r x home 0 q ∙ e
  ]
  | false ↦ e
]

-- what a signal's home comes to
pub data Fate (inner : ℕ → Bool) (homes rs : List ℕ) (home x : ℕ) : Type 0 where
  Now : (i : ℕ) → i < length rs → at rs i ≡ x → inner x ≡ true → at (given inner homes rs home) x ≡ home → Fate inner homes rs home x
  Kept : ((i : ℕ) → i < length rs → at rs i ≡ x → inner x ≡ false) → at (given inner homes rs home) x ≡ at homes x → Fate inner homes rs home x

given_keeps : (inner : ℕ → Bool) (homes rs : List ℕ) (home x : ℕ) → ((i : ℕ) → i < length rs → at rs i < length homes) → at homes x ≡ home →
    at (given inner homes rs home) x ≡ home
given_keeps inner homes [] home x l e = e
given_keeps inner homes (r ∷ rs) home x l e =
    given_keeps inner (one_given inner homes r home) rs home x (λ i m. let z : at rs i < length homes =
    l (suc i) (omega arith) in omega (arith, length_one inner homes r home, z)) (one_keeps inner homes r home x (l 0 (omega arith)) e)

pub fate : (inner : ℕ → Bool) (homes rs : List ℕ) (home x : ℕ) → ((i : ℕ) → i < length rs → at rs i < length homes) → Fate inner homes rs home x
fate inner homes [] home x l = Kept (λ i m. absurd (omega arith)) refl
fate inner homes (r ∷ rs) home x l = elim (fate inner (one_given inner homes r home) rs home x rest) [
  | Now i m e y h ↦ Now (suc i) (omega arith) e y h
  | Kept k h ↦ elim (cases_eq r x) [
    | inl e ↦ first (inner x) refl e k h
    | inr e ↦ Kept (λ i. other i e k) (h ∙ beside e)
  ]
]
  where
    rest : (i : ℕ) → i < length rs → at rs i < length (one_given inner homes r home)
    rest i m = let z : at rs i < length homes = l (suc i) (omega arith) in omega (arith, length_one inner homes r home, z)

    beside : r ≢ x → at (one_given inner homes r home) x ≡ at homes x
    beside n = elim (inner r) as (λ b. at (if b then set homes r home else homes) x ≡ at homes x) [
      | true ↦ get_or-set_other homes r x home 0 (λ q. n
          (sym q))
      | false ↦ refl
    ]

    other : (i : ℕ) → r ≢ x → ((i : ℕ) → i < length rs → at rs i ≡ x → inner x ≡ false) → i < length (r ∷ rs) → at (r ∷ rs) i ≡ x → inner x ≡ false
    other zero n k m e = absurd (n e)
    other (suc i) n k m e = k i (omega arith) e

    first : (b : Bool) → inner x ≡ b → r ≡ x → ((i : ℕ) → i < length rs → at rs i ≡ x → inner x ≡ false) →
        at (given inner homes (r ∷ rs) home) x ≡ at (one_given inner homes r home) x → Fate inner homes (r ∷ rs) home x
    first true y e k h = Now 0 (omega arith) e y (h ∙ (cond-at (ap inner e ∙ y) ∙ (ap (at (set homes r home)) (sym e)
        ∙ get_or-set_same homes r home 0 (l 0 (omega arith)))))
      where
        cond-at : inner r ≡ true → at (one_given inner homes r home) x ≡ at (set homes r home) x
        cond-at q = ap (λ b. at (if b then set homes r home else homes) x) q
    first false y e k h = Kept (λ i m q. y) (h ∙ ap (λ b. at (if b then set homes r home else homes) x) (ap inner e ∙ y))

module _ (reads : Links) (inner : ℕ → Bool) (owners : List ℕ) (loops : ℕ) (lower : AreLower reads) (single : AreSingle reads inner)
    (laneless : AreLaneless inner owners loops) where
  -- at the beginning
  pub begins : (homes : List ℕ) → homes ≡ owners → AreHomesFrom reads inner owners loops (length owners) homes
  begins homes e = record {
    long = ap length e;
    lanes = λ s l o. ap (λ xs. at xs s) e;
    inners = λ s l h. inl (subst (λ xs. at xs s < loops) e h);
    closed = λ s r l m h k i. absurd (omega arith);
    reached = λ s l h. (s, l, ap (λ xs. at xs s) (sym e), reaches_self reads s);
  }

  module _ (s : ℕ) (homes : List ℕ) (l : s < length owners) (a : AreHomesFrom reads inner owners loops (suc s) homes) where
    -- a signal without a home gives none
    pub skips : loops ≤ at homes s → AreHomesFrom reads inner owners loops s homes
    skips none = record {
      long = a.long;
      lanes = a.lanes;
      inners = a.inners;
      closed = λ x r f m h k i. elim (cases_eq x s) [
        | inl e ↦ absurd (let z = ap (at homes) e in omega arith)
        | inr e ↦ a.closed x r (omega arith) m h k i
      ];
      reached = a.reached;
    }

    -- a signal with a home gives it
    module _ (some : at homes s < loops) where
      abbrev new : List ℕ
      new = given inner homes (reads s) (at homes s)

      fates : (x : ℕ) → Fate inner homes (reads s) (at homes s) x
      fates x = fate inner homes (reads s) (at homes s) x (λ i m. let z : at (reads s) i < s = lower s (at (reads s) i) (record {
        place = i;
        within = m;
        is =
            refl;
      }) in omega (arith, a.long))

      -- what is read here
      led : (i x : ℕ) → i < length (reads s) → at (reads s) i ≡ x → Leads reads s x
      led i x m e = record { place = i; within = m; is = e }

      -- what stands at s or after it stays
      stays : (x : ℕ) → s ≤ x → at new x ≡ at homes x
      stays x g = elim (fates x) [
        | Now i m e y h ↦ absurd (let z : x < s = lower s x (led i x m e) in omega arith)
        | Kept k h ↦ h
      ]

      pub gives : AreHomesFrom reads inner owners loops s new
      gives = record { long = length_given inner homes (reads s) (at homes s) ∙ a.long; lanes = lanes; inners = inners; closed = closed; reached = reached }
        where
          lanes : (x : ℕ) → x < length owners → at owners x < loops → at new x ≡ at owners x
          lanes x m o = elim (fates x) [
            | Now i n e y h ↦ absurd (let z = laneless x y in omega arith)
            | Kept k h ↦ h ∙ a.lanes x m o
          ]

          inners : (x : ℕ) → x < length owners → at new x < loops → (at owners x < loops) ⊎ (inner x ≡ true)
          inners x m o = elim (fates x) [
            | Now i n e y h ↦ inr y
            | Kept k h ↦ a.inners x m (subst (λ q. q < loops) h o)
          ]

          closed : (x r : ℕ) → s ≤ x → x < length owners → at new x < loops → Leads reads x r → inner r ≡ true → at new r ≡ at new x
          closed x r g m o k y = elim (cases_eq x s) [
            | inl e ↦ here e (subst (λ q. Leads reads q r) e k)
            | inr e ↦ elim (fates r) [
              | Now i n f y h ↦ absurd (e (single x s r y k (led i r n f)))
              | Kept p h ↦ h ∙ a.closed x r (omega arith) m (subst (λ q. q < loops) (stays x g) o) k y ∙ sym (stays x g)
            ]
          ]
            where
              here : x ≡ s → Leads reads s r → at new r ≡ at new x
              here e k = elim (fates r) [
                | Now i n f y h ↦ h ∙ sym (stays x g ∙ ap (at homes) e)
                | Kept p h ↦ absurd (let z = p k.place k.within k.is in cc)
              ]

          reached : (x : ℕ) → x < length owners → at new x < loops → (q : ℕ) × (q < length owners) × (at owners q ≡ at new x) × Reaches reads q x
          reached x m o = elim (fates x) [
            | Now i n e y h ↦ let p = a.reached s l some in (p.0, p.1, p.2 ∙ sym h, reaches_trans p.3 (reaches_step (led i x n e)))
            | Kept k h ↦ let p = a.reached x m (subst (λ q. q < loops) h o) in (p.0, p.1, p.2 ∙ sym h, p.3)
          ]

-- what a row reads is lower
pub row_lower : (reads : Links) (s : ℕ) (row : List ℕ) → AreLower reads → row ≡ reads s → (k d : ℕ) → k < length row → get_or row k d < s
row_lower reads s row lower e k d l =
    let z : get_or row k d ≡ at (reads s) k = get_or_default row k d 0 l ∙ ap (λ xs. at xs k) e in
    subst (λ x. x < s) (sym z) (lower s (at (reads s) k) (record { place = k; within = subst (λ xs. k < length xs) e l; is = refl }))
