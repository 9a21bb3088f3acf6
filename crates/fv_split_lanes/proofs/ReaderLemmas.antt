-- Readers are met.
use Rattle.std.proofs.Common.{◌≡◌, ◌≢◌, ◌⊎◌, inl, inr, ℕ, zero, suc, ◌<◌, List, [], ◌∷◌, length, get_or, set, refl, sym, ap, ◌∙◌, subst, arith}
use Rattle.std.specs.Prelude.{nat_eq}
use Rattle.std.proofs.lemmas.List.{get_or-set_same, get_or-set_other, length-set, get_or_default}
use Rattle.std.proofs.lemmas.Bool.{cases_eq, cond-true, cond-false, eq-eqb, ne_eqb}
use Rattle.fv_components.specs.headline.Reach.{Links, at, Leads}
use Rattle.fv_components.specs.Reach.{AreLinks}
use Rattle.fv_split_lanes.specs.declared.reader.Reader.{Reader}
use Rattle.fv_split_lanes.specs.declared.reader.Reader.TheVariants.{Nobody, One, Many}
use Rattle.fv_split_lanes.specs.inner.Readers.{reader_at, IsReader, met_by, with_row, ReadsBelow, AreReaders}

-- the same readers, said otherwise
pub reader_same : (R S : ℕ → Type 0) (k : Reader) → ((p : ℕ) → R p → S p) → ((p : ℕ) → S p → R p) → IsReader R k → IsReader S k
reader_same R S Nobody f g h = λ p s. h p (g p s)
reader_same R S (One q) f g h = (f q h.0, λ p s. h.1 p (g p s))
reader_same R S Many f g h = (h.0, h.1, h.2, f h.0 h.3, f h.1 h.4)

-- one reader more
pub reader_met : (R : ℕ → Type 0) (k : Reader) (r : ℕ) → IsReader R k → IsReader (λ p. R p ⊎ (p ≡ r)) (met_by k r)
reader_met R Nobody r h = (inr refl, λ p s. elim s [ inl x ↦ absurd (h p x) | inr e ↦ e ])
reader_met R (One q) r h = elim (cases_eq q r) [
  | inl e ↦ subst (IsReader (λ p. R p ⊎ (p ≡ r))) (sym (cond-true (nat_eq q r) (One q) Many (eq-eqb q r e)))
      (inl h.0, λ p s. elim s [ inl x ↦ h.1 p x | inr z ↦ z ∙ sym e ])
  | inr e ↦ subst (IsReader (λ p. R p ⊎ (p ≡ r))) (sym (cond-false (nat_eq q r) (One q) Many (ne_eqb q r e))) (q, r, e, inl h.0, inr refl)
]
reader_met R Many r h = (h.0, h.1, h.2, inl h.3, inl h.4)

-- a row names the signal
pub record Named (row : List ℕ) (x : ℕ) : Type 0 where
  pub place : ℕ
  pub within : place < length row
  pub is : at row place ≡ x

length_row : (readers : List Reader) (row : List ℕ) (r : ℕ) → length (with_row readers row r) ≡ length readers
length_row readers [] r = refl
length_row readers (s ∷ ss) r = length_row (set readers s (met_by (reader_at readers s) r)) ss r ∙ length-set readers s (met_by (reader_at readers s) r)

pub reader_row : (R : ℕ → Type 0) (readers : List Reader) (row : List ℕ) (r x : ℕ) → ((i : ℕ) → i < length row → at row i < length readers) →
    IsReader R (reader_at readers x) →
    IsReader (λ p. R p ⊎ ((p ≡ r) × Named row x)) (reader_at (with_row readers row r) x)
reader_row R readers [] r x l h = reader_same R (λ p. R p ⊎ ((p ≡ r)
    × Named [] x)) (reader_at readers x) (λ p y. inl y) (λ p y. elim y [ inl z ↦ z | inr z ↦ absurd (let w = z.1.within in omega arith) ]) h
reader_row R readers (s ∷ ss) r x l h = elim (cases_eq x s) [
  | inl e ↦
      let k : reader_at (set readers s (met_by (reader_at readers s) r)) x ≡ met_by (reader_at readers x) r =
      ap (reader_at (set readers s (met_by (reader_at readers s) r))) e ∙ get_or-set_same readers s (met_by (reader_at readers s) r) Nobody (l 0 (omega arith))
      ∙ ap (λ y. met_by (reader_at readers y) r) (sym e) in
      reader_same (λ p. (R p ⊎ (p ≡ r)) ⊎ ((p ≡ r) × Named ss x)) (λ p. R p ⊎ ((p ≡ r) × Named (s ∷ ss) x)) (reader_at (with_row readers (s ∷ ss) r) x)
      (λ p y. elim y [
        | inl z ↦ elim z [ inl w ↦ inl w | inr w ↦ inr (w, record { place = 0; within = omega arith; is = sym e }) ]
        | inr z ↦ inr (z.0, later z.1)
      ])
      (λ p y. elim y [ inl z ↦ inl (inl z) | inr z ↦ inl (inr z.0) ])
      (reader_row (λ p. R p ⊎ (p ≡ r)) (set readers s (met_by (reader_at readers s) r)) ss r x rest (subst (IsReader (λ p. R p ⊎ (p ≡ r))) (sym k) (reader_met R
      (reader_at readers x) r h)))
  | inr e ↦
      let k : reader_at (set readers s (met_by (reader_at readers s) r)) x ≡ reader_at readers x =
      get_or-set_other readers s x (met_by (reader_at readers s) r) Nobody e in
      reader_same (λ p. R p ⊎ ((p ≡ r) × Named ss x)) (λ p. R p ⊎ ((p ≡ r) × Named (s ∷ ss) x)) (reader_at (with_row readers (s ∷ ss) r) x)
      (λ p y. elim y [ inl z ↦ inl z | inr z ↦ inr (z.0, later z.1) ])
      (λ p y. elim y [ inl z ↦ inl z | inr z ↦ inr (z.0, behind e z.1) ])
      (reader_row R (set readers s (met_by (reader_at readers s) r)) ss r x rest (subst (IsReader R) (sym k) h))
]
  where
    rest : (i : ℕ) → i < length ss → at ss i < length (set readers s (met_by (reader_at readers s) r))
    rest i m = let z : at ss i < length readers = l (suc i) (omega arith) in omega (arith, length-set readers s (met_by (reader_at readers s) r), z)

    later : Named ss x → Named (s ∷ ss) x
    later a = record { place = suc a.place; within = (let w = a.within in omega arith); is = a.is }

    behind : x ≢ s → Named (s ∷ ss) x → Named ss x
    behind n a = go a.place a.within a.is
      where
        go : (i : ℕ) → i < length (s ∷ ss) → at (s ∷ ss) i ≡ x → Named ss x
        go zero m e = absurd (n (sym e))
        go (suc i) m e = record { place = i; within = omega arith; is = e }

-- nobody reads yet
pub no_readers : (reads : Links) (n : ℕ) (readers : List Reader) → length readers ≡ n → ((s : ℕ) → reader_at readers s ≡ Nobody) → AreReaders reads n 0 readers
no_readers reads n readers e h = record {
  long = e;
  each = λ s l. subst (IsReader (ReadsBelow reads 0 s)) (sym (h s)) (λ p y. absurd (let w =
      y.below in omega arith));
}

-- one signal more that reads
pub more_readers : (reads : Links) (n r : ℕ) (readers new : List Reader) (row : List ℕ) → AreLinks reads n → r < n → row ≡ reads r →
    new ≡ with_row readers row r → AreReaders reads n r readers → AreReaders reads n (suc r) new
more_readers reads n r readers new row links l er en a = record {
  long = ap length en ∙ length_row readers row r ∙ a.long;
  each = λ s m. subst (λ rs. IsReader (ReadsBelow reads (suc r) s) (reader_at rs s)) (sym en)
      (reader_same (λ p. ReadsBelow reads r s p ⊎ ((p ≡ r) × Named row s)) (ReadsBelow reads (suc r) s) (reader_at (with_row readers row r) s) (to s) (of s)
      (reader_row (ReadsBelow reads r s) readers row r s inside (a.each s m)));
}
  where
    inside : (i : ℕ) → i < length row → at row i < length readers
    inside i m = omega (arith, a.long, links r (at row i) l (record { place = i; within = subst (λ xs. i < length xs) er m; is = ap (λ xs. at xs i) (sym er) }))

    to : (s p : ℕ) → ReadsBelow reads r s p ⊎ ((p ≡ r) × Named row s) → ReadsBelow reads (suc r) s p
    to s p (inl y) = record { below = (let w = y.below in omega arith); leads = y.leads }
    to s p (inr y) = record {
      below = (let w = y.0 in omega arith);
      leads = subst (λ q. Leads reads q s) (sym y.0) (record {
        place = y.1.place;
        within =
            subst (λ xs. y.1.place < length xs) er y.1.within;
        is = ap (λ xs. at xs y.1.place) (sym er) ∙ y.1.is;
      });
    }

    of : (s p : ℕ) → ReadsBelow reads (suc r) s p → ReadsBelow reads r s p ⊎ ((p ≡ r) × Named row s)
    of s p y = elim (cases_eq p r) [
      | inl e ↦ let k = subst (λ q. Leads reads q s) e y.leads in inr (
        e,
        record {
          place = k.place;
          within =
              subst (λ xs. k.place < length xs) (sym er) k.within;
          is = ap (λ xs. at xs k.place) er ∙ k.is;
        },
      )
      | inr e ↦ inl (record { below = (let w = y.below in omega arith); leads = y.leads })
    ]

-- where it is not many, no two read it
pub one_reader : (reads : Links) (n : ℕ) (readers : List Reader) (s p q : ℕ) → AreReaders reads n n readers → ((a b : ℕ) → Leads reads a b → a < n) → s < n →
    reader_at readers s ≢ Many → Leads reads p s → Leads reads q s → p ≡ q
one_reader reads n readers s p q a from l few lp lq = go (reader_at readers s) refl (a.each s l)
  where
    go : (k : Reader) → reader_at readers s ≡ k → IsReader (ReadsBelow reads n s) (reader_at readers s) → p ≡ q
    go Nobody e h = absurd (subst (IsReader (ReadsBelow reads n s)) e h p (record { below = from p s lp; leads = lp }))
    go (One r) e h = let k = subst (IsReader (ReadsBelow reads n s)) e h in k.1 p (record { below = from p s lp; leads = lp }) ∙ sym (k.1 q (record {
      below =
          from q s lq;
      leads = lq;
    }))
    go Many e h = absurd (few e)

pub row_inside : (reads : Links) (n r : ℕ) (row : List ℕ) → AreLinks reads n → r < n → row ≡ reads r → (k d : ℕ) → k < length row → get_or row k d < n
row_inside reads n r row links l e k d m =
    let z : get_or row k d ≡ at (reads r) k = get_or_default row k d 0 m ∙ ap (λ xs. at xs k) e in
    subst (λ x. x < n) (sym z) (links r (at (reads r) k) l (record { place = k; within = subst (λ xs. k < length xs) e m; is = refl }))
