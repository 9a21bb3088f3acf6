-- Signals are marked, and those that are marked are the separated ones.
use Rattle.std.proofs.Common.{◌≡◌, inl, inr, ℕ, ◌+◌, ◌<◌, List, length, set, refl, sym, ap, ◌∙◌, subst, arith, Bool, true, false}
use Rattle.std.specs.Prelude.{◌↔◌, ◌≢◌, IsTrue}
use Rattle.std.proofs.lemmas.List.{get_or-set_same, get_or-set_other, length-set}
use Rattle.std.proofs.lemmas.Bool.{cases_eq}
use Rattle.fv_signal.specs.declared.signal.Signal.{Signal}
use Rattle.fv_signal.specs.declared.signal.Signal.TheVariants as signal
use Rattle.fv_signal.specs.declared.rate.Rate.{Rate}
use Rattle.fv_signal.specs.headline.Rates.{rates}
use Rattle.fv_signal.specs.headline.Value.{Graph, IsGraph}
use Rattle.fv_analysis.specs.headline.Stands.{node, stands_of}
use Rattle.fv_split_plan.specs.headline.Separated.{ReadsSignal, IsSeparated, AsOutput, AsDelayed, AsDefinition, AsShared, AsWritten}
use Rattle.fv_split_plan.specs.Separated.{IsWritten}
use Rattle.fv_split_lanes.specs.declared.reader.Reader.{Reader}
use Rattle.fv_split_lanes.specs.declared.reader.Reader.TheVariants.{Nobody, One, Many}
use Rattle.fv_split_lanes.specs.inner.Rows.{reads_of}
use Rattle.fv_split_lanes.specs.inner.Homes.{bit_at}
use Rattle.fv_split_lanes.specs.inner.Readers.{reader_at, IsReader, ReadsBelow, AreReaders}
use Rattle.fv_split_lanes.specs.inner.Marked.{Marks, ByOne, Named, DelaysTo, Delayed, Defined, Shared, Written, AreMarked}
use Rattle.fv_split_lanes.proofs.lemmas.RowLemmas.{leads_read, read_lower}

pub marks_set : (old new : List Bool) (x : ℕ) → x < length old → new ≡ set old x true → Marks old new (λ s. x ≡ s)
marks_set old new x l e = subst (λ n. Marks old n (λ s. x ≡ s)) (sym e) record {
  long = length-set old x true;
  keeps = λ s h. elim (cases_eq s x) [
    | inl z ↦ ap (bit_at (set old x true)) z ∙ get_or-set_same old x true false l
    | inr z ↦ get_or-set_other old x s true false z ∙ h
  ];
  adds = λ s z. ap (bit_at (set old x true)) (sym z) ∙ get_or-set_same old x true false l;
  only = λ s h. elim (cases_eq s x) [ inl z ↦ inr (sym z) | inr z ↦ inl (sym (get_or-set_other old x s true false z) ∙ h) ];
}

pub marks_none : (old : List Bool) (P : ℕ → Type 0) → ((s : ℕ) → P s → ⊥) → Marks old old P
marks_none old P n = record { long = refl; keeps = λ s h. h; adds = λ s p. absurd (n s p); only = λ s h. inl h }

pub marks_same : (old new : List Bool) (P Q : ℕ → Type 0) → ((s : ℕ) → P s → Q s) → ((s : ℕ) → Q s → P s) → Marks old new P → Marks old new Q
marks_same old new P Q f g m = record {
  long = m.long;
  keeps = m.keeps;
  adds = λ s q. m.adds s (g s q);
  only = λ s h. elim (m.only s h) [ inl y ↦ inl y | inr y ↦ inr (f s y) ];
}

pub marks_begin : (old : List Bool) (R : ℕ → ℕ → Type 0) → Marks old old (ByOne R 0)
marks_begin old R = marks_none old (ByOne R 0) (λ s h. let b = h.below in omega arith)

-- one place more
pub marks_more : (R : ℕ → ℕ → Type 0) (k : ℕ) (old mid new : List Bool) → Marks old mid (ByOne R k) → Marks mid new (R k) → Marks old new (ByOne R (k + 1))
marks_more R k old mid new a b = record {
  long = b.long ∙ a.long;
  keeps = λ s y. b.keeps s (a.keeps s y);
  adds = λ s h. elim (cases_eq h.place k) [
    | inl e ↦ b.adds s (subst (λ p. R p s) e h.is)
    | inr e ↦ b.keeps s (a.adds s (record { place = h.place; below = (let w = h.below in omega arith); is = h.is }))
  ];
  only = λ s y. elim (b.only s y) [
    | inl z ↦ elim (a.only s z) [ inl w ↦ inl w | inr w ↦ inr (record { place = w.place; below = (let v = w.below in omega arith); is = w.is }) ]
    | inr z ↦ inr (record { place = k; below = omega arith; is = z })
  ];
}

-- a signal that is marked where a test passed
pub marks_where : (old new : List Bool) (k : ℕ) (here : Bool) (P : Type 0) → IsTrue here ↔ P → Marks old new (λ s. (k ≡ s) × IsTrue here) →
    Marks old new (λ s. (k ≡ s) × P)
marks_where old new k here P is m = marks_same old new (λ s. (k ≡ s) × IsTrue here) (λ s. (k ≡ s) × P) (λ s h. (h.0, is.0 h.1)) (λ s h. (h.0, is.1 h.1)) m

-- ---- all passes

module _ (g : Graph) (graph : IsGraph g) (readers : List Reader) (are : AreReaders (reads_of g) (length g.signals) (length g.signals) readers) (s : ℕ) where
  delayed_separated : (n : Signal) (r : ℕ) → r < length g.signals → node g r ≡ n → DelaysTo (stands_of g) n s → IsSeparated g s
  delayed_separated (signal.Input k) r l e d = absurd d
  delayed_separated (signal.Const k) r l e d = absurd d
  delayed_separated (signal.Control k) r l e d = absurd d
  delayed_separated (signal.Point op args) r l e d = absurd d
  delayed_separated (signal.Delay x d max) r l e y = AsDelayed r x d max (record { within = l; is = e }) y.0 y.1
  delayed_separated (signal.Back group i) r l e d = absurd d
  delayed_separated (signal.Member group i) r l e d = absurd d
  delayed_separated (signal.Read table i) r l e d = absurd d
  delayed_separated (signal.Write table w x i) r l e d = absurd d

  written_separated : (n : Signal) (r : ℕ) → r < length g.signals → node g r ≡ n → IsWritten n → r ≡ s → IsSeparated g s
  written_separated (signal.Input k) r l e d z = absurd d
  written_separated (signal.Const k) r l e d z = absurd d
  written_separated (signal.Control k) r l e d z = absurd d
  written_separated (signal.Point op args) r l e d z = absurd d
  written_separated (signal.Delay x d max) r l e y z = absurd y
  written_separated (signal.Back group i) r l e d z = absurd d
  written_separated (signal.Member group i) r l e d z = absurd d
  written_separated (signal.Read table i) r l e d z = absurd d
  written_separated (signal.Write table w x i) r l e d z = subst (IsSeparated g) z (AsWritten table w x i (record { within = l; is = e }))

  pub as_output : ByOne (Named (stands_of g) g.outputs) (length g.outputs) s → IsSeparated g s
  as_output h = AsOutput h.place h.below h.is

  pub as_delayed : ByOne (Delayed g (stands_of g)) (length g.signals) s → IsSeparated g s
  as_delayed h = delayed_separated (node g h.place) h.place h.below refl h.is

  pub as_definition : ByOne (Defined g (stands_of g)) (length g.groups) s → IsSeparated g s
  as_definition h = AsDefinition h.place h.is.place h.below h.is.below h.is.is

  pub as_shared : ByOne (Shared g (rates g.signals) readers) (length g.signals) s → IsSeparated g s
  as_shared h =
      let e = h.is.0 in
      let k = subst (IsReader (ReadsBelow (reads_of g) (length g.signals) h.place)) h.is.1.2 (are.each h.place h.below) in
      subst (IsSeparated g) e (AsShared k.0 k.1 h.is.1.0 h.is.1.1 k.2 ((leads_read g k.0 h.place).0 k.3.leads) ((leads_read g k.1 h.place).0 k.4.leads))

  pub as_written : ByOne (Written g) (length g.signals) s → IsSeparated g s
  as_written h = written_separated (node g h.place) h.place h.below refl h.is.1 h.is.0

  many : (q r : ℕ) → q ≢ r → s < length g.signals → ReadsSignal g q s → ReadsSignal g r s → reader_at readers s ≡ Many
  many q r n below a b = go (reader_at readers s) refl
    where
      leads : (p : ℕ) → ReadsSignal g p s → ReadsBelow (reads_of g) (length g.signals) s p
      leads p y = record { below = y.within; leads = (leads_read g p s).1 y }

      go : (k : Reader) → reader_at readers s ≡ k → reader_at readers s ≡ Many
      go Nobody e = absurd (subst (IsReader (ReadsBelow (reads_of g) (length g.signals) s)) e (are.each s below) q (leads q a))
      go (One p) e =
          let h = subst (IsReader (ReadsBelow (reads_of g) (length g.signals) s)) e (are.each s below) in
          absurd (n (h.1 q (leads q a) ∙ sym (h.1 r (leads r b))))
      go Many e = e

  -- why a separated signal was marked
  pub data Why : Type 0 where
    ByOutput : ByOne (Named (stands_of g) g.outputs) (length g.outputs) s → Why
    ByDelay : ByOne (Delayed g (stands_of g)) (length g.signals) s → Why
    ByDefinition : ByOne (Defined g (stands_of g)) (length g.groups) s → Why
    ByShare : ByOne (Shared g (rates g.signals) readers) (length g.signals) s → Why
    ByWrite : ByOne (Written g) (length g.signals) s → Why

  pub why : IsSeparated g s → Why
  why (AsOutput j l e) = ByOutput (record { place = j; below = l; is = e })
  why (AsDelayed r x d max n one e) = ByDelay (record { place = r; below = n.within; is = subst (λ y. DelaysTo (stands_of g) y s) (sym n.is) (one, e) })
  why (AsDefinition group i l m e) = ByDefinition (record { place = group; below = l; is = record { place = i; below = m; is = e } })
  why (AsShared q r c sampled n a b) =
      let z = read_lower g graph.ordered q s a in
      let w = a.within in
      let below : s < length g.signals = omega (arith, z, w) in
      ByShare (record { place = s; below = below; is = (refl, (c, sampled, many q r n below a b)) })
  why (AsWritten table w x r n) = ByWrite (record { place = s; below = n.within; is = (refl, subst IsWritten (sym n.is) tt) })

pub are_marked : (g : Graph) → IsGraph g → (stands : List ℕ) (often : List Rate) (readers : List Reader) (a b c d e f : List Bool) → stands ≡ stands_of g →
    often ≡ rates g.signals →
    AreReaders (reads_of g) (length g.signals) (length g.signals) readers → length a ≡ length g.signals → ((s : ℕ) → bit_at a s ≡ false) →
    Marks a b (ByOne (Named stands g.outputs) (length g.outputs)) → Marks b c (ByOne (Delayed g stands) (length g.signals)) →
    Marks c d (ByOne (Defined g stands) (length g.groups)) →
    Marks d e (ByOne (Shared g often readers) (length g.signals)) → Marks e f (ByOne (Written g) (length g.signals)) → AreMarked g f
are_marked g graph stands often readers a b c d e f es er are long none p0 q0 r0 t0 u = record {
  long = u.long ∙ t.long ∙ r.long ∙ q.long ∙ p.long ∙ long;
  each = λ s. (to s, of s);
}
  where
    p : Marks a b (ByOne (Named (stands_of g) g.outputs) (length g.outputs))
    p = subst (λ xs. Marks a b (ByOne (Named xs g.outputs) (length g.outputs))) es p0

    q : Marks b c (ByOne (Delayed g (stands_of g)) (length g.signals))
    q = subst (λ xs. Marks b c (ByOne (Delayed g xs) (length g.signals))) es q0

    r : Marks c d (ByOne (Defined g (stands_of g)) (length g.groups))
    r = subst (λ xs. Marks c d (ByOne (Defined g xs) (length g.groups))) es r0

    t : Marks d e (ByOne (Shared g (rates g.signals) readers) (length g.signals))
    t = subst (λ xs. Marks d e (ByOne (Shared g xs readers) (length g.signals))) er t0

    shared : (s : ℕ) → bit_at e s ≡ true → IsSeparated g s
    shared s h = elim (t.only s h) [
      | inl h3 ↦ elim (r.only s h3) [
        | inl h2 ↦ elim (q.only s h2) [
          | inl h1 ↦ elim (p.only s h1) [ inl h0 ↦ absurd (let z = sym (none s) ∙ h0 in cc) | inr y ↦ as_output g graph readers are s y ]
          | inr y ↦ as_delayed g graph readers are s y
        ]
        | inr y ↦ as_definition g graph readers are s y
      ]
      | inr y ↦ as_shared g graph readers are s y
    ]

    to : (s : ℕ) → bit_at f s ≡ true → IsSeparated g s
    to s h = elim (u.only s h) [ inl y ↦ shared s y | inr y ↦ as_written g graph readers are s y ]

    of : (s : ℕ) → IsSeparated g s → bit_at f s ≡ true
    of s h = elim (why g graph readers are s h) [
      | ByOutput y ↦ u.keeps s (t.keeps s (r.keeps s (q.keeps s (p.adds s y))))
      | ByDelay y ↦ u.keeps s (t.keeps s (r.keeps s (q.adds s y)))
      | ByDefinition y ↦ u.keeps s (t.keeps s (r.adds s y))
      | ByShare y ↦ u.keeps s (t.adds s y)
      | ByWrite y ↦ u.adds s y
    ]
