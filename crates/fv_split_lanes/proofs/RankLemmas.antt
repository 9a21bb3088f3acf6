-- Loops are counted.
use Rattle.std.proofs.Common.{◌≡◌, ◌≢◌, inl, inr, ℕ, zero, suc, ◌+◌, ◌<◌, ◌≤◌, List, [], ◌∷◌, ◌++◌, length, set, refl, sym, ap, ◌∙◌, subst, arith, Bool, true}
use Rattle.std.proofs.Common.{false, if◌then◌else◌}
use Rattle.std.specs.Prelude.{All}
use Rattle.std.proofs.lemmas.List.{get_or-set_same, get_or-set_other, length-set, length_push, get_or_push, get_or_append_left}
use Rattle.std.proofs.lemmas.List.Elements.{All-get_or}
use Rattle.std.proofs.lemmas.Bool.{cases_lt, cases_eq}
use Rattle.fv_components.specs.headline.Reach.{Links, at, Reaches}
use Rattle.fv_components.specs.Reach.{AreComponents}
use Rattle.fv_split_lanes.specs.inner.Homes.{bit_at}
use Rattle.fv_split_lanes.specs.inner.Ranks.{rank_of, HasMarked, AreMet, AreRanks, AreLoops}

abbrev pub bit : Bool → ℕ
bit b = if b then 1 else 0

rank_none : (bits : List Bool) → rank_of bits 0 ≡ 0
rank_none [] = refl
rank_none (b ∷ bs) = refl

pub rank_suc : (bits : List Bool) (c : ℕ) → rank_of bits (suc c) ≡ rank_of bits c + bit (bit_at bits c)
rank_suc [] c = refl
rank_suc (b ∷ bs) zero = let h = rank_none bs in omega (arith, h)
rank_suc (b ∷ bs) (suc c) = let h = rank_suc bs c in omega (arith, h)

pub rank_le : (bits : List Bool) (c d : ℕ) → c ≤ d → rank_of bits c ≤ rank_of bits d
rank_le bits c zero l = let z : 0 ≡ c = omega arith in subst (λ x. rank_of bits x ≤ rank_of bits 0) z (omega arith)
rank_le bits c (suc d) l = elim (cases_eq c (suc d)) [
  | inl e ↦ subst (λ x. rank_of bits c ≤ rank_of bits x) e (omega arith)
  | inr e ↦ omega (arith, rank_le bits c d (omega arith), rank_suc bits d)
]

pub rank_lt : (bits : List Bool) (c d : ℕ) → c < d → bit_at bits c ≡ true → rank_of bits c < rank_of bits d
rank_lt bits c d l e = omega (arith, rank_le bits (suc c) d (omega arith), rank_suc bits c, ap bit e)

-- each number below a rank is that of a place whose bit is true
pub rank_found : (bits : List Bool) (n j : ℕ) → j < rank_of bits n → (c : ℕ) × (c < n) × (bit_at bits c ≡ true) × (rank_of bits c ≡ j)
rank_found bits zero j l = absurd (omega (arith, rank_none bits))
rank_found bits (suc n) j l = elim (cases_lt j (rank_of bits n)) [
  | inl h ↦ let k = rank_found bits n j h in (k.0, omega (arith, k.1), k.2, k.3)
  | inr h ↦ last (bit_at bits n) refl (omega arith)
]
  where
    last : (b : Bool) → bit_at bits n ≡ b → rank_of bits n ≤ j → (c : ℕ) × (c < suc n) × (bit_at bits c ≡ true) × (rank_of bits c ≡ j)
    last true e h = (n, omega arith, e, omega (arith, rank_suc bits n, ap bit e))
    last false e h = absurd (omega (arith, rank_suc bits n, ap bit e))

-- the loops of components that were met
pub are_ranks : (numbers : List ℕ) (marked met : List Bool) (ranks : List ℕ) → All (λ c. c < length numbers) numbers → AreMet numbers marked met →
    length ranks ≡ length met + 1 →
    ((c : ℕ) → c ≤ length met → at ranks c ≡ rank_of met c) → AreRanks numbers marked ranks
are_ranks numbers marked met ranks inside m long each = record { long = omega (arith, long, m.long); below = below; apart = apart; order = order; some = some }
  where
    within : (s : ℕ) → s < length numbers → at numbers s < length numbers
    within s l = All-get_or (λ c. c < length numbers) numbers s 0 l inside

    rank : (s : ℕ) → s < length numbers → at ranks (at numbers s) ≡ rank_of met (at numbers s)
    rank s l = each (at numbers s) (omega (arith, within s l, m.long))

    total : at ranks (length numbers) ≡ rank_of met (length numbers)
    total = each (length numbers) (omega (arith, m.long))

    below : (s : ℕ) → s < length numbers → bit_at marked s ≡ true → at ranks (at numbers s) < at ranks (length numbers)
    below s l e = omega (arith, rank s l, total, rank_lt met (at numbers s) (length numbers) (within s l) (m.all s l e))

    apart : (a b : ℕ) → a < length numbers → b < length numbers → bit_at marked a ≡ true → bit_at marked b ≡ true →
        at ranks (at numbers a) ≡ at ranks (at numbers b) → at numbers a ≡ at numbers b
    apart a b la lb ma mb e = elim (cases_lt (at numbers a) (at numbers b)) [
      | inl h ↦ absurd (omega (arith, rank a la, rank b lb, rank_lt met (at numbers a) (at numbers b) h (m.all a la ma)))
      | inr h ↦ elim (cases_lt (at numbers b) (at numbers a)) [
        | inl k ↦ absurd (omega (arith, rank a la, rank b lb, rank_lt met (at numbers b) (at numbers a) k (m.all b lb mb)))
        | inr k ↦ omega arith
      ]
    ]

    order : (a b : ℕ) → a < length numbers → b < length numbers → at numbers b ≤ at numbers a → at ranks (at numbers b) ≤ at ranks (at numbers a)
    order a b la lb h = omega (arith, rank a la, rank b lb, rank_le met (at numbers b) (at numbers a) h)

    some : (j : ℕ) → j < at ranks (length numbers) → (s : ℕ) × (s < length numbers) × (bit_at marked s ≡ true) × (at ranks (at numbers s) ≡ j)
    some j l =
        let k = rank_found met (length numbers) j (omega (arith, total)) in
        let h = m.only k.0 k.2 in
        (h.signal, h.within, h.is_marked, rank h.signal h.within ∙ ap (rank_of met) h.number ∙ k.3)

-- components that were counted are loops
pub are_loops : (next : Links) (n : ℕ) (numbers : List ℕ) (marked : List Bool) (ranks : List ℕ) → AreComponents next n numbers → ((a b : ℕ) → a < n →
    Reaches next a b → b < n) → AreRanks numbers marked ranks →
    AreLoops next n marked (λ s. at ranks (at numbers s)) (at ranks n)
are_loops next n numbers marked ranks c closed r = record {
  below = λ s l e. subst (λ k. at ranks (at numbers s) < at ranks k) c.long (r.below s (in_numbers s l) e);
  together = λ a b la lb ma mb. (
    λ e. let z = r.apart a b (in_numbers a la) (in_numbers b lb) ma mb e in (c.alike a b la lb z, c.alike b a lb la (sym z)),
    λ p. let z : at numbers a ≡ at numbers b = omega (arith, c.ordered a b la p.0, c.ordered b a lb p.1) in ap (at ranks) z,
  );
  order = λ a b la lb p. r.order a b (in_numbers a la) (in_numbers b lb) (c.ordered a b la p);
  some = λ j l. let k = r.some j (subst (λ m. j < at ranks m) (sym c.long) l) in (k.0, subst (λ m. k.0 < m) c.long k.1, k.2, k.3);
}
  where
    in_numbers : (s : ℕ) → s < n → s < length numbers
    in_numbers s l = subst (λ m. s < m) (sym c.long) l

-- ---- one more component is met

pub record MetUpTo (numbers : List ℕ) (marked met : List Bool) (upto : ℕ) : Type 0 where
  pub long : length met ≡ length numbers
  pub all : (s : ℕ) → s < upto → bit_at marked s ≡ true → bit_at met (at numbers s) ≡ true
  pub only : (c : ℕ) → bit_at met c ≡ true → HasMarked numbers marked c

pub meets : (numbers : List ℕ) (marked met : List Bool) (s : ℕ) → s < length numbers → at numbers s < length numbers → bit_at marked s ≡ true →
    MetUpTo numbers marked met s → MetUpTo numbers marked (set met (at numbers s) true) (suc s)
meets numbers marked met s l inside e m = record { long = length-set met (at numbers s) true ∙ m.long; all = all; only = only }
  where
    here : bit_at (set met (at numbers s) true) (at numbers s) ≡ true
    here = get_or-set_same met (at numbers s) true false (omega (arith, m.long))

    all : (q : ℕ) → q < suc s → bit_at marked q ≡ true → bit_at (set met (at numbers s) true) (at numbers q) ≡ true
    all q h k = elim (cases_eq (at numbers q) (at numbers s)) [
      | inl z ↦ ap (bit_at (set met (at numbers s) true)) z ∙ here
      | inr z ↦ get_or-set_other met (at numbers s) (at numbers q) true false z ∙ m.all q (lower q h z) k
    ]
      where
        lower : (q : ℕ) → q < suc s → at numbers q ≢ at numbers s → q < s
        lower q h z = elim (cases_eq q s) [ inl y ↦ absurd (z (ap (at numbers) y)) | inr y ↦ omega arith ]

    only : (c : ℕ) → bit_at (set met (at numbers s) true) c ≡ true → HasMarked numbers marked c
    only c h = elim (cases_eq c (at numbers s)) [
      | inl z ↦ record { signal = s; within = l; is_marked = e; number = sym z }
      | inr z ↦ m.only c (sym (get_or-set_other met (at numbers s) c true false z) ∙ h)
    ]

pub meets_none : (numbers : List ℕ) (marked met : List Bool) (s : ℕ) →
    bit_at marked s ≡ false → MetUpTo numbers marked met s → MetUpTo numbers marked met (suc s)
meets_none numbers marked met s e m = record {
  long = m.long;
  all = λ q h k. elim (cases_eq q s) [ inl z ↦ absurd (let y = sym e ∙ ap (bit_at marked) (sym z) ∙ k in cc) | inr z ↦ m.all q (omega arith) k ];
  only = m.only;
}

-- ---- one more place is counted

pub record CountedTo (bits : List Bool) (counts : List ℕ) (count upto : ℕ) : Type 0 where
  pub long : length counts ≡ upto
  pub counted : count ≡ rank_of bits upto
  pub few : count ≤ upto
  pub each : (c : ℕ) → c < upto → at counts c ≡ rank_of bits c

pub counts_none : (bits : List Bool) (counts : List ℕ) → length counts ≡ 0 → CountedTo bits counts 0 0
counts_none bits counts e = record { long = e; counted = sym (rank_none bits); few = omega arith; each = λ c l. absurd (omega arith) }

pub counts_more : (bits : List Bool) (counts new : List ℕ) (count more i : ℕ) → CountedTo bits counts count i → new ≡ counts ++ count ∷ [] →
    more ≡ count + bit (bit_at bits i) → CountedTo bits new more (i + 1)
counts_more bits counts new count more i h e f =
    let z : suc i ≡ i + 1 = omega arith in
    subst (CountedTo bits new more) z record {
      long = ap length e ∙ length_push counts count ∙ (let y = h.long in let w : length counts + 1 ≡ suc i = omega arith in w);
      counted = f ∙ ap (λ x. x + bit (bit_at bits i)) h.counted ∙ sym (rank_suc bits i);
      few = omega (arith, f, h.few, small (bit_at bits i));
      each = λ c l. ap (λ xs. at xs c) e ∙ elim (cases_lt c i) [
        | inl k ↦ get_or_append_left counts (count ∷ []) 0 c (omega (arith, h.long)) ∙ h.each c k
        | inr k ↦ let y : c ≡ i = omega arith in get_or_push counts count 0 c (h.long ∙ sym y) ∙ h.counted ∙ ap (rank_of bits) (sym y)
      ];
    }
  where
    small : (b : Bool) → bit b ≤ 1
    small true = omega arith
    small false = omega arith

pub counts_all : (bits : List Bool) (counts new : List ℕ) (count i : ℕ) → i ≡ length bits → CountedTo bits counts count i → new ≡ counts ++ count ∷ [] →
    (length new ≡ length bits + 1) × ((c : ℕ) → c ≤ length bits → at new c ≡ rank_of bits c)
counts_all bits counts new count i e h f = (
  ap length f ∙ length_push counts count ∙ (let y = h.long in let w : length counts + 1 ≡ length bits + 1 = omega arith in w),
  λ c l. (counts_more bits counts new count (count + bit (bit_at bits i)) i h f refl).each c (omega (arith, e)),
)
