-- Numbers that are dealt, or added up, where they stand.
use Rattle.std.proofs.Common.{◌≡◌, ◌≢◌, ◌⊎◌, ℕ, suc, ◌+◌, ◌%◌, ◌<◌, ◌≤◌, Bool, true, false, if◌then◌else◌, nat_eq, List, [], ◌∷◌, length, drop}
use Rattle.std.proofs.Common.{get_or, set, refl, sym, ap, ap₂, ◌∙◌, arith, ℤ, pos, inl, inr}
use Rattle.std.proofs.Math.Nat.{mod-eq_of_lt}
use Rattle.std.proofs.lemmas.Bool.{cases_lt, cases_eq, cond-true, cond-false, eq-eqb, ne_eqb}
use Rattle.std.proofs.lemmas.List.{get_or-set_other, drop_all, length-set}
use Rattle.std.proofs.lemmas.Grind.{get_or-set_at}
use Rattle.fv_base.proofs.lemmas.Lists.{length_table, get_or_table, drop_step}
use Rattle.fv_num.specs.declared.op.Op.TheVariants.{Add}
use Rattle.fv_num.specs.headline.Words.{argument, apply_of}
use Rattle.fv_num.specs.headline.Frames.{Frame, table}
use Rattle.fv_diagram.specs.headline.Streams.{wrapped_sum, added, every}
use Rattle.fv_diagram.proofs.lemmas.Sums.{every_front}
use Rattle.fv_diagram_numbers.specs.inner.Timeless.{Does, dealing, summing}

-- this many numbers came, and each place has what it had
pub record Extends (count : ℕ) (old new : List ℤ) : Type 0 where
  pub long : length new ≡ length old + count
  pub same : (k : ℕ) → argument new k ≡ argument old k

-- what a write at place p leaves
left_at : (xs ys : List ℤ) (p q : ℕ) (v : ℤ) → ys ≡ set xs p v → q ≢ p → argument ys q ≡ argument xs q
left_at xs ys p q v is other = ap (λ zs. argument zs q) is ∙ get_or-set_other xs p q v (pos 0) other

put_at : (xs ys : List ℤ) (p q : ℕ) (v : ℤ) → ys ≡ set xs p v → q ≡ p → p < length xs → argument ys q ≡ v
put_at xs ys p q v is same inside = ap (λ zs. argument zs q) is ∙ get_or-set_at xs p q v (pos 0) same inside

-- ---- dealt
-- the first i places have their numbers
pub record DealtTo (at count i : ℕ) (old new : List ℤ) : Type 0 where
  pub long : length new ≡ length old
  pub first : (k : ℕ) → k < i → argument new (at + k) ≡ argument old (at + k % count)
  pub others : (p : ℕ) → (p < at) ⊎ (at + i ≤ p) → argument new p ≡ argument old p

pub dealt_none : (at count : ℕ) (xs : List ℤ) → DealtTo at count count xs xs
dealt_none at count xs = record {
  long = refl;
  first = λ k h. ap (λ m. argument xs (at + m)) (sym (mod-eq_of_lt h));
  others = λ p o. refl;
}

pub dealt_more : (at count i many : ℕ) (old xs ys : List ℤ) (v : ℤ) → 0 < count → count ≤ i → i < many → at + many ≤ length old → DealtTo at count i old xs
    → v ≡ argument xs (at + i % count) → ys ≡ set xs (at + i) v → DealtTo at count (i + 1) old ys
dealt_more at count i many old xs ys v some past more inside d is written = record {
  long = ap length written ∙ omega (arith, length-set xs (at + i) v, d.long);
  first = λ k h. elim (cases_lt k i) [
    | inl l ↦ left_at xs ys (at + i) (at + k) v written (λ q. absurd (omega (arith, l, q))) ∙ d.first k l
    | inr g ↦
        let e : i ≡ k = omega (arith, h, g) in
        let r : i % count < count = omega (arith, some) in
        let twice : (i % count) % count ≡ k % count = mod-eq_of_lt r ∙ ap (λ n. n % count) e in
        put_at xs ys (at + i) (at + k) v written (omega (arith, e)) (omega (arith, d.long, inside, more)) ∙ is
        ∙ d.first (i % count) (omega (arith, r, past)) ∙ ap (λ n. argument old (at + n)) twice
  ];
  others = λ p o. left_at xs ys (at + i) p v written (λ q. away p o q) ∙ d.others p (wider p o);
}
  where
    away : (p : ℕ) → (p < at) ⊎ (at + (i + 1) ≤ p) → p ≡ at + i → ⊥
    away p (inl b) q = omega (arith, b, q)
    away p (inr b) q = omega (arith, b, q)

    wider : (p : ℕ) → (p < at) ⊎ (at + (i + 1) ≤ p) → (p < at) ⊎ (at + i ≤ p)
    wider p (inl b) = inl b
    wider p (inr b) = inr (omega (arith, b))

pub dealt_all : (at count many : ℕ) (old new : List ℤ) → 0 < count → DealtTo at count many old new
    → Does (length old) (dealing at count many) (argument old) (argument new)
dealt_all at count many old new some d =
    let X : Frame = table count (λ i. argument old (at + i)) in
    let long : length X ≡ count = length_table count (λ i. argument old (at + i)) in
    record {
      written = λ j h.
          let r : j % count < count = omega (arith, some) in
          d.first j h ∙ sym (get_or_table many (λ i. get_or X (i % length X) (pos 0)) j (pos 0) h ∙ ap (λ n. get_or X (j % n) (pos 0)) long
          ∙ get_or_table count (λ i. argument old (at + i)) (j % count) (pos 0) r);
      kept = λ i h o. d.others i o;
    }

-- ---- added up
-- the sums of the terms so far, to which the others are still to be added
pub record AddedTo (at count many i : ℕ) (old new : List ℤ) : Type 0 where
  pub long : length new ≡ length old
  pub sums : (j : ℕ) → j < many →
      let X = table count (λ k. argument old (at + k)) in
      added (argument new (at + j)) (every many j i (drop i X)) ≡ wrapped_sum (every many j 0 X)
  pub others : (p : ℕ) → (p < at) ⊎ (at + many ≤ p) → argument new p ≡ argument old p

pub added_none : (at count many : ℕ) (xs : List ℤ) → many ≤ count → AddedTo at count many many xs xs
added_none at count many xs fewer =
    let X : Frame = table count (λ k. argument xs (at + k)) in
    let long : length X ≡ count = length_table count (λ k. argument xs (at + k)) in
    record {
      long = refl;
      sums = λ j h. ap (λ z. added z (every many j many (drop many X))) (sym (get_or_table count (λ k. argument xs (at + k)) j (pos 0) (omega (arith, h))))
          ∙ sym (ap wrapped_sum (every_front many j (pos 0) X h (omega (arith, long))));
      others = λ p o. refl;
    }

-- one term more, for one sum
turn_sum : (many j i : ℕ) (sum x : ℤ) (xs : List ℤ) → (b : Bool) → nat_eq (i % many) j ≡ b →
    added sum (every many j i (x ∷ xs)) ≡ added (if b then apply_of Add (sum ∷ x ∷ []) else sum) (every many j (suc i) xs)
turn_sum many j i sum x xs true e = ap (added sum) (cond-true (nat_eq (i % many) j) (x ∷ every many j (suc i) xs) (every many j (suc i) xs) e)
turn_sum many j i sum x xs false e = ap (added sum) (cond-false (nat_eq (i % many) j) (x ∷ every many j (suc i) xs) (every many j (suc i) xs) e)

pub added_more : (at count many i : ℕ) (old xs ys : List ℤ) (v : ℤ) → 0 < many → many ≤ i → i < count → at + count ≤ length old → AddedTo at count many i old xs
    → v ≡ apply_of Add (argument xs (at + i % many) ∷ argument xs (at + i) ∷ []) → ys ≡ set xs (at + i % many) v → AddedTo at count many (i + 1) old ys
added_more at count many i old xs ys v some past more inside d is written = record {
  long = ap length written ∙ omega (arith, length-set xs (at + i % many) v, d.long);
  sums = λ j h.
      let rest : List ℤ = drop (i + 1) X in
      let f : drop i X ≡ term ∷ rest = drop_step X i (pos 0) (omega (arith, long, more)) ∙ ap (λ z. z ∷ rest) at_i in
      let g : added (argument xs (at + j)) (every many j i (term ∷ rest)) ≡ wrapped_sum (every many j 0 X) =
      ap (λ zs. added (argument xs (at + j)) (every many j i zs)) (sym f) ∙ d.sums j h in
      let s : suc i ≡ i + 1 = omega arith in
      elim (cases_eq (i % many) j) [
        | inl e ↦
            let w : argument ys (at + j) ≡ apply_of Add (argument xs (at + j) ∷ term ∷ []) =
            put_at xs ys (at + i % many) (at + j) v written (omega (arith, e)) (omega (arith, d.long, inside, reach)) ∙ is
            ∙ ap₂ (λ m z. apply_of Add (argument xs (at + m) ∷ z ∷ [])) e (sym term_is) in
            ap₂ (λ z k. added z (every many j k rest)) w (sym s) ∙ sym (turn_sum many j i (argument xs (at + j)) term rest true (eq-eqb (i % many) j e)) ∙ g
        | inr n ↦
            let w : argument ys (at + j) ≡ argument xs (at + j) = left_at xs ys (at + i % many) (at + j) v written (λ q. n (omega (arith, q))) in
            ap₂ (λ z k. added z (every many j k rest)) w (sym s) ∙ sym (turn_sum many j i (argument xs (at + j)) term rest false (ne_eqb (i % many) j n)) ∙ g
      ];
  others = λ p o. left_at xs ys (at + i % many) p v written (λ q. away p o q) ∙ d.others p o;
}
  where
    X : List ℤ
    X = table count (λ k. argument old (at + k))

    term : ℤ
    term = argument old (at + i)

    reach : i % many < many
    reach = omega (arith, some)

    long : length X ≡ count
    long = length_table count (λ k. argument old (at + k))

    at_i : get_or X i (pos 0) ≡ term
    at_i = get_or_table count (λ k. argument old (at + k)) i (pos 0) more

    term_is : term ≡ argument xs (at + i)
    term_is = sym (d.others (at + i) (inr (omega (arith, past))))

    away : (p : ℕ) → (p < at) ⊎ (at + many ≤ p) → p ≡ at + i % many → ⊥
    away p (inl b) q = omega (arith, b, q)
    away p (inr b) q = omega (arith, b, q, some)

pub added_all : (at count many : ℕ) (old new : List ℤ) → AddedTo at count many count old new
    → Does (length old) (summing at count many) (argument old) (argument new)
added_all at count many old new d =
    let X : List ℤ = table count (λ k. argument old (at + k)) in
    let long : length X ≡ count = length_table count (λ k. argument old (at + k)) in
    record {
      written = λ j h.
          ap (λ zs. added (argument new (at + j)) (every many j count zs)) (sym (drop_all count X (omega (arith, long)))) ∙ d.sums j h
          ∙ sym (get_or_table many (λ j. wrapped_sum (every many j 0 X)) j (pos 0) h);
      kept = λ i h o. d.others i o;
    }
