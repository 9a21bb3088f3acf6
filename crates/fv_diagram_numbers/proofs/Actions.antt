-- Actions on numbers that stand side by side, one after another.
use Rattle.std.proofs.Common.{◌≡◌, ◌⊎◌, ℕ, zero, suc, ◌+◌, ◌-◌, ◌<◌, ◌≤◌, List, [], ◌∷◌, ◌++◌, length, take, drop, sym, ap, ◌∙◌, arith, ℤ, pos, inl}
use Rattle.std.proofs.Common.{inr, append_assoc, append-nil}
use Rattle.std.proofs.lemmas.Bool.{cases_lt}
use Rattle.std.proofs.lemmas.List.{get_or_append_left, get_or-append_right, get_or-take, get_or-drop, length-take-le, length-drop, take_at, drop_at}
use Rattle.fv_base.proofs.lemmas.Lists.{table_same, length_table, table_items}
use Rattle.fv_num.specs.headline.Words.{argument}
use Rattle.fv_num.specs.headline.Frames.{Frame, table}
use Rattle.fv_diagram_numbers.specs.inner.Timeless.{Action, Does}

-- ---- rows of numbers
table_split : {A : Type 0} (n k : ℕ) (f : ℕ → A) → table (n + k) f ≡ table n f ++ table k (λ i. f (n + i))
table_split n zero f = let e : n + 0 ≡ n = omega arith in ap (λ z. table z f) e ∙ sym (append-nil (table n f))
table_split n (suc k) f =
    let e : n + suc k ≡ suc (n + k) = omega arith in
    ap (λ z. table z f) e ∙ ap (λ xs. xs ++ f (n + k) ∷ []) (table_split n k f)
    ∙ append_assoc (table n f) (table k (λ i. f (n + i))) (f (n + k) ∷ [])

take_first : (n k : ℕ) (f : ℕ → ℤ) → take n (table (n + k) f) ≡ table n f
take_first n k f = ap (take n) (table_split n k f) ∙ take_at (table n f) (table k (λ i. f (n + i))) n (length_table n f)

drop_first : (n k : ℕ) (f : ℕ → ℤ) → drop n (table (n + k) f) ≡ table k (λ i. f (n + i))
drop_first n k f = ap (drop n) (table_split n k f) ∙ drop_at (table n f) (table k (λ i. f (n + i))) n (length_table n f)

pub items_of : (xs : List ℤ) (k : ℕ) → length xs ≡ k → table k (argument xs) ≡ xs
items_of xs k e = ap (λ n. table n (argument xs)) (sym e) ∙ table_items xs (pos 0)

-- a part of a list
pub cut_out : (xs : List ℤ) (from n k : ℕ) → k ≡ n → from + n ≤ length xs → take ((from + k) - from) (drop from xs) ≡ table n (λ i. argument xs (from + i))
cut_out xs from n k e h =
    let d : (from + k) - from ≡ n = omega (arith, e) in
    let ys : List ℤ = take n (drop from xs) in
    let long : length ys ≡ n = length-take-le n (drop from xs) (omega (arith, length-drop from xs, h)) in
    ap (λ m. take m (drop from xs)) d ∙ sym (items_of ys n long)
    ∙ table_same n (argument ys) (λ i. argument xs (from + i)) (λ i l. get_or-take n (drop from xs) i (pos 0) l ∙ get_or-drop from xs i (pos 0))

-- ---- an action with the places of fewer numbers, on the same numbers
pub narrowed : (l k : ℕ) (x : Action) (m n r : ℕ → ℤ) → l ≤ k → ((i : ℕ) → n i ≡ m i) → Does k x n r → Does l x m r
narrowed l k x m n r h s d = record {
  written = λ j g. d.written j g ∙ ap (λ u. argument (x.turned u) j) (table_same x.takes _ _ (λ i _. s (x.from + i)));
  kept = λ i g o. d.kept i (omega arith) o ∙ s i;
}

-- ---- the second takes what the first gives, after all others
abbrev pub after : Action → Action → Action
after x y = record { from = x.from; takes = x.takes; to = y.to; gives = y.gives; turned = λ u. y.turned (x.turned u) }

pub follow : (l : ℕ) (x y : Action) (m n r : ℕ → ℤ) → ((u : Frame) → length (x.turned u) ≡ x.gives) → l ≤ x.to → y.from ≡ x.to → y.takes ≡ x.gives
    → Does l x m n → Does l y n r → Does l (after x y) m r
follow l x y m n r wide far at many p q =
    let X : Frame = x.turned (table x.takes (λ i. m (x.from + i))) in
    let same : table y.takes (λ i. n (y.from + i)) ≡ X =
    ap (λ k. table k (λ i. n (y.from + i))) many
    ∙ table_same x.gives (λ i. n (y.from + i)) (argument X) (λ i g. ap (λ s. n (s + i)) at ∙ p.written i g)
    ∙ items_of X x.gives (wide (table x.takes (λ i. m (x.from + i)))) in
    record {
      written = λ j g. q.written j g ∙ ap (λ u. argument (y.turned u) j) same;
      kept = λ i g o. q.kept i g o ∙ p.kept i g (inl (omega arith));
    }

-- ---- both side by side
abbrev pub alongside : Action → Action → Action
alongside x y = record {
  from = x.from;
  takes = x.takes + y.takes;
  to = x.to;
  gives = x.gives + y.gives;
  turned = λ u. x.turned (take x.takes u) ++ y.turned (drop x.takes u);
}

-- where they stand
pub record AreAlongside (l : ℕ) (x y : Action) : Type 0 where
  pub wide : (u : Frame) → length (x.turned u) ≡ x.gives
  pub from : y.from ≡ x.from + x.takes
  pub to : y.to ≡ x.to + x.gives
  pub takes : y.from + y.takes ≤ l
  pub gives : y.to + y.gives ≤ l
  pub apart : (y.from + y.takes ≤ x.to) ⊎ (y.to + y.gives ≤ x.from)

-- what the second takes was not written by the first
untouched : (l : ℕ) (x y : Action) (m n : ℕ → ℤ) → AreAlongside l x y → Does l x m n → (i : ℕ) → i < y.takes → n (y.from + i) ≡ m (x.from + (x.takes + i))
untouched l x y m n s p i h =
    let e : y.from + i ≡ x.from + (x.takes + i) = omega (arith, s.from) in
    elim s.apart [
      | inl b ↦ p.kept (y.from + i) (omega (arith, s.takes)) (inl (omega (arith, b))) ∙ ap m e
      | inr b ↦ p.kept (y.from + i) (omega (arith, s.takes)) (inr (omega (arith, b, s.to, s.from))) ∙ ap m e
    ]

pub beside : (l : ℕ) (x y : Action) (m n r : ℕ → ℤ) → AreAlongside l x y → Does l x m n → Does l y n r → Does l (alongside x y) m r
beside l x y m n r s p q =
    let U : Frame = table (x.takes + y.takes) (λ i. m (x.from + i)) in
    let X : Frame = x.turned (take x.takes U) in
    let Y : Frame = y.turned (drop x.takes U) in
    let left : take x.takes U ≡ table x.takes (λ i. m (x.from + i)) = take_first x.takes y.takes (λ i. m (x.from + i)) in
    let right : table y.takes (λ i. n (y.from + i)) ≡ drop x.takes U =
    table_same y.takes _ _ (untouched l x y m n s p) ∙ sym (drop_first x.takes y.takes (λ i. m (x.from + i))) in
    let wide : length X ≡ x.gives = s.wide (take x.takes U) in
    record {
      written = λ j g. elim (cases_lt j x.gives) [
        | inl b ↦ q.kept (x.to + j) (omega (arith, s.gives, s.to)) (inl (omega (arith, b, s.to))) ∙ p.written j b
            ∙ ap (λ u. argument (x.turned u) j) (sym left) ∙ sym (get_or_append_left X Y (pos 0) j (omega (arith, b, wide)))
        | inr b ↦
            let e : x.to + j ≡ y.to + (j - x.gives) = omega (arith, b, s.to) in
            ap r e ∙ q.written (j - x.gives) (omega (arith, b, g)) ∙ ap (λ u. argument (y.turned u) (j - x.gives)) right
            ∙ sym (get_or-append_right X Y x.gives j (pos 0) wide b)
      ];
      kept = λ i g o. elim o [
        | inl b ↦ q.kept i g (inl (omega (arith, b, s.to))) ∙ p.kept i g (inl b)
        | inr b ↦ q.kept i g (inr (omega (arith, b, s.to))) ∙ p.kept i g (inr (omega (arith, b)))
      ];
    }
