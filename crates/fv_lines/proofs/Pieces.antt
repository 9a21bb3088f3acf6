-- Many cells of a ring, which are read or written in two pieces: up to the end of the cells, and from their beginning on.
use Rattle.std.proofs.Common.{◌≡◌, ◌+◌, ◌-◌, ◌<◌, ◌≤◌, ◌++◌, [], length, take, drop, List, ℕ, refl, sym, ap, ap₂, ◌∙◌, arith, subst, append-nil, min}
use Rattle.std.proofs.lemmas.Bool.{cases_lt}
use Rattle.std.proofs.Math.Nat.{min-eq_left, min-eq_right}
use Rattle.std.proofs.lemmas.List.{drop-append-le, length-append, length-drop, length-take-le, drop-take, take-take, drop-drop, take-append-drop}
use Rattle.std.proofs.Math.Seq.{drop-append-add, drop-length, take-add, take-append_seam}
use mathlib.Core.Logic.{◌⊎◌, inl, inr}
use Rattle.fv_lines.proofs.Rotate.{ring, take_both}
use Rattle.fv_lines.proofs.lemmas.Parts.{replaced, length_replaced, new_there, kept_before, kept_behind}

-- of m cells this one is at the place j of the ring order from s on
abbrev pub IsAt : (m s j cell : ℕ) → Type 0
IsAt m s j cell = (cell ≡ s + j × cell ≤ m) ⊎ (cell + m ≡ s + j)

-- b of n, where `left` are left before the end
abbrev pub IsFirst : (n left b : ℕ) → Type 0
IsFirst n left b = (b ≡ n × n ≤ left) ⊎ (b ≡ left × left ≤ n)

pub first_is : (n left b : ℕ) → b ≡ min n left → IsFirst n left b
first_is n left b e = elim (cases_lt left n) [
  | inl l ↦ inr (e ∙ min-eq_right (omega (arith, l)), omega (arith, l))
  | inr g ↦ inl (e ∙ min-eq_left g, g)
]

-- the cell of a place: the sum itself where the history is copied, and the sum turned in a ring
pub at_of : (h m s j sum cell : ℕ) → sum ≡ s + j → (h ≤ 16 → (cell ≡ sum) × (sum ≤ m)) → (16 < h → ((cell ≡ sum) × (sum ≤ m)) ⊎ (cell + m ≡ sum))
    → IsAt m s j cell
at_of h m s j sum cell e small large = elim (cases_lt 16 h) [
  | inl l ↦ elim (large l) [ inl p ↦ inl (p.0 ∙ e, omega (arith, p.0, p.1)) | inr p ↦ inr (p ∙ e) ]
  | inr g ↦ let p = small g in inl (p.0 ∙ e, omega (arith, p.0, p.1))
]

module _ {A : Type 0} where
  -- of two lists, one after the other, n items from number f on: b of the first from number s on, and then those of the second
  pub two_lists : (xs ys : List A) (f n s b : ℕ) → IsFirst f (length xs) s → IsFirst n (length xs - s) b
      → take b (drop s xs) ++ take (n - b) (drop (f - s) ys) ≡ take n (drop f (xs ++ ys))
  two_lists xs ys f n s b at cut = elim at [
    | inl p ↦
        let tail : length (drop f xs) ≡ length xs - f = length-drop f xs in
        let none : f - s ≡ 0 = omega (arith, p.0) in
        ap₂ (λ (i j : ℕ). take b (drop i xs) ++ take (n - b) (drop j ys)) p.0 none
        ∙ take_both (drop f xs) ys n b (elim cut [
          | inl q ↦ inl (q.0, omega (arith, p.0, q.1, tail))
          | inr q ↦ inr (omega (arith, p.0, q.0, tail), omega (arith, p.0, q.1, tail))
        ])
        ∙ ap (take n) (sym (drop-append-le f xs ys p.1))
    | inr p ↦
        let none : b ≡ 0 = elim cut [ inl q ↦ omega (arith, p.0, q.0, q.1) | inr q ↦ omega (arith, p.0, q.0) ] in
        let all : n - b ≡ n = omega (arith, none) in
        let from : length xs + (f - length xs) ≡ f = omega (arith, p.1) in
        ap₂ (λ (i j : ℕ). take i (drop s xs) ++ take j (drop (f - s) ys)) none all
        ∙ ap (λ (i : ℕ). take n (drop (f - i) ys)) p.0
        ∙ ap (take n) (sym (drop-append-add xs ys (f - length xs)) ∙ ap (λ (k : ℕ). drop k (xs ++ ys)) from)
  ]

  -- the first b items of a list are replaced by xs, and then those after them by ys
  pub both_put : (to xs ys : List A) (b : ℕ) → length xs ≡ b
      → take b (xs ++ drop b to) ++ (ys ++ drop (length (xs ++ drop b to) - b) (drop b (xs ++ drop b to))) ≡ xs ++ ys
  both_put to xs ys b long =
      let once : List A = xs ++ drop b to in
      let whole : length once ≡ b + length (drop b to) = length-append xs (drop b to) ∙ ap (λ (k : ℕ). k + length (drop b to)) long in
      let front : take b once ≡ xs = ap (λ (k : ℕ). take k once) (sym long) ∙ take-append_seam xs (drop b to) in
      let end : b + (length once - b) ≡ length once = omega (arith, whole) in
      let none : drop (length once - b) (drop b once) ≡ [] = drop-drop (length once - b) b once ∙ ap (λ (k : ℕ). drop k once) end ∙ drop-length once in
      ap₂ (λ (zs r : List A). zs ++ (ys ++ r)) front none ∙ ap (λ (zs : List A). xs ++ zs) (append-nil ys)

  pub read_two : (cells : List A) (s j n cell b : ℕ) → s ≤ length cells → j + n ≤ length cells → IsAt (length cells) s j cell
      → IsFirst n (length cells - cell) b → take b (drop cell cells) ++ take (n - b) cells ≡ take n (drop j (ring s cells))
  read_two cells s j n cell b inside fits at cut =
      let low : List A = take s cells in
      let high : List A = drop s cells in
      let low_is : length low ≡ s = length-take-le s cells inside in
      let high_is : length high ≡ length cells - s = length-drop s cells in
      let tail : length (drop cell cells) ≡ length cells - cell = length-drop cell cells in
      elim at [
        | inl p ↦
            let same : s + j ≡ cell = sym p.0 in
            let dropped : drop j (ring s cells) ≡ drop cell cells ++ low =
            drop-append-le j high low (omega (arith, p.0, p.1, high_is))
            ∙ ap (λ (xs : List A). xs ++ low) (drop-drop j s cells ∙ ap (λ (k : ℕ). drop k cells) same) in
            let both : take b (drop cell cells) ++ take (n - b) low ≡ take n (drop cell cells ++ low) = take_both (drop cell cells) low n b (elim cut [
              | inl q ↦ inl (q.0, omega (arith, q.1, tail))
              | inr q ↦ inr (omega (arith, q.0, tail), omega (arith, q.1, tail))
            ]) in
            let few : n - b ≤ s = elim cut [ inl q ↦ omega (arith, q.0) | inr q ↦ omega (arith, q.0, p.0, p.1, fits) ] in
            ap (λ (xs : List A). take b (drop cell cells) ++ xs) (sym (take-take (n - b) s cells few)) ∙ both ∙ ap (take n) (sym dropped)
        | inr p ↦
            let all : b ≡ n = elim cut [ inl q ↦ q.0 | inr q ↦ omega (arith, q.0, q.1, p, fits, inside) ] in
            let none : n - b ≡ 0 = omega (arith, all) in
            let from : j ≡ length high + cell = omega (arith, p, high_is, inside) in
            let upto : cell + (s - cell) ≡ s = omega (arith, p, fits) in
            let dropped : drop j (ring s cells) ≡ drop cell low = ap (λ (k : ℕ). drop k (high ++ low)) from ∙ drop-append-add high low cell in
            let rest : drop cell low ≡ take (s - cell) (drop cell cells) =
            ap (λ (k : ℕ). drop cell (take k cells)) (sym upto) ∙ drop-take cell (s - cell) cells in
            ap₂ (λ (a k : ℕ). take a (drop cell cells) ++ take k cells) all none ∙ append-nil (take n (drop cell cells))
            ∙ sym (ap (take n) (dropped ∙ rest) ∙ take-take n (s - cell) (drop cell cells) (omega (arith, p, fits)))
      ]

  -- the cells after these values were written from a cell on, the first b of them before the end
  abbrev pub written : (cells values : List A) (cell b : ℕ) → List A
  written cells values cell b = replaced (replaced cells cell (cell + b) (take b values)) 0 (length values - b) (drop b values)

  -- these values can be written after n of the ring order from s on
  pub record MayWrite (cells values : List A) (s n cell b : ℕ) : Type 0 where
    pub inside : s ≤ length cells
    pub fits : n + length values ≤ length cells
    pub at : IsAt (length cells) s n cell
    pub cut : IsFirst (length values) (length cells - cell) b

  -- so the pieces lie apart from what is kept
  record LieApart (cells values : List A) (s cell b : ℕ) : Type 0 where
    pub ends : cell + b ≤ length cells
    pub some : b ≤ length values
    pub before_start : length values - b ≤ s
    pub before_cell : length values - b ≤ cell

  apart : (cells values : List A) (s n cell b : ℕ) → MayWrite cells values s n cell b → LieApart cells values s cell b
  apart cells values s n cell b m = elim m.at [
    | inl p ↦ elim m.cut [
      | inl q ↦ record {
        ends = omega (arith, p.1, q.0, q.1);
        some = omega (arith, q.0);
        before_start = omega (arith, q.0);
        before_cell = omega (arith, q.0);
      }
      | inr q ↦ record {
        ends = omega (arith, p.1, q.0);
        some = omega (arith, q.0, q.1);
        before_start = omega (arith, p.0, p.1, q.0, m.fits);
        before_cell = omega (arith, p.0, p.1, q.0, m.fits);
      }
    ]
    | inr p ↦ elim m.cut [
      | inl q ↦ record {
        ends = omega (arith, p, q.0, m.fits, m.inside);
        some = omega (arith, q.0);
        before_start = omega (arith, q.0);
        before_cell = omega (arith, q.0);
      }
      | inr q ↦ record {
        ends = omega (arith, p, q.0, m.fits, m.inside);
        some = omega (arith, q.0, q.1);
        before_start = omega (arith, p, q.0, q.1, m.fits, m.inside);
        before_cell = omega (arith, p, q.0, q.1, m.fits, m.inside);
      }
    ]
  ]

  pub length_written : (cells values : List A) (s n cell b : ℕ) → MayWrite cells values s n cell b → length (written cells values cell b) ≡ length cells
  length_written cells values s n cell b m =
      let l : LieApart cells values s cell b = apart cells values s n cell b m in
      let once : List A = replaced cells cell (cell + b) (take b values) in
      let first : length (take b values) ≡ b = length-take-le b values l.some in
      let long : length once ≡ length cells = length_replaced cells cell (cell + b) (take b values) (omega (arith, first)) l.ends in
      length_replaced once 0 (length values - b) (drop b values) (omega (arith, length-drop b values)) (omega (arith, long, l.before_start, m.inside)) ∙ long

  -- what is kept, and then the values
  pub written_two : (cells values : List A) (s n cell b : ℕ) → MayWrite cells values s n cell b
      → take (n + length values) (ring s (written cells values cell b)) ≡ take n (ring s cells) ++ values
  written_two cells values s n cell b m =
      let l : LieApart cells values s cell b = apart cells values s n cell b m in
      let v : ℕ = length values in
      let k : ℕ = v - b in
      let once : List A = replaced cells cell (cell + b) (take b values) in
      let new : List A = written cells values cell b in
      let first : length (take b values) ≡ b = length-take-le b values l.some in
      let second : 0 + length (drop b values) ≡ k = omega (arith, length-drop b values) in
      let upto : cell + length (take b values) ≡ cell + b = omega (arith, first) in
      let long : length once ≡ length cells = length_replaced cells cell (cell + b) (take b values) upto l.ends in
      let low : k ≤ length once = omega (arith, long, l.before_start, m.inside) in
      let same : length new ≡ length cells = length_written cells values s n cell b m in
      let one : take b (drop cell new) ≡ take b values =
      kept_behind once 0 k cell b (drop b values) second low l.before_cell ∙ ap (λ (x : ℕ). take x (drop cell once)) (sym first)
      ∙ new_there cells cell (cell + b) (take b values) upto l.ends in
      let two : take k new ≡ drop b values =
      ap (λ (x : ℕ). take x new) (sym (length-drop b values)) ∙ new_there once 0 k (drop b values) second low in
      let now : take v (drop n (ring s new)) ≡ values =
      sym (read_two new s n v cell b (omega (arith, m.inside, same)) (omega (arith, m.fits, same))
      (subst (λ (x : ℕ). IsAt x s n cell) (sym same) m.at) (subst (λ (x : ℕ). IsFirst v (x - cell) b) (sym same) m.cut))
      ∙ ap₂ (λ (xs ys : List A). xs ++ ys) one two ∙ take-append-drop b values in
      let old : take n (ring s new) ≡ take n (ring s cells) = elim m.at [
        | inl p ↦
            let here : (xs : List A) → length xs ≡ length cells → take n (drop s xs) ++ take (n - n) xs ≡ take n (ring s xs) =
            λ xs e. read_two xs s 0 n s n (omega (arith, m.inside, e)) (omega (arith, m.fits, e)) (inl (omega arith, omega (arith, m.inside, e)))
            (inl (refl, omega (arith, p.0, p.1, e))) in
            let none : n - n ≡ 0 = omega arith in
            sym (here new same)
            ∙ ap₂ (λ (xs ys : List A). xs ++ ys) (kept_behind once 0 k s n (drop b values) second low l.before_start
            ∙ kept_before cells cell (cell + b) s n (take b values) upto l.ends (omega (arith, p.0)))
            (ap (λ (x : ℕ). take x new) none ∙ ap (λ (x : ℕ). take x cells) (sym none))
            ∙ here cells refl
        | inr p ↦
            let c : ℕ = length cells - s in
            let here : (xs : List A) → length xs ≡ length cells → take c (drop s xs) ++ take (n - c) xs ≡ take n (ring s xs) =
            λ xs e. read_two xs s 0 n s c (omega (arith, m.inside, e)) (omega (arith, m.fits, e)) (inl (omega arith, omega (arith, m.inside, e)))
            (inr (omega (arith, e), omega (arith, p, e, m.inside))) in
            let zero : k ≡ 0 = elim m.cut [ inl q ↦ omega (arith, q.0) | inr q ↦ omega (arith, p, q.0, q.1, m.fits, m.inside) ] in
            sym (here new same)
            ∙ ap₂ (λ (xs ys : List A). xs ++ ys)
            (kept_behind once 0 k s c (drop b values) second low l.before_start
            ∙ kept_behind cells cell (cell + b) s c (take b values) upto l.ends (omega (arith, p, l.some, m.fits)))
            (kept_behind once 0 k 0 (n - c) (drop b values) second low (omega (arith, zero))
            ∙ kept_before cells cell (cell + b) 0 (n - c) (take b values) upto l.ends (omega (arith, p)))
            ∙ here cells refl
      ] in
      take-add n v (ring s new) ∙ ap₂ (λ (xs ys : List A). xs ++ ys) old now
