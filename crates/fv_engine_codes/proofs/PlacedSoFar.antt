-- The cells of a plan, while they get places.
use Rattle.std.proofs.Common.{◌≡◌, ◌≢◌, inl, inr, ℕ, ◌+◌, ◌<◌, ◌≤◌, List, [], ◌∷◌, ◌++◌, length, set, sym, ap, ◌∙◌, arith}
use Rattle.std.specs.Prelude.{slice_index}
use Rattle.std.proofs.lemmas.Bool.{cases_eq}
use Rattle.std.proofs.lemmas.List.{length_push, length-set, get_or_push, get_or_append_left, get_or-set_same, get_or-set_other}
use Rattle.fv_split_plan.specs.headline.View.{PlanView, cells_info}
use Rattle.fv_split_plan.specs.headline.Separated.{AsWritten}
use Rattle.fv_split_plan.specs.Plans.{IsPlan}
use Rattle.fv_engine_codes.specs.Cells.{ArePlaced}

-- the loop of cells
abbrev pub owner_of : PlanView → ℕ → ℕ
owner_of p k = (cells_info p k).owner

-- it is there
pub owner_there : (p : PlanView) → IsPlan p → (k : ℕ) → k < length p.cells → owner_of p k < p.loops
owner_there p plan k l =
    let s = plan.1.stands in
    let are = s.cells.are k l in
    let lane = s.lanes.all (s.names.cells k) (AsWritten (cells_info p k).table are.0 are.1 are.2 are.3) in
    let low = s.loops.owners lane.0 lane.1 in
    omega (arith, low, s.cells.owners k lane.0 l lane.1 lane.2)

-- the first n have places
pub record ArePlacedSoFar (p : PlanView) (n : ℕ) (places counts : List ℕ) : Type 0 where
  pub count : length places ≡ n
  pub loops : length counts ≡ p.loops
  pub few : (j : ℕ) → slice_index counts j ≤ n
  pub below : (k : ℕ) → k < n → slice_index places k < slice_index counts (owner_of p k)
  pub apart : (k m : ℕ) → k < n → m < n → owner_of p k ≡ owner_of p m → slice_index places k ≡ slice_index places m → k ≡ m

module _ (p : PlanView) (n : ℕ) (places counts : List ℕ) (x y : ℕ) (there : owner_of p n < p.loops) (is : x ≡ slice_index counts (owner_of p n))
    (more : y ≡ x + 1) (was : ArePlacedSoFar p n places counts) where
  abbrev r : ℕ
  r = owner_of p n

  inside : r < length counts
  inside = omega (arith, there, was.loops)

  here : slice_index (set counts r y) r ≡ y
  here = get_or-set_same counts r y 0 inside

  elsewhere : (j : ℕ) → j ≢ r → slice_index (set counts r y) j ≡ slice_index counts j
  elsewhere j m = get_or-set_other counts r j y 0 m

  last : slice_index (places ++ x ∷ []) n ≡ x
  last = get_or_push places x 0 n was.count

  first : (k : ℕ) → k < n → slice_index (places ++ x ∷ []) k ≡ slice_index places k
  first k l = get_or_append_left places (x ∷ []) 0 k (omega (arith, l, was.count))

  below_same : (k : ℕ) → k < n → owner_of p k ≡ r → slice_index places k < x
  below_same k l e = omega (arith, was.below k l, ap (slice_index counts) e, is)

  -- one more has its place
  pub one_placed : ArePlacedSoFar p (n + 1) (places ++ x ∷ []) (set counts r y)
  one_placed = record {
    count = omega (arith, length_push places x, was.count);
    loops = length-set counts r y ∙ was.loops;
    few = λ j. elim (cases_eq j r) [
      | inl e ↦ omega (arith, ap (slice_index (set counts r y)) e, here, is, more, was.few r)
      | inr m ↦ omega (arith, elsewhere j m, was.few j)
    ];
    below = λ k l. elim (cases_eq k n) [
      | inl e ↦ omega (arith, ap (slice_index (places ++ x ∷ [])) e, last, ap (λ (i : ℕ). slice_index (set counts r y) (owner_of p i)) e, here, more)
      | inr m ↦
          let low : k < n = omega (arith, l, m) in
          elim (cases_eq (owner_of p k) r) [
            | inl e ↦ omega (arith, first k low, below_same k low e, ap (slice_index (set counts r y)) e, here, more)
            | inr q ↦ omega (arith, first k low, was.below k low, elsewhere (owner_of p k) q)
          ]
    ];
    apart = λ k m l j e q. elim (cases_eq k n) [
      | inl a ↦ elim (cases_eq m n) [
        | inl b ↦ a ∙ sym b
        | inr b ↦
            let low : m < n = omega (arith, j, b) in
            absurd (omega (arith, below_same m low (sym e ∙ ap (owner_of p) a), first m low, q, ap (slice_index (places ++ x ∷ [])) a, last))
      ]
      | inr a ↦
          let low : k < n = omega (arith, l, a) in
          elim (cases_eq m n) [
            | inl b ↦ absurd (omega (arith, below_same k low (e ∙ ap (owner_of p) b), first k low, q, ap (slice_index (places ++ x ∷ [])) b, last))
            | inr b ↦
                let far : m < n = omega (arith, j, b) in
                was.apart k m low far e (sym (first k low) ∙ q ∙ first m far)
          ]
    ];
  }

pub all_placed : (p : PlanView) (n : ℕ) (places counts : List ℕ) → n ≡ length p.cells → ArePlacedSoFar p n places counts → ArePlaced p places counts
all_placed p n places counts e was = record {
  count = was.count ∙ e;
  loops = was.loops;
  below = λ k l. was.below k (omega (arith, l, e));
  apart = λ k m l j. was.apart k m (omega (arith, l, e)) (omega (arith, j, e));
}
