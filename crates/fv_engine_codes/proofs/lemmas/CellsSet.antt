-- One cells of a loop, among the cells by their numbers.
use Rattle.std.proofs.Common.{◌≡◌, ◌≢◌, inl, inr, ℕ, ◌<◌, List, [], length, get_or, set, sym, ap, ◌∙◌, subst, arith, ℤ, ◌==◌}
use Rattle.std.proofs.Common.{eq-eqb, ne_eqb}
use Rattle.std.specs.Prelude.{slice_index, if◌then◌else◌}
use Rattle.std.proofs.lemmas.Bool.{cases_eq, cases_lt, cond-true, cond-false}
use Rattle.std.proofs.lemmas.List.{get_or_past, get_or-set_same, get_or-set_other, length-set}
use Rattle.fv_base.specs.headline.Lists.{table}
use Rattle.fv_base.proofs.lemmas.Lists.{table_same, length_table, get_or_table, table_items}
use Rattle.fv_loopcode.specs.headline.State.{list_at}
use Rattle.fv_loopcode.specs.Code.{HasItems}
use Rattle.fv_split_plan.specs.headline.View.{PlanView, cells_info}
use Rattle.fv_engine_codes.specs.Cells.{ArePlaced, by_number}

-- a list that has items is there
pub there_of : (lists : List (List ℤ)) (k : ℕ) → 0 < length (list_at lists k) → k < length lists
there_of lists k some = elim (cases_lt k (length lists)) [
  | inl low ↦ low
  | inr high ↦ absurd (let z = ap length (get_or_past lists k [] high) in omega (arith, z, some))
]

module _ (p : PlanView) (places : List ℕ) (j : ℕ) where
  abbrev owner : ℕ → ℕ
  owner k = (cells_info p k).owner

  abbrev place : ℕ → ℕ
  place k = slice_index places k

  abbrev item : List (List ℤ) → ℕ → List ℤ
  item lists k = if owner k == j then list_at lists (place k) else []

  at_number : (lists : List (List ℤ)) (k : ℕ) → k < length p.cells → list_at (by_number p places j lists) k ≡ item lists k
  at_number lists k l = get_or_table (length p.cells) (item lists) k [] l

  own_item : (lists : List (List ℤ)) (k : ℕ) → owner k ≡ j → item lists k ≡ list_at lists (place k)
  own_item lists k e = cond-true (owner k == j) (list_at lists (place k)) [] (eq-eqb (owner k) j e)

  other_item : (lists : List (List ℤ)) (k : ℕ) → owner k ≢ j → item lists k ≡ []
  other_item lists k n = cond-false (owner k == j) (list_at lists (place k)) [] (ne_eqb (owner k) j n)

  -- the loop's own cells
  pub own_at : (lists : List (List ℤ)) (k : ℕ) → k < length p.cells → owner k ≡ j → list_at (by_number p places j lists) k ≡ list_at lists (place k)
  own_at lists k l e = at_number lists k l ∙ own_item lists k e

  -- cells that have items are the loop's own
  pub record IsHere (lists : List (List ℤ)) (k : ℕ) : Type 0 where
    pub there : k < length p.cells
    pub owned : (cells_info p k).owner ≡ j
    pub items : HasItems lists (slice_index places k)

  pub here : (lists : List (List ℤ)) (k : ℕ) → HasItems (by_number p places j lists) k → IsHere lists k
  here lists k h =
      let l : k < length p.cells = omega (arith, h.0, length_table (length p.cells) (item lists)) in
      elim (cases_eq (owner k) j) [
        | inl e ↦
            let some : 0 < length (list_at lists (place k)) = subst (λ (xs : List ℤ). 0 < length xs) (own_at lists k l e) h.1 in
            record { there = l; owned = e; items = (there_of lists (place k) some, some) }
        | inr n ↦ absurd (let z = ap length (at_number lists k l ∙ other_item lists k n) in omega (arith, z, h.1))
      ]

  module _ (counts : List ℕ) (placed : ArePlaced p places counts) (lists : List (List ℤ)) (k : ℕ) (x : List ℤ) (h : IsHere lists k) where
    abbrev old : List (List ℤ)
    old = by_number p places j lists

    abbrev new : List (List ℤ)
    new = set lists (place k) x

    other_same : (i : ℕ) → i < length p.cells → i ≢ k → item new i ≡ item lists i
    other_same i l n = elim (cases_eq (owner i) j) [
      | inl e ↦ own_item new i e ∙ get_or-set_other lists (place k) (place i) x [] (λ q. n (placed.apart i k l h.there (e ∙ sym h.owned) q))
          ∙ sym (own_item lists i e)
      | inr m ↦ other_item new i m ∙ sym (other_item lists i m)
    ]

    each_same : (i : ℕ) → i < length p.cells → item new i ≡ get_or (set old k x) i []
    each_same i l = elim (cases_eq i k) [
      | inl e ↦
          let inside : k < length old = omega (arith, h.there, length_table (length p.cells) (item lists)) in
          ap (item new) e ∙ own_item new k h.owned ∙ get_or-set_same lists (place k) x [] h.items.0
          ∙ sym (ap (λ (m : ℕ). get_or (set old k x) m []) e ∙ get_or-set_same old k x [] inside)
      | inr n ↦ other_same i l n ∙ sym (get_or-set_other old k i x [] n ∙ at_number lists i l)
    ]

    -- where its list changes, its cells do, and no others
    pub set_number : by_number p places j new ≡ set old k x
    set_number =
        let long : length (set old k x) ≡ length p.cells = length-set old k x ∙ length_table (length p.cells) (item lists) in
        table_same (length p.cells) (item new) (λ i. get_or (set old k x) i []) each_same
        ∙ ap (λ (n : ℕ). table n (λ i. get_or (set old k x) i [])) (sym long) ∙ table_items (set old k x) []
