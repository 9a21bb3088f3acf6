use Rattle.std.proofs.Common.{◌≡◌, ◌+◌, ◌-◌, ◌≤◌, ◌++◌, ℕ, ℤ, List, length, take, drop, ap, ap₂, ◌∙◌, arith}
use Rattle.std.proofs.lemmas.Bool.{cases_lt}
use Rattle.std.proofs.lemmas.List.{length-drop, length-take-le}
use mathlib.Core.Logic.{inl, inr}
use Rattle.fv_lines.proofs.Pieces.{IsAt, IsFirst, read_two, both_put, first_is, at_of}
use Rattle.fv_lines.proofs.flat.get_many.Goals as goal

pub returns-clause-samples : goal.returns-clause-samples
returns-clause-samples c =
    let cells : List ℤ = c.args.cells.now in
    let n : ℕ = length c.args.to.now in
    let h : ℕ = c.args.shape.now.history in
    let s : ℕ = c.args.origin - h in
    let j : ℕ = h + c.args.index - c.args.back in
    let cell : ℕ = c.cell-first.result in
    let b : ℕ = c.min-before.result in
    let size : length cells ≡ c.args.shape.now.len = c.requires.begun.0 in
    let placed = c.requires.begun.1 in
    let sum : c.args.origin + c.args.index - c.args.back ≡ s + j = omega (arith, placed.behind, c.requires.there) in
    let inside : s ≤ length cells = elim (cases_lt 16 h) [
      | inl large ↦ omega (arith, placed.ring large, placed.behind, size)
      | inr small ↦ omega (arith, placed.copied small)
    ] in
    let at : IsAt (length cells) s j cell = at_of h (length cells) s j (c.args.origin + c.args.index - c.args.back) cell sum
    (λ small. (c.cell-first.ensures.copied small, omega (arith, c.requires.room, placed.copied small, size)))
    (λ large. elim (c.cell-first.ensures.ring large) [ inl p ↦ inl (p.0, omega (arith, p.1, size)) | inr p ↦ inr (omega (arith, p, size)) ]) in
    let cut : IsFirst n (length cells - cell) b = first_is n (length cells - cell) b c.min-before.ensures in
    let few : b ≤ length (drop cell cells) = elim cut [
      | inl p ↦ omega (arith, p.0, p.1, length-drop cell cells)
      | inr p ↦ omega (arith, p.0, length-drop cell cells)
    ] in
    let one : c.copy_from_slice.new.self ≡ take b (drop cell cells) =
    c.copy_from_slice.ensures.after ∙ ap (λ (k : ℕ). take k (drop cell cells)) (let e : cell + b - cell ≡ b = omega arith in e) in
    both_put c.args.to.now c.copy_from_slice.new.self c.copy_if_some.new.to b (ap length one ∙ length-take-le b (drop cell cells) few)
    ∙ ap₂ (λ (xs ys : List ℤ). xs ++ ys) one c.copy_if_some.ensures
    ∙ read_two cells s j n cell b inside (omega (arith, c.requires.room, c.requires.there, size)) at cut
