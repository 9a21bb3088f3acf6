use Rattle.std.proofs.Common.{◌≡◌, ◌+◌, ◌-◌, ◌≤◌, ◌++◌, ℕ, ℤ, List, length, take, drop, ap, ◌∙◌, arith}
use Rattle.std.proofs.lemmas.List.{length-drop, length-take-le}
use mathlib.Core.Logic.{inl, inr}
use Rattle.fv_lines.proofs.Pieces.{IsFirst, first_is, two_lists, both_put}
use Rattle.fv_lines.proofs.seen.copy_pieces.Goals as goal

pub returns-clause-samples : goal.returns-clause-samples
returns-clause-samples c =
    let older : List ℤ = c.args.older.now in
    let newer : List ℤ = c.args.newer.now in
    let n : ℕ = length c.args.to.now in
    let f : ℕ = c.args.first in
    let s : ℕ = c.min-start.result in
    let b : ℕ = c.min-before.result in
    let at : IsFirst f (length older) s = first_is f (length older) s c.min-start.ensures in
    let cut : IsFirst n (length older - s) b = first_is n (length older - s) b c.min-before.ensures in
    let few : b ≤ length (drop s older) = elim cut [
      | inl p ↦ omega (arith, p.0, p.1, length-drop s older)
      | inr p ↦ omega (arith, p.0, length-drop s older)
    ] in
    let one : c.copy_if_some.new.to ≡ take b (drop s older) =
    c.copy_if_some.ensures ∙ ap (λ (k : ℕ). take k (drop s older)) (let e : s + b - s ≡ b = omega arith in e) in
    let two : c.copy_if_some-2.new.to ≡ take (n - b) (drop (f - s) newer) =
    c.copy_if_some-2.ensures ∙ ap (λ (k : ℕ). take k (drop (f - s) newer)) (let e : f - s + (n - b) - (f - s) ≡ n - b = omega arith in e) in
    both_put c.args.to.now c.copy_if_some.new.to c.copy_if_some-2.new.to b (ap length one ∙ length-take-le b (drop s older) few)
    ∙ ap (λ (xs : List ℤ). xs ++ c.copy_if_some-2.new.to) one ∙ ap (λ (xs : List ℤ). take b (drop s older) ++ xs) two
    ∙ two_lists older newer f n s b at cut
