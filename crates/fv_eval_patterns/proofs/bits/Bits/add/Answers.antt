use Rattle.std.proofs.Common.{ℕ, ◌≡◌, ◌<◌, ◌/◌, List, length, true, sym, ap, subst, arith, ◌∙◌}
use Rattle.std.proofs.lemmas.List.{get_or_default}
use Rattle.std.specs.Prelude.{slice_index_or, slice_set, bit_or, ◌*◌, ◌%◌, ◌^◌}
use Rattle.fv_eval_patterns.specs.Bits.{has}
use Rattle.fv_eval_patterns.proofs.BitSets.{grown_has, set_has, set_keeps, with_bit}
use Rattle.fv_eval_patterns.proofs.bits.Bits.add.Goals as goal

pub grow-preserved : goal.grow-preserved
grow-preserved c = λ j h.
    subst (λ xs. has xs j ≡ true) (sym c.in_ok-push.ensures.items) (grown_has c.grow.self-inside.words.items j (c.grow.invariant j h))

-- the word that is set
word : (xs : List ℕ) (place n : ℕ) → n ≡ slice_index_or xs (place / 64) n → place / 64 < length xs
    → bit_or n (1 * 2 ^ (place % 64) % 2 ^ 64) ≡ with_bit xs place
word xs place n e l = ap (λ m. bit_or m (1 * 2 ^ (place % 64) % 2 ^ 64)) (e ∙ get_or_default xs (place / 64) n 0 l)

pub returns-clause-keeps : goal.returns-clause-keeps
returns-clause-keeps c = λ j h.
    let xs = c.grow.self-inside.words.items in
    let o = c.grow.self-inside.words.ok.0 in
    let l : c.args.place / 64 < length xs = omega (arith, o, c.grow-test.false, c.len.ensures) in
    subst (λ n. has (slice_set xs (c.args.place / 64) n) j ≡ true) (sym (word xs c.args.place c.index-word.result.now c.index-word.ensures l))
    (set_keeps xs c.args.place j l (c.grow.invariant j h))

pub returns-clause-added : goal.returns-clause-added
returns-clause-added c =
    let xs = c.grow.self-inside.words.items in
    let o = c.grow.self-inside.words.ok.0 in
    let l : c.args.place / 64 < length xs = omega (arith, o, c.grow-test.false, c.len.ensures) in
    subst (λ n. has (slice_set xs (c.args.place / 64) n) c.args.place ≡ true) (sym (word xs c.args.place c.index-word.result.now c.index-word.ensures l))
    (set_has xs c.args.place l)
