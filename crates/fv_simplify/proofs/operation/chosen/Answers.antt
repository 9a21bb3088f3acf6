use Rattle.std.proofs.Common.{◌≡◌, ◌<◌, ℕ, length, take, get_or, sym, ap, ap₂, ◌∙◌, arith}
use Rattle.std.proofs.lemmas.List.{get_or_default}
use Rattle.fv_num.specs.headline.Words.{inputs_of}
use Rattle.fv_simplify.specs.Choices.{choice, pair}
use Rattle.fv_simplify.specs.Nodes.{number_at, known}
use Rattle.fv_simplify.proofs.lemmas.Choices.{choice_within}
use Rattle.fv_share.specs.Drafts.{Draft}
use Rattle.fv_simplify.specs.Passing.{so_far, chosen}
use Rattle.fv_simplify.proofs.Numbers.{known_pair, inputs_most}
use Rattle.fv_simplify.proofs.operation.chosen.Goals as goal

pub returns-in-Some-clause-value : goal.returns-in-Some-clause-value
returns-in-Some-clause-value c =
    let b = c.args.builder.now in
    let op = c.args.op in
    let args = c.args.args in
    let place = c.in-Some.place in
    let long : length args ≡ 4 = omega arith in
    let first : c.number-first.result ≡ number_at (so_far b) (get_or args 0 0) =
    c.number-first.ensures ∙ ap (number_at (so_far b)) (get_or_default args 0 c.index-args-0.result 0 (omega (arith, long))) in
    let second : c.number-second.result ≡ number_at (so_far b) (get_or args 1 0) =
    c.number-second.ensures ∙ ap (number_at (so_far b)) (get_or_default args 1 c.index-args-1.result 0 (omega (arith, long))) in
    let same : choice op (pair c.number-first.result c.number-second.result) ≡ choice op (known (so_far b) (take (inputs_of op) args)) =
    ap₂ (λ x y. choice op (pair x y)) first second ∙ known_pair (so_far b) op args long in
    let chosen_is = c.in-Some.ensures ∙ same in
    let small : place < inputs_of op = choice_within op (known (so_far b) (take (inputs_of op) args)) place (sym chosen_is) in
    let within : place < length args = omega (arith, small, long, inputs_most op) in
    ap (λ i. let q : ℕ × Draft = (i, b) in q) (get_or_default args place c.index-args-place.result 0 within) ∙ ap (chosen b op args) chosen_is
