use Rattle.std.proofs.Common.{◌≡◌, [], length, replicate, ap, ◌∙◌, arith, vec_len}
use Rattle.std.proofs.lemmas.List.{length-map}
use Rattle.fv_graph.specs.Kept.{owed_of}
use Rattle.fv_graph.proofs.lemmas.Dealing.{all_empty}
use Rattle.fv_graph.proofs.begin.clear_lists.Goals as goal

pub returns-clause-empty : goal.returns-clause-empty
returns-clause-empty c =
    let long = length-map c.loop-w.lists.items (λ v. v.items) in
    let o = c.loop-w.lists.ok.0 in let w = c.loop-w.invariant.2 in let e = c.loop-w-test.false in
    let n : length (owed_of c.loop-w.lists.items) ≡ vec_len c.args.lists.now = omega arith in
    all_empty (owed_of c.loop-w.lists.items) (λ v l. c.loop-w.invariant.0 v (omega arith)) ∙ ap (λ k. replicate k []) n
