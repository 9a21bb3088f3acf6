use Rattle.std.proofs.Common.{◌≡◌, [], length, replicate, ap, ◌∙◌, arith, vec_len}
use Rattle.std.proofs.lemmas.List.{length-map}
use Rattle.fv_graph.specs.Kept.{deques_of}
use Rattle.fv_graph.proofs.lemmas.Dealing.{all_empty}
use Rattle.fv_graph.proofs.begin.clear_deques.Goals as goal

pub returns-clause-empty : goal.returns-clause-empty
returns-clause-empty c =
    let long = length-map c.loop-w.deques.items (λ v. v.items) in
    let o = c.loop-w.deques.ok.0 in let w = c.loop-w.invariant.2 in let e = c.loop-w-test.false in
    let n : length (deques_of c.loop-w.deques.items) ≡ vec_len c.args.deques.now = omega arith in
    all_empty (deques_of c.loop-w.deques.items) (λ v l. c.loop-w.invariant.0 v (omega arith)) ∙ ap (λ k. replicate k []) n
