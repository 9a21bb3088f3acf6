use Rattle.std.proofs.Common.{replicate, ap, ◌∙◌, arith}
use Rattle.fv_graph.proofs.lemmas.Dealing.{all_same, set_more}
use Rattle.fv_graph.proofs.begin.set_all.Goals as goal

pub loop-i-preserved : goal.loop-i-preserved
loop-i-preserved g c = let o = c.loop-i.xs.ok.0 in let l = c.loop-i-test.true in let w = c.loop-i.invariant.1 in
    (set_more c.args.x c.loop-i.xs.items c.loop-i.i (omega arith) c.loop-i.invariant.0, omega arith)

pub returns : goal.returns
returns g c = let o = c.loop-i.xs.ok.0 in let l = c.loop-i-test.false in let w = c.loop-i.invariant.1 in
    all_same c.args.x c.loop-i.xs.items (λ k h. c.loop-i.invariant.0 k (omega arith)) ∙ ap (λ n. replicate n c.args.x) (omega arith)
