use Rattle.std.proofs.Common.{◌≡◌, ◌+◌, [], ◌∷◌, ◌++◌, map, ap, sym, ◌∙◌, arith}
use Rattle.fv_graph.specs.Graph.{net_of}
use Rattle.fv_graph.specs.Core.{numbers}
use Rattle.fv_graph.specs.Net.{need_count}
use Rattle.fv_ready.proofs.Dealing.{passing_next}
use Rattle.fv_ready.proofs.begin.words_of.Goals as goal

pub loop-t-preserved : goal.loop-t-preserved
loop-t-preserved c =
    let f = need_count (net_of c.args.tasks.now.tasks) in let t = c.loop-t.t in let inv = c.loop-t.invariant in let p = c.push_reserved-in-loop-t.ensures in (
      p.items ∙ ap (λ l. l ++ c.count.result ∷ []) inv.0 ∙ ap (λ k. 0 ∷ (map f (numbers t) ++ k ∷ []))
          (c.count.ensures ∙ ap f (let q : t ≡ 0 + t = omega arith in q)) ∙ ap (λ l. 0 ∷ l) (sym (passing_next f 0 t)),
      (let a = p.len in let b = inv.1 in omega arith),
      (let a = p.capacity in let b = inv.2 in omega arith),
    )
