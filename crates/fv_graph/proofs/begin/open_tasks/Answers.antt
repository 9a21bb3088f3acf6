use Rattle.std.proofs.Common.{ℕ, ◌++◌, ◌∷◌, [], map, false, sym, ap, ◌∙◌, arith}
use Rattle.fv_graph.specs.Net.{need_count}
use Rattle.fv_graph.specs.Graph.{net_of}
use Rattle.fv_graph.specs.Core.{numbers}
use Rattle.fv_graph.proofs.lemmas.Dealing.{one_more, numbers_more}
use Rattle.fv_graph.proofs.begin.open_tasks.Goals as goal

pub loop-t-preserved : goal.loop-t-preserved
loop-t-preserved c =
    let i = c.loop-t.invariant in let t = c.loop-t.t in
    let f : ℕ → ℕ = need_count (net_of c.args.tasks.now.tasks) in
    let a = c.push_reserved.ensures.len in let b = c.push_reserved-in-loop-t.ensures.len in
    let p = c.push_reserved.ensures.capacity in let q = c.push_reserved-in-loop-t.ensures.capacity in
    let il = i.counts_long in let dl = i.done_long in let ir = i.counts_room in let dr = i.done_room in
    record {
      counts = c.push_reserved.ensures.items ∙ ap (λ l. l ++ c.count.result ∷ []) i.counts ∙ ap (λ k. map f (numbers t) ++ k ∷ []) c.count.ensures
          ∙ sym (numbers_more f t);
      done = c.push_reserved-in-loop-t.ensures.items ∙ ap (λ l. l ++ false ∷ []) i.done ∙ sym (one_more t false);
      counts_long = omega arith;
      done_long = omega arith;
      counts_room = p ∙ ir;
      done_room = q ∙ dr;
    }
