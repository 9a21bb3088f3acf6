use Rattle.std.proofs.Common.{◌≡◌, ap, ◌∙◌, subst, [], replicate, vec_len}
use Rattle.std.proofs.lemmas.Result.{IfOk-weaker}
use Rattle.std.specs.Global.{Vec}
use Rattle.fv_graph.specs.Graph.{net_of}
use Rattle.fv_graph.specs.Core.{ready, dealt}
use Rattle.fv_steal.specs.declared.part.Part.{Part}
use Rattle.fv_steal.specs.inner.Made.{puts_of}
use Rattle.fv_steal.specs.inner.Assembled.{AreParts, AreCrewParts}
use Rattle.fv_steal.proofs.Together.{long_puts}
use Rattle.fv_steal.proofs.crew.crew_parts.Goals as goal

pub returns : goal.returns
returns g c =
    let t = c.args.tasks.now.tasks in let n = c.args.count in
    let ds0 = c.deal.new.deques.items in let ds = c.holds_of_all.new.deques.items in
    let long : vec_len c.in_ok-deques.deques ≡ n = c.in_ok-deques.deques.ok.0 ∙ long_puts c.in_ok-deques.deques.items n c.in_ok-deques.ensures.empty in
    IfOk-weaker c.parts_of.result (λ (ps : Vec (Part g.row.C.Denot)). AreParts c.len-2.result c.most_edges-most.result ds c.in_ok-all.all.items 0 ps.items)
    (λ (ps : Vec (Part g.row.C.Denot)). AreCrewParts t n ps.items)
    (λ ps parts. record {
      dealt_to = ds0;
      deques = ds;
      victims = c.in_ok-all.all.items;
      most = c.most_edges-most.result;
      puts = subst (λ k. puts_of ds0 ≡ dealt k 0 (ready (net_of t)) (replicate k [])) long c.deal.ensures.dealt;
      rests = c.deal.ensures.rests ∙ c.in_ok-deques.ensures.rests ∙ ap (λ k. replicate n (k, 0, [])) c.len.ensures.value;
      lent = c.in_ok-all.ensures.lent;
      edges = c.most_edges-most.ensures.most;
      parts = subst (λ k. AreParts k c.most_edges-most.result ds c.in_ok-all.all.items 0 ps.items) c.len-2.ensures.value parts;
    })
    c.parts_of.ensures.parts
