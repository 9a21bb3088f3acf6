use Rattle.std.proofs.Common.{length, ap, arith}
use Rattle.fv_graph.specs.Graph.{inward, outward}
use Rattle.fv_steal.proofs.Deals.{most_more}
use Rattle.fv_steal.proofs.crew_deques.most_edges.Goals as goal

pub loop-t-preserved : goal.loop-t-preserved
loop-t-preserved c = let g = c.args.tasks.now.tasks in let a = c.larger-both.ensures in let b = c.larger-most.ensures in
    let a0 = a.0 in let a1 = a.1 in let b0 = b.0 in let b1 = b.1 in let i = ap length c.inward.ensures in let o = ap length c.outward.ensures in record {
      most = most_more (λ t. length (inward g t)) (λ t. length (outward g t)) c.loop-t.t c.loop-t.most c.larger-most.result c.loop-t.invariant.most
          (omega arith) (omega arith) (omega arith);
    }
