use Rattle.std.proofs.Common.{◌-◌, [], get_or, sym, ap, ◌∙◌, arith}
use Rattle.fv_graph.specs.Ends.{back_of}
use Rattle.fv_graph.proofs.lemmas.Places.{back_gives, get_map}
use Rattle.fv_graph.proofs.by_worker.back.Goals as goal

pub returns : goal.returns
returns c = let d = c.index-deques-w.result in
    c.copied.ensures
    ∙ back_gives d.items c.back.result c.back.ensures.item.0 (λ k. c.back.ensures.item.4 (omega arith) k ∙ ap (λ n. get_or d.items (n - 1) k) d.ok.0)
    ∙ ap back_of (ap (λ q. q.items) c.index-deques-w.is ∙ sym (get_map (λ q. q.items) c.args.deques.now c.args.w d [] c.requires))
