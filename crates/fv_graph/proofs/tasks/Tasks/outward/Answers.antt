use Rattle.std.proofs.Common.{◌≡◌, ℕ, ◌+◌, ◌/◌, ◌%◌, ◌<◌, ap, ◌∙◌, arith, mod-lt}
use Rattle.fv_graph.proofs.lemmas.Ranges.{more_tasks, quotient_small, task_in}
use Rattle.fv_graph.specs.Graph.{outward}
use Rattle.fv_graph.specs.inner.Lists.{HasPart}
use Rattle.fv_graph.proofs.tasks.Tasks.outward.Goals as goal

pub list_at-requires : goal.list_at-requires
list_at-requires c =
    let t = c.args.t in let l = c.self.inside.loops in
    let low = quotient_small t c.self.inside.most l (more_tasks t c.self.inside.vectors c.self.inside.most l
    (task_in _ c.args.self.now t c.self.view_is c.requires) c.self.invariant.1) in
    let p = c.self.invariant.3.each (t / l) (t % l) low (mod-lt t c.self.invariant.0.some_loop) in
    let w = p.within in let m = mod-lt t c.self.invariant.0.some_loop in let n = c.self.invariant.3.long in record {
      there = omega arith;
      rises = p.rises;
      within = omega arith;
    }

pub returns : goal.returns
returns c =
    let t = c.args.t in let l = c.self.inside.loops in
    let low = quotient_small t c.self.inside.most l (more_tasks t c.self.inside.vectors c.self.inside.most l
    (task_in _ c.args.self.now t c.self.view_is c.requires) c.self.invariant.1) in
    c.list_at.ensures ∙ (c.self.invariant.3.each (t / l) (t % l) low (mod-lt t c.self.invariant.0.some_loop)).is
    ∙ ap (λ g. outward g.tasks t) c.self.view_is
