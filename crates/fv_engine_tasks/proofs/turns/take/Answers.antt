use Rattle.std.proofs.Common.{◌≡◌, sym, ◌∙◌, subst}
use Rattle.fv_graph.specs.Graph.{net_of}
use Rattle.fv_graph.specs.Core.{after}
use Rattle.fv_graph.specs.Ready.{FindsReady}
use Rattle.fv_graph.specs.Running.{Running}
use Rattle.fv_graph.specs.declared.event.Event.TheVariants.{Take}
use Rattle.fv_engine_tasks.specs.Events.{Runs}
use Rattle.fv_engine_tasks.proofs.EventLemmas.{may_take, took, where_ok}
use Rattle.fv_engine_tasks.proofs.turns.take.Goals as goal

pub returns-clause-ready : goal.returns-clause-ready
returns-clause-ready c =
    let s = c.args.core.now.now in let legal = may_take (net_of c.args.tasks.now.tasks) s c.args.t c.requires.free c.requires.back in
    where_ok c.step.result (FindsReady c.args.tasks.now.tasks s (Take 0 c.args.t)) (c.step.ensures.legal ∙ legal) c.step.ensures.ready

pub returns-clause-runs : goal.returns-clause-runs
returns-clause-runs c =
    let old = c.args.core.now in let t = c.args.t in let n = net_of c.args.tasks.now.tasks in
    let legal = may_take n old.now t c.requires.free c.requires.back in
    let is = where_ok c.step.result (c.step.new.self ≡ record old { now = after n old.now (Take 0 t) }) (c.step.ensures.legal ∙ legal) c.step.ensures.ok in
    subst (λ (x : Running). Runs x.now t) (sym is) (took n old.now t c.requires.free)
