use Rattle.std.proofs.Common.{List, sym, ◌∙◌, subst}
use Rattle.fv_engine_render.specs.headline.Plans.{IsGraphOf}
use Rattle.fv_engine_render.specs.SideBySide.{AreJobsOf}
use Rattle.fv_compile.specs.declared.job.Job.{Job}
use Rattle.fv_propagate.specs.Interval.{Interval}
use Rattle.fv_top_program.specs.headline.Compiled.{Compiled}
use Rattle.fv_top_program.specs.headline.Racks.{rack_of}
use Rattle.fv_top_program.specs.Reads.{programs_in}
use Rattle.fv_top_program.proofs.lemmas.Sums.{inputs_all, outputs_all, spans_are}
use Rattle.fv_top_program.proofs.RackJobs.{all_joined, parts_in}
use Rattle.fv_top_program.proofs.rack.rack.Goals as goal

pub join-requires : goal.join-requires
join-requires c =
    let rs = c.args.reads.now in
    let are = subst (λ (js : List Job). AreJobsOf js (parts_in rs)) (sym c.deref.ensures.value) c.in_ok-jobs.ensures in
    all_joined rs c.deref.result.now c.requires.read c.requires.few are

pub returns : goal.returns
returns c =
    let rs = c.args.reads.now in
    let ps = programs_in rs in
    let p : Compiled = rack_of ps in
    let f = c.in_ok-graph.graph in
    let are = subst (λ (js : List Job). AreJobsOf js (parts_in rs)) (sym c.deref.ensures.value) c.in_ok-jobs.ensures in
    let whole = c.parts_are_whole.ensures in
    let graph = c.joined_is_graph.ensures f c.deref.result.now (parts_in rs) are c.in_ok-graph.ensures in
    record {
      plays = c.requires.plays;
      graph = subst (λ (ss : List Interval). IsGraphOf p.diagram ss f) (sym (spans_are 0 ps)) graph;
      inputs = c.arity_of-arity.ensures.inputs ∙ inputs_all rs c.requires.read whole;
      outputs = c.arity_of-arity.ensures.outputs ∙ outputs_all rs c.requires.read whole;
      controls = c.in_ok-controls.ensures;
    }
