use Rattle.std.proofs.Common.{◌<◌, ◌++◌, List, length, ap, ap₂, ◌∙◌, arith}
use Rattle.fv_diagram.specs.declared.control.ControlInfo.{ControlInfo}
use Rattle.fv_jobs.specs.headline.Labels.{labelled}
use Rattle.fv_top_program.specs.declared.programs.Read.{Read}
use Rattle.fv_top_program.proofs.RackJobs.{controls_more}
use Rattle.fv_top_program.proofs.rack.controls_of.Goals as goal

pub loop-job-preserved : goal.loop-job-preserved
loop-job-preserved c =
    let rs = c.args.reads.now in
    let at = c.loop-job in
    let read = c.index-reads-job.result in
    let left = c.loop-job-test.true in
    let here : at.job < length rs = omega arith in
    let own = c.as_slice.ensures ∙ ap (λ (r : Read). r.program.controls) c.read.view_is in
    c.in_ok-append_controls.ensures
    ∙ ap₂ (λ (xs cs : List ControlInfo). xs ++ labelled at.job cs) at.invariant own
    ∙ controls_more rs at.job read here c.index-reads-job.is
