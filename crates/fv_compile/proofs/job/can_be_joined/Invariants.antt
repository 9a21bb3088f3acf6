use Rattle.std.proofs.Common.{◌≡◌, ◌<◌, ◌^◌, ℕ, take, get_or}
use Rattle.fv_compile.specs.declared.job.Job.{Job}
use Rattle.fv_compile.specs.Jobs.{ReadsWithin, inputs_of, controls_of}
use Rattle.fv_compile.proofs.job.can_be_joined.Given as goal

abbrev pub invariant-loop-job : goal.invariant-loop-job
invariant-loop-job l = record {
  reads : (k : ℕ) (d : Job) → k < l.job-index → (let j = get_or l.jobs k d in ReadsWithin j.inputs j.controls j.graph);
  inputs : l.inputs ≡ inputs_of (take l.job-index l.jobs);
  controls : l.controls ≡ controls_of (take l.job-index l.jobs);
  fit : (l.inputs < 2 ^ 32) × (l.controls < 2 ^ 32);
}
