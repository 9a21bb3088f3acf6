use Rattle.std.proofs.Common.{◌≡◌, ◌++◌, take}
use Rattle.fv_jobs.specs.headline.Labels.{labelled}
use Rattle.fv_jobs.proofs.labels.append_controls.Given as goal

-- the controls so far are there
abbrev pub invariant-loop-control : goal.invariant-loop-control
invariant-loop-control l = l.all.items ≡ l.initial.all.items ++ labelled l.job (take l.control-index l.controls)
