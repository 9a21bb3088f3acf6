use Rattle.std.proofs.Common.{◌≡◌, map, take}
use Rattle.fv_jobs.specs.headline.Labels.{controls_from}
use Rattle.fv_top_program.proofs.lemmas.Sums.{own}
use Rattle.fv_top_program.specs.Reads.{programs_in}
use Rattle.fv_top_program.proofs.rack.controls_of.Given as goal

abbrev pub invariant-loop-job : goal.invariant-loop-job
invariant-loop-job l = l.controls.items ≡ controls_from 0 (map own (programs_in (take l.job l.reads)))
