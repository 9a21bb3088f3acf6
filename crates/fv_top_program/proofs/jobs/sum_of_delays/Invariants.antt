use Rattle.std.proofs.Common.{◌≡◌, take}
use Rattle.std.specs.Prelude.{sum}
use Rattle.std.specs.List.{sum_by}
use Rattle.fv_top_program.proofs.jobs.sum_of_delays.Given as goal

abbrev pub invariant-loop-read : goal.invariant-loop-read
invariant-loop-read l = l.sum ≡ sum_by (λ r. sum r.delays) (take l.read-index l.reads)
