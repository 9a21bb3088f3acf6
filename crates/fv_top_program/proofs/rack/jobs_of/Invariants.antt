use Rattle.std.proofs.Common.{◌≡◌, length, take}
use Rattle.fv_top_program.proofs.RackJobs.{Each, parts_in}
use Rattle.fv_top_program.proofs.rack.jobs_of.Given as goal

abbrev pub invariant-loop-read : goal.invariant-loop-read
invariant-loop-read l = record {
  long : length l.jobs.items ≡ l.read-index;
  each : Each l.jobs.items (parts_in (take l.read-index l.reads));
}
