use Rattle.std.proofs.Common.{◌≡◌, take, length, All, Ok}
use Rattle.fv_top_program.specs.headline.Racks.{EachIs}
use Rattle.fv_top_program.specs.Reads.{IsRead, programs_in}
use Rattle.fv_top_program.proofs.jobs.read_jobs.Given as goal

-- the texts so far are these programs
abbrev pub invariant-loop-job : goal.invariant-loop-job
invariant-loop-job l = record {
  each : EachIs 0 (take l.job l.jobs) (Ok (programs_in l.reads.items));
  read : All IsRead l.reads.items;
  long : length l.reads.items ≡ l.job;
}
