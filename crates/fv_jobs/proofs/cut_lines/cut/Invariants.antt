use Rattle.std.proofs.Common.{◌≡◌, ◌-◌, ◌≤◌, length, drop, map}
use Rattle.std.specs.Prelude.{slice_range}
use Rattle.fv_jobs.specs.headline.Jobs.{lines_in, jobs_in}
use Rattle.fv_jobs.proofs.Counting.{so_far}
use Rattle.fv_jobs.proofs.cut_lines.cut.Given as goal

-- the texts so far, and what is left with the bytes before it
abbrev pub invariant-lines : goal.invariant-lines
invariant-lines l = record {
  cut : so_far (map (λ t. t.now) l.texts.items) (slice_range l.bytes l.start l.at) (lines_in (drop l.at l.bytes)) ≡ jobs_in l.bytes;
  begun : l.start ≤ l.at;
  within : l.at ≤ length l.bytes;
}

abbrev pub decreases-lines : goal.decreases-lines
decreases-lines l = length l.bytes - l.at
