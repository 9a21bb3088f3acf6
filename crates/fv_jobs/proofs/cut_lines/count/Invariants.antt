use Rattle.std.proofs.Common.{◌≡◌, ◌+◌, ◌-◌, ◌≤◌, length, drop}
use Rattle.fv_jobs.specs.headline.Jobs.{lines_in, jobs_of, jobs_in}
use Rattle.fv_jobs.proofs.cut_lines.count.Given as goal

-- the separating lines so far, and the jobs of what is left
abbrev pub invariant-lines : goal.invariant-lines
invariant-lines l = record {
  counted : l.separators + length (jobs_of (lines_in (drop l.at l.bytes))) ≡ length (jobs_in l.bytes);
  few : l.separators ≤ l.at;
  within : l.at ≤ length l.bytes;
}

abbrev pub decreases-lines : goal.decreases-lines
decreases-lines l = length l.bytes - l.at
