-- What calls say beside `headline/Lines`: one row for each refusal, and the line that a run appends to the report (this project's profile).
use Rattle.std.specs.Prelude.{ℕ}
use Rattle.fv_top_report.specs.declared.refusal.Refusal.{Refusal}
use Rattle.fv_top_report.specs.declared.status.Status.{Status}
use Rattle.fv_top_report.specs.declared.status.Status.TheVariants.{Done, Refused}
use Rattle.fv_top_report.specs.headline.Lines.{row_of}

-- ---- exit statuses

-- the run is done
abbrev pub done_status : ℕ
done_status = 0

-- ---- the rows

-- the exit status of a refusal
abbrev pub status_of : Refusal → ℕ
status_of refusal = (row_of refusal).status

-- the exit status of a run
abbrev pub exit_status : Status → ℕ
exit_status (Done tally) = done_status
exit_status (Refused refusal) = status_of refusal
