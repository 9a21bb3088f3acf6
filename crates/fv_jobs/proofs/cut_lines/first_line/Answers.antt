use Rattle.fv_jobs.proofs.Lines.{first_some, first_none}
use Rattle.fv_jobs.proofs.cut_lines.first_line.Goals as goal

pub returns-in-Some-clause-line : goal.returns-in-Some-clause-line
returns-in-Some-clause-line c = first_some _ _ c.in-Some.ensures.place

pub returns-in-None-clause-line : goal.returns-in-None-clause-line
returns-in-None-clause-line c = first_none _ c.in-None.ensures.place c.requires
