use Rattle.std.proofs.Common.{map}
use Rattle.std.specs.Prelude.{string_bytes}
use Rattle.fv_top.specs.inner.Running.{EndsRefused}
use Rattle.fv_base.specs.declared.role.Role.TheVariants.{Output}
use Rattle.fv_outside.proofs.lemmas.States.{told_before}
use Rattle.fv_top.proofs.Ran.{so_far_later}
use Rattle.fv_top.proofs.RackRuns.{plays_jobs}
use Rattle.fv_top.proofs.Refused.{ends_refused}
use Rattle.fv_top.proofs.Completing.{done_exact, done_strict, refused_exact, refused_strict, refused_complete}
use Rattle.fv_top.proofs.run.run_faustvec.Given.{Over}
use Rattle.fv_top.proofs.run.run_faustvec.Goals as goal
use Rattle.fv_top.proofs.run.run_faustvec.Goals.{After-refuse}

-- ---- a run that was refused

ends : (g : Over) (c : After-refuse g)
    → EndsRefused (map string_bytes c.args.words.now) (g.D.Desk.state c.args.desk.now) (g.D.Desk.state c.refuse.new.desk) c.in-Err.refusal
ends g c = ends_refused c.in-Err.ensures.stops c.refuse.ensures

pub returns-in-Err-clause-goes_on : goal.returns-in-Err-clause-goes_on
returns-in-Err-clause-goes_on g c = (ends g (goal.at.returns-in-Err-clause-goes_on g c).After-refuse).goes_on

pub returns-in-Err-clause-others : goal.returns-in-Err-clause-others
returns-in-Err-clause-others g c = (ends g (goal.at.returns-in-Err-clause-others g c).After-refuse).others

pub returns-in-Err-clause-cause : goal.returns-in-Err-clause-cause
returns-in-Err-clause-cause g c = (ends g (goal.at.returns-in-Err-clause-cause g c).After-refuse).cause

pub returns-in-Err-clause-so_far : goal.returns-in-Err-clause-so_far
returns-in-Err-clause-so_far g c =
    let line = c.refuse.ensures.appends in
    let on = c.in-Err.ensures.stops.goes_on in
    so_far_later (line.begins Output) (λ t. line.others (told_before on t) Output (λ e. absurd cc)) c.in-Err.ensures.so_far

pub returns-in-Err-clause-hands_on : goal.returns-in-Err-clause-hands_on
returns-in-Err-clause-hands_on g c = (ends g (goal.at.returns-in-Err-clause-hands_on g c).After-refuse).hands_on

pub returns-in-Err-clause-output : goal.returns-in-Err-clause-output
returns-in-Err-clause-output g c = (ends g (goal.at.returns-in-Err-clause-output g c).After-refuse).output

pub returns-in-Err-clause-cut : goal.returns-in-Err-clause-cut
returns-in-Err-clause-cut g c = (ends g (goal.at.returns-in-Err-clause-cut g c).After-refuse).cut

pub returns-in-Err-clause-report : goal.returns-in-Err-clause-report
returns-in-Err-clause-report g c = (ends g (goal.at.returns-in-Err-clause-report g c).After-refuse).report

pub returns-in-Err-clause-complete : goal.returns-in-Err-clause-complete
returns-in-Err-clause-complete g c =
    refused_complete (ends g (goal.at.returns-in-Err-clause-complete g c).After-refuse).cause.cause c.one_file.ensures.once

pub returns-in-Err-clause-exact : goal.returns-in-Err-clause-exact
returns-in-Err-clause-exact g c = refused_exact (ends g (goal.at.returns-in-Err-clause-exact g c).After-refuse).cause.cause

pub returns-in-Err-clause-strict : goal.returns-in-Err-clause-strict
returns-in-Err-clause-strict g c =
    refused_strict (ends g (goal.at.returns-in-Err-clause-strict g c).After-refuse).cause.cause c.one_file.ensures.once

-- ---- a run that is done

pub returns-clause-goes_on : goal.returns-clause-goes_on
returns-clause-goes_on g c = c.in-Ok.ensures.done.goes_on

pub returns-clause-others : goal.returns-clause-others
returns-clause-others g c = c.in-Ok.ensures.done.others

pub returns-clause-done : goal.returns-clause-done
returns-clause-done g c = c.in-Ok.ensures.done.played

pub returns-clause-jobs : goal.returns-clause-jobs
returns-clause-jobs g c = λ run asks rack t p. plays_jobs c.racks_are_jobs.ensures c.jobs_answer.ensures.answer rack p

pub returns-clause-exact : goal.returns-clause-exact
returns-clause-exact g c = done_exact c.in-Ok.tally c.in-Ok.ensures.done.played

pub returns-clause-strict : goal.returns-clause-strict
returns-clause-strict g c = done_strict c.in-Ok.tally c.one_file.ensures.once c.in-Ok.ensures.done.played
