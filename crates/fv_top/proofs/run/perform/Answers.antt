use Rattle.std.proofs.Common.{◌∙◌, Ok, map, sym, ap, refl, inr, ⊎_elim}
use Rattle.std.specs.Prelude.{string_bytes}
use Rattle.std.proofs.lemmas.Result.{err_from_is_err_and, IfOk-weaker, IfErr-weaker}
use Rattle.fv_top_words.specs.declared.command.Job.{Job as Jobs}
use Rattle.fv_top_words.specs.headline.Commands.{Playing, Checking, Making}
use Rattle.fv_top_words.specs.Views.{run_in as run_view, job_view}
use Rattle.fv_top.specs.headline.Promise.{Asks}
use Rattle.fv_top.proofs.Stopping.{stopped_usage, stopped_check, checked, stopped_make, made}
use Rattle.fv_top.proofs.Ran.{make_ran, make_so_far, untold_first, untold_words}
use Rattle.fv_top.proofs.run.perform.Given.{Over}
use Rattle.fv_top.proofs.run.perform.Goals as goal
use Rattle.fv_top.proofs.run.perform.Goals.{In-Run, In-Check, In-Make}

pub returns-in_err-job-clause-stops : goal.returns-in_err-job-clause-stops
returns-in_err-job-clause-stops g c =
    let p = err_from_is_err_and c.from_residual.result c.from_residual.ensures.1 in
    rw (p.1, p.2) (stopped_usage (map string_bytes c.args.words.now) (g.D.Desk.state c.args.desk.now) _ (sym c.in_err-job.ensures.job))

pub returns-in_err-job-clause-so_far : goal.returns-in_err-job-clause-so_far
returns-in_err-job-clause-so_far g c =
    let p = err_from_is_err_and c.from_residual.result c.from_residual.ensures.1 in
    rw (p.1, p.2) (untold_words (sym c.in_err-job.ensures.job) refl)

-- ---- a run

run_asked : (g : Over) (c : In-Run g) → Asks (map string_bytes c.args.words.now) (Playing (run_view c.in-Run.run'))
run_asked g c = sym c.in_ok-job.ensures.job ∙ ap (λ (j : Jobs). Ok (job_view j)) c.in-Run.is

pub returns-in-Run-clause-done : goal.returns-in-Run-clause-done
returns-in-Run-clause-done g c =
    let asks = run_asked g (goal.at.returns-in-Run-clause-done g c).In-Run in
    IfOk-weaker c.play_run.result _ _ (λ tally h. h _ asks) c.play_run.ensures.done

pub returns-in-Run-clause-blocks : goal.returns-in-Run-clause-blocks
returns-in-Run-clause-blocks g c =
    let asks = run_asked g (goal.at.returns-in-Run-clause-blocks g c).In-Run in
    IfOk-weaker c.play_run.result _ _ (λ tally h. h _ asks) c.play_run.ensures.blocks

pub returns-in-Run-clause-stops : goal.returns-in-Run-clause-stops
returns-in-Run-clause-stops g c =
    let asks = run_asked g (goal.at.returns-in-Run-clause-stops g c).In-Run in
    IfErr-weaker c.play_run.result _ _ (λ refusal h. h _ asks) c.play_run.ensures.stops

pub returns-in-Run-clause-so_far : goal.returns-in-Run-clause-so_far
returns-in-Run-clause-so_far g c =
    let asks = run_asked g (goal.at.returns-in-Run-clause-so_far g c).In-Run in
    IfErr-weaker c.play_run.result _ _ (λ refusal h. h _ asks) c.play_run.ensures.so_far

-- ---- a check

check_asked : (g : Over) (c : In-Check g) → Asks (map string_bytes c.args.words.now) (Checking c.in-Check.program.now)
check_asked g c = sym c.in_ok-job.ensures.job ∙ ap (λ (j : Jobs). Ok (job_view j)) c.in-Check.is

pub returns-in_err-check-in-Check-clause-stops : goal.returns-in_err-check-in-Check-clause-stops
returns-in_err-check-in-Check-clause-stops g c =
    let asks = check_asked g (goal.at.returns-in_err-check-in-Check-clause-stops g c).In-Check in
    let p = err_from_is_err_and c.from_residual-in_err-check-in-Check.result c.from_residual-in_err-check-in-Check.ensures.1 in
    rw (p.1, p.2) (stopped_check asks c.in_err-check-in-Check.ensures.stops)

pub returns-in_err-check-in-Check-clause-so_far : goal.returns-in_err-check-in-Check-clause-so_far
returns-in_err-check-in-Check-clause-so_far g c =
    let asks = check_asked g (goal.at.returns-in_err-check-in-Check-clause-so_far g c).In-Check in
    let p = err_from_is_err_and c.from_residual-in_err-check-in-Check.result c.from_residual-in_err-check-in-Check.ensures.1 in
    rw (p.1, p.2) (untold_first asks tt refl)

pub returns-in_ok-check-in-Check-clause-done : goal.returns-in_ok-check-in-Check-clause-done
returns-in_ok-check-in-Check-clause-done g c =
    checked (check_asked g (goal.at.returns-in_ok-check-in-Check-clause-done g c).In-Check) c.in_ok-check-in-Check.ensures.done

pub returns-in_ok-check-in-Check-clause-blocks : goal.returns-in_ok-check-in-Check-clause-blocks
returns-in_ok-check-in-Check-clause-blocks g c = record {
  job = Checking c.in-Check.program.now;
  asks = check_asked g (goal.at.returns-in_ok-check-in-Check-clause-blocks g c).In-Check;
  blocks = (refl, refl, refl, refl, refl);
}

-- ---- a make

make_asked : (g : Over) (c : In-Make g) → Asks (map string_bytes c.args.words.now) (Making c.in-Make.voices c.in-Make.frames c.in-Make.workers)
make_asked g c = sym c.in_ok-job.ensures.job ∙ ap (λ (j : Jobs). Ok (job_view j)) c.in-Make.is

pub returns-in_err-ran-in-Make-clause-stops : goal.returns-in_err-ran-in-Make-clause-stops
returns-in_err-ran-in-Make-clause-stops g c =
    let asks = make_asked g (goal.at.returns-in_err-ran-in-Make-clause-stops g c).In-Make in
    let p = err_from_is_err_and c.from_residual-in_err-ran-in-Make.result c.from_residual-in_err-ran-in-Make.ensures.1 in
    rw (p.1, p.2) (stopped_make asks c.in_err-ran-in-Make.ensures.stops)

pub returns-in_ok-ran-in-Make-clause-done : goal.returns-in_ok-ran-in-Make-clause-done
returns-in_ok-ran-in-Make-clause-done g c =
    made (make_asked g (goal.at.returns-in_ok-ran-in-Make-clause-done g c).In-Make) c.in_ok-ran-in-Make.ensures.done

pub returns-in_err-ran-in-Make-clause-so_far : goal.returns-in_err-ran-in-Make-clause-so_far
returns-in_err-ran-in-Make-clause-so_far g c =
    let asks = make_asked g (goal.at.returns-in_err-ran-in-Make-clause-so_far g c).In-Make in
    let p = err_from_is_err_and c.from_residual-in_err-ran-in-Make.result c.from_residual-in_err-ran-in-Make.ensures.1 in
    rw (p.1, p.2) (⊎_elim (λ h. untold_first asks h.1 h.0) (λ m. inr (make_so_far asks m.0 m.1)) c.in_err-ran-in-Make.ensures.so_far)

pub returns-in_ok-ran-in-Make-clause-blocks : goal.returns-in_ok-ran-in-Make-clause-blocks
returns-in_ok-ran-in-Make-clause-blocks g c = record {
  job = Making c.in-Make.voices c.in-Make.frames c.in-Make.workers;
  asks = make_asked g (goal.at.returns-in_ok-ran-in-Make-clause-blocks g c).In-Make;
  blocks = make_ran c.in_ok-ran-in-Make.ensures.ran;
}
