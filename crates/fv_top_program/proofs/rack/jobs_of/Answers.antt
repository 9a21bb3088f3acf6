use Rattle.std.proofs.Common.{◌≡◌, ◌+◌, ◌++◌, ◌∷◌, [], List, length, take, sym, ap, ◌∙◌, subst, arith}
use Rattle.std.proofs.lemmas.List.{length-append, length-take-le, take_all}
use Rattle.fv_compile.specs.declared.job.Job.{Job}
use Rattle.fv_compile.specs.headline.Parts.{Part}
use Rattle.fv_top_program.specs.declared.programs.Read.{Read}
use Rattle.fv_top_program.specs.headline.Racks.{part_of}
use Rattle.fv_top_program.specs.Compiled.{compiled_of}
use Rattle.fv_top_program.proofs.RackJobs.{Each, are_jobs, one_job_more, parts_in, parts_long, parts_more}
use Rattle.fv_top_program.proofs.rack.jobs_of.Goals as goal

pub loop-read-preserved : goal.loop-read-preserved
loop-read-preserved c =
    let rs = c.args.reads.now in
    let at = c.loop-read in
    let jobs = at.jobs.items in
    let read = c.read-item.result in
    let here = c.loop-read-test.true in
    let now = c.in_ok-push.ensures.items in
    let before = parts_in (take at.read-index rs) in
    let long : length jobs ≡ length before =
    at.invariant.long ∙ sym (parts_long (take at.read-index rs) ∙ length-take-le at.read-index rs (omega (arith, here))) in
    let more = one_job_more jobs before c.in_ok-job.job (part_of (compiled_of read.program)) long at.invariant.each c.in_ok-job.ensures in
    record {
      long = ap length now ∙ length-append jobs (c.in_ok-job.job ∷ []) ∙ ap (λ n. n + 1) at.invariant.long;
      each = subst (λ (js : List Job). Each js (parts_in (take (at.read-index + 1) rs))) (sym now)
          (subst (λ (ps : List Part). Each (jobs ++ c.in_ok-job.job ∷ []) ps) (parts_more rs at.read-index read here c.read-item.is) more);
    }

pub returns : goal.returns
returns c =
    let rs = c.args.reads.now in
    let at = c.loop-read in
    let end : length rs ≡ at.read-index = omega arith in
    let all : take at.read-index rs ≡ rs = take_all at.read-index rs (omega (arith, end)) in
    are_jobs rs at.jobs.items c.requires (at.invariant.long ∙ sym end)
    (subst (λ (xs : List Read). Each at.jobs.items (parts_in xs)) all at.invariant.each)
