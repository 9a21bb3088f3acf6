use Rattle.std.proofs.Common.{◌≡◌, ◌+◌, ◌<◌, ◌^◌, ◌++◌, ℕ, List, length, take, get_or, sym, ap, ◌∙◌, subst, arith}
use Rattle.std.specs.List.{sum_by}
use Rattle.std.proofs.lemmas.List.{get_or_read}
use Rattle.std.proofs.lemmas.List.Sums.{sum_by_more, sum_by_more_le}
use Rattle.fv_compile.specs.declared.job.Job.{Job}
use Rattle.fv_compile.specs.Jobs.{ReadsWithin, inputs_of, controls_of}
use Rattle.fv_compile.specs.inner.Copied.{IsAppended}
use Rattle.fv_compile.proofs.Joins.{AreJoined, one_job_more, joined_result}
use Rattle.fv_compile.proofs.joined.join.Goals as goal

-- the job's inputs and controls after those before fit
within : (f : Job → ℕ) (jobs : List Job) (n now : ℕ) (job : Job) → n < length jobs → job ≡ get_or jobs n job → now ≡ sum_by f (take n jobs)
    → sum_by f jobs < 2 ^ 32 → now + f job < 2 ^ 32
within f jobs n now job l is e h = let le = sum_by_more_le f jobs n job l in omega (arith, le, ap f is, e, h)

more : (f : Job → ℕ) (jobs : List Job) (n now : ℕ) (job : Job) → n < length jobs → job ≡ get_or jobs n job → now ≡ sum_by f (take n jobs)
    → now + f job ≡ sum_by f (take (n + 1) jobs)
more f jobs n now job l is e = omega (arith, sum_by_more f jobs n job l, ap f is, e)

pub append-requires-clause-reads : goal.append-requires-clause-reads
append-requires-clause-reads c =
    subst (λ (j : Job). ReadsWithin j.inputs j.controls j.graph) (sym c.job-item.is)
    (c.requires.reads c.loop-job.job-index c.job-item.result c.loop-job-test.true)

pub append-requires-clause-inputs : goal.append-requires-clause-inputs
append-requires-clause-inputs c =
    within (λ (j : Job). j.inputs) c.args.jobs.now c.loop-job.job-index c.loop-job.inputs c.job-item.result c.loop-job-test.true c.job-item.is
    c.loop-job.invariant.inputs c.requires.inputs

pub append-requires-clause-controls : goal.append-requires-clause-controls
append-requires-clause-controls c =
    within (λ (j : Job). j.controls) c.args.jobs.now c.loop-job.job-index c.loop-job.controls c.job-item.result c.loop-job-test.true c.job-item.is
    c.loop-job.invariant.controls c.requires.controls

pub overflow_add-inputs : goal.overflow_add-inputs
overflow_add-inputs c =
    let l = within (λ (j : Job). j.inputs) c.args.jobs.now c.loop-job.job-index c.loop-job.inputs c.job-item.result c.loop-job-test.true c.job-item.is
    c.loop-job.invariant.inputs c.requires.inputs in
    omega (arith, l)

pub overflow_add-controls : goal.overflow_add-controls
overflow_add-controls c =
    let l = within (λ (j : Job). j.controls) c.args.jobs.now c.loop-job.job-index c.loop-job.controls c.job-item.result c.loop-job-test.true c.job-item.is
    c.loop-job.invariant.controls c.requires.controls in
    omega (arith, l)

pub loop-job-preserved : goal.loop-job-preserved
loop-job-preserved c =
    let jobs = c.args.jobs.now in
    let at = c.loop-job in
    let job = c.job-item.result in
    let here = c.loop-job-test.true in
    let new = c.append.new.builder in
    let images = c.in_ok-images.images.items in
    let first : IsAppended job.graph at.inputs (controls_of (take at.job-index jobs)) at.builder new images =
    subst (λ k. IsAppended job.graph at.inputs k at.builder new images) at.invariant.controls c.in_ok-images.ensures in
    let put : IsAppended job.graph (inputs_of (take at.job-index jobs)) (controls_of (take at.job-index jobs)) at.builder new images =
    subst (λ k. IsAppended job.graph k (controls_of (take at.job-index jobs)) at.builder new images) at.invariant.inputs first in
    record {
      joined = subst (AreJoined jobs (at.job-index + 1) new)
          (sym (c.in_ok-extend_from_slice.ensures.items ∙ ap (λ xs. at.outputs.items ++ xs) c.deref.ensures.value))
          (one_job_more jobs at.job-index job at.builder new at.outputs.items images at.invariant.joined here
          (λ e. sym (get_or_read jobs at.job-index job here c.job-item.is e)) put);
      inputs = more (λ (j : Job). j.inputs) jobs at.job-index at.inputs job here c.job-item.is at.invariant.inputs;
      controls = more (λ (j : Job). j.controls) jobs at.job-index at.controls job here c.job-item.is at.invariant.controls;
    }

pub returns : goal.returns
returns c =
    let jobs = c.args.jobs.now in
    let at = c.loop-job in
    let end : length jobs ≡ at.job-index = omega arith in
    let all : AreJoined jobs (length jobs) at.builder c.deref-2.result.now =
    subst (AreJoined jobs (length jobs) at.builder) (sym c.deref-2.ensures.value)
    (subst (λ n. AreJoined jobs n at.builder at.outputs.items) (sym end) at.invariant.joined) in
    joined_result jobs at.builder c.deref-2.result.now c.finish.result all c.requires c.finish.ensures.graph c.finish.ensures.whole
