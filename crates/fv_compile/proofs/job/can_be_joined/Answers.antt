use Rattle.std.proofs.Common.{rules, ◌≡◌, ◌≤◌, length, ap, ◌∙◌, arith}
use Rattle.std.proofs.lemmas.List.{take_all}
use Rattle.fv_compile.specs.Jobs.{inputs_of, controls_of}
use Rattle.fv_compile.proofs.job.can_be_joined.Goals as goal

pub returns : goal.returns
returns c =
    let jobs = c.args.jobs.now in
    let at = c.loop-job in
    let end : length jobs ≤ at.job-index = omega arith in
    let inputs : at.inputs ≡ inputs_of jobs = at.invariant.inputs ∙ ap inputs_of (take_all at.job-index jobs end) in
    let controls : at.controls ≡ controls_of jobs = at.invariant.controls ∙ ap controls_of (take_all at.job-index jobs end) in (
      λ yes. record {
        reads = λ k d l. at.invariant.reads k d (omega (arith, l, end));
        inputs = let fits = at.invariant.fit.0 in omega (arith, inputs, fits);
        controls = let fits = at.invariant.fit.1 in omega (arith, controls, fits);
      },
      λ can. search rules,
    )
