use Rattle.std.proofs.Common.{List, length, ap, subst, arith}
use Rattle.fv_loopcode.specs.declared.step.Step.{Step}
use Rattle.fv_engine.specs.Made.{IsRunner}
use Rattle.fv_engine.proofs.make.engine_parts.Goals as goal

pub returns : goal.returns
returns c = record {
  lanes = c.in_ok-lanes.ensures;
  held = let q = ap (λ (steps : List Step). length steps) c.held.ensures in
      omega (arith, q, c.len.ensures, c.in_ok-held.ensures.len, c.in_ok-held.held.ok.0);
  runner = subst (λ n. IsRunner c.args.plan.now n c.in_ok-runner.runner) c.vectors.ensures.value c.in_ok-runner.ensures;
  crew = c.in_ok-crew.ensures.of_plan;
  asked = c.in_ok-crew.ensures.asked;
}
