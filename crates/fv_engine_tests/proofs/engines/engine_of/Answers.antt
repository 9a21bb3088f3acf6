use Rattle.std.proofs.Common.{length, ap, subst, arith}
use Rattle.fv_split_plan.specs.Code.{NamesHeld}
use Rattle.fv_split_plan.specs.headline.View.{PlanView}
use Rattle.fv_engine_tests.proofs.engines.engine_of.Goals as goal

pub prepare-requires-clause-inputs : goal.prepare-requires-clause-inputs
prepare-requires-clause-inputs g c = λ j i h. c.may_be_prepared-may.ensures.inputs c.if-not-may.false i (c.in_ok-plan.ensures.inputs j i h)

pub returns-clause-square : goal.returns-clause-square
returns-clause-square g c =
    let parts = c.in_ok-engine.ensures.parts in
    record {
      channels = parts.1;
      outputs = let a = ap (λ (p : PlanView). length p.outputs) parts.0 in let b = c.may_be_prepared-may.ensures.outputs c.if-not-may.false in
          omega (arith, a, b);
      block_is = parts.3;
      named = λ k h. c.may_be_prepared-may.ensures.controls c.if-not-may.false k
          (c.in_ok-plan.ensures.controls k (subst (λ (p : PlanView). NamesHeld p.held k) parts.0 h));
    }
