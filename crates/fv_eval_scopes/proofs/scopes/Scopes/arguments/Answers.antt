use Rattle.std.proofs.Common.{◌-◌, refl, sym}
use Rattle.fv_eval_scopes.proofs.Scoped.{StepsBack, back_goes_on}
use Rattle.fv_eval_scopes.proofs.scopes.Scopes.arguments.Goals as goal

pub back-preserved : goal.back-preserved
back-preserved c =
    let step : StepsBack c.args.self.now.taken c.back.left (c.back.left - 1) c.back.at c.back.arguments.items c.push.new.self.items c.in-Some.argument =
    record { got = sym c.in-Some.ensures; more = c.back-test.true; less = refl; pushed = c.in_ok-push.ensures.items } in
    back_goes_on c.args.count c.args.last c.back.invariant step
