use Rattle.std.proofs.Common.{◌+◌, ◌-◌, refl}
use Rattle.fv_eval_drawing.proofs.Loops.{binds_on, binds_refused}
use Rattle.fv_eval_drawing.proofs.diagrams.Drawing.bind_all.Goals as goal

pub binding-preserved : goal.binding-preserved
binding-preserved c =
    binds_on c.args.self.now c.binding.self c.put.new.self c.args.slot c.args.slots c.binding.left (c.args.slot + (c.binding.left - 1)) c.args.body
    c.binding.whole c.in-Ok.id
    c.binding.invariant c.binding-test.true
    refl c.in-Ok.ensures.makes c.in-Ok.ensures.keeps

pub returns-in-Err-clause-makes : goal.returns-in-Err-clause-makes
returns-in-Err-clause-makes c =
    binds_refused c.args.self.now c.binding.self c.put.new.self c.args.slot c.args.slots c.binding.left (c.args.slot + (c.binding.left - 1))
    c.args.body c.binding.whole
    c.in-Err.refusal c.binding.invariant c.binding-test.true
    refl c.in-Err.ensures.makes
