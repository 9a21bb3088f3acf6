use Rattle.fv_diagram_runner.specs.inner.Code.{code_of}
use Rattle.fv_diagram_runner.proofs.Codes.{code_put}
use Rattle.fv_diagram_runner.proofs.draft.Draft.put_step.Goals as goal

pub invariant_of-self-2 : goal.invariant_of-self-2
invariant_of-self-2 c =
    code_put (code_of c.self.inside) c.args.self.now c.args.step _ c.self.view_is c.self.invariant c.requires.operands c.requires.within
    c.requires.kept c.requires.begun
    c.in_ok-push.ensures.items
