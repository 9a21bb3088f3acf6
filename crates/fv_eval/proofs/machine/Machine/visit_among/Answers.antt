use Rattle.fv_eval.proofs.Begun.{among_goes}
use Rattle.fv_eval.proofs.machine.Machine.visit_among.Goals as goal

pub returns : goal.returns
returns c =
    λ p ds x E t u h. among_goes p
    c.args.self.now c.open.new.self c.args.list c.args.id c.args.env c.in_ok-inner.inner ds x E c.in_ok-inner.ensures.ok.0 c.in_ok-inner.ensures.ok.1 t u h
