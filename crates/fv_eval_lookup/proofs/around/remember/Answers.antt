use Rattle.std.proofs.Common.{◌<◌, length, sym, subst, arith}
use Rattle.fv_eval_lookup.specs.Around.{AreNested}
use Rattle.fv_eval_lookup.proofs.Arounds.{nested_push, nested_set}
use Rattle.fv_eval_lookup.proofs.around.remember.Goals as goal

pub grow-preserved : goal.grow-preserved
grow-preserved c = λ p forks h.
    nested_push p forks c.grow.all.items c.push.new.self.items c.in_ok-push.ensures.items (c.grow.invariant p forks h)

pub returns-in_err-push : goal.returns-in_err-push
returns-in_err-push c = λ p forks h one. subst (AreNested p forks) (sym c.in_err-push.ensures.items) (c.grow.invariant p forks h)

pub returns : goal.returns
returns c = λ p forks h one.
    let l : c.args.nested.list < length c.grow.all.items = omega (arith, c.grow-test.false, c.len.ensures, c.grow.all.ok.0) in
    nested_set p forks c.grow.all.items c.args.nested.list c.args.nested l (c.grow.invariant p forks h) one
