use Rattle.std.proofs.Common.{sym, subst}
use Rattle.fv_eval_scopes.specs.Slots.{AreSlots}
use Rattle.fv_eval_scopes.proofs.lemmas.Skips.{shortcuts_push, skips_none}
use Rattle.fv_eval_scopes.proofs.slots.Slots.widen.Goals as goal

pub widen-preserved : goal.widen-preserved
widen-preserved c = λ p scopes h.
    shortcuts_push p scopes c.widen.self-inside.slots.items c.push.new.self.items _ c.in_ok-push.ensures.items (c.widen.invariant p scopes h)
    (skips_none p scopes c.args.name c.args.from)

pub returns-in_err-push : goal.returns-in_err-push
returns-in_err-push c = λ p scopes h. subst (AreSlots p scopes) (sym c.in_err-push.ensures.items) (c.widen.invariant p scopes h)
