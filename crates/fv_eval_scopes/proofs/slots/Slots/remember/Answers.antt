use Rattle.std.proofs.Common.{sym, subst}
use Rattle.fv_eval_scopes.specs.Slots.{AreSlots}
use Rattle.fv_eval_scopes.proofs.lemmas.Skips.{shortcuts_set}
use Rattle.fv_eval_scopes.proofs.slots.Slots.remember.Goals as goal

pub returns-in-Some : goal.returns-in-Some
returns-in-Some c = λ p scopes h way.
    shortcuts_set p scopes c.self.inside.slots.items c.in-Some.i (record { name = c.args.name; from = c.args.from; to = c.args.to }) c.in-Some.ensures
    (subst (AreSlots p scopes) (sym c.self.view_is) (c.widen.ensures p scopes h)) way

pub returns-in_default : goal.returns-in_default
returns-in_default c = λ p scopes h way. subst (AreSlots p scopes) (sym c.self.view_is) (c.widen.ensures p scopes h)
