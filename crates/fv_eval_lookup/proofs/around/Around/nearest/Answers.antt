use Rattle.std.proofs.Common.{sym, subst}
use Rattle.fv_eval_lookup.specs.Around.{IsNearest}
use Rattle.fv_eval_lookup.proofs.around.Around.nearest.Goals as goal

pub returns : goal.returns
returns c = λ p scopes h.
    subst (IsNearest p scopes c.args.name c.args.env) (sym c.find.ensures) ((c.in_ok-root.ensures p scopes h).leads c.args.name)
