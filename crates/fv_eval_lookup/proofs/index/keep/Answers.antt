use Rattle.std.proofs.Common.{All, sym, subst}
use Rattle.fv_eval_lookup.specs.Leaving.{Knows}
use Rattle.fv_eval_lookup.proofs.Wanting.{all_push}
use Rattle.fv_eval_lookup.proofs.index.keep.Goals as goal

pub returns-in_ok-push : goal.returns-in_ok-push
returns-in_ok-push c = λ all h k.
    subst (All (Knows all)) (sym c.in_ok-push.ensures.items) (all_push (Knows all) c.args.positions.now.items c.args.position h k)
