use Rattle.std.proofs.Common.{sym, subst}
use Rattle.std.proofs.lemmas.List.{take_rest}
use Rattle.fv_eval_patterns.specs.Trials.{Binds}
use Rattle.fv_eval_patterns.proofs.diagram_patterns.keep_few.Goals as goal

pub returns-in_err-keep : goal.returns-in_err-keep
returns-in_err-keep c = λ p a h l b.
    c.keep.ensures p a h l (subst (Binds p a c.args.pair.now) (sym (take_rest c.args.found.now c.args.before)) b)

pub returns-in_ok-keep : goal.returns-in_ok-keep
returns-in_ok-keep c = λ p a h l b.
    c.keep.ensures p a h l (subst (Binds p a c.args.pair.now) (sym (take_rest c.args.found.now c.args.before)) b)
