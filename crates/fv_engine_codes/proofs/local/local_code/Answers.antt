use Rattle.std.proofs.Common.{sym, subst, ap, ◌∙◌, map}
use Rattle.std.specs.Prelude.{slice_index}
use Rattle.fv_loopcode.specs.Code.{AreValid}
use Rattle.fv_engine_codes.specs.Renumbered.{renumbered}
use Rattle.fv_engine_codes.proofs.Valid.{renumbered_valid}
use Rattle.fv_engine_codes.proofs.local.local_code.Goals as goal

pub unwrap-requires : goal.unwrap-requires
unwrap-requires c =
    let place = slice_index c.args.places.now in
    c.in_ok-new.ensures.some.1
    (subst (AreValid c.args.counts) (sym (c.deref.ensures.value ∙ c.in_ok-steps.ensures ∙ ap (map (renumbered place)) c.steps.ensures.steps))
    (renumbered_valid place c.args.counts c.args.code.now c.steps.ensures.ordered c.requires.named))
