use Rattle.std.proofs.Common.{ap, ◌∙◌}
use lib.ListN.{get_elem?}
use Rattle.fv_ready.proofs.close.hand_out.Goals as goal

pub take_out-requires-clause-full : goal.take_out-requires-clause-full
take_out-requires-clause-full g c = λ e l m. let p = c.requires.full e l m in (p.0, ap (λ x. get_elem? x e) c.discard.ensures.same.0 ∙ p.1)
