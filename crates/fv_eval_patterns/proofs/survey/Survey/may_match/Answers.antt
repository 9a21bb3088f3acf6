use Rattle.std.proofs.Common.{rules}
use Rattle.std.proofs.Common.{ap, ◌∙◌}
use Rattle.fv_rules.specs.headline.Values.{Flat}
use Rattle.fv_rules.specs.headline.Matching.{matched}
use Rattle.fv_eval_patterns.proofs.lemmas.Matched.{node_is}
use Rattle.fv_eval_patterns.proofs.survey.Survey.may_match.Goals as goal

pub returns-in-Binary : goal.returns-in-Binary
returns-in-Binary c = λ e d s bs.
    let p = c.args.tree.now in
    ap (λ t. matched p.tokens t (Flat d) bs) (node_is p c.args.id c.node.ensures.tree c.in-Binary.is) ∙ c.parts_may_match.ensures e p d s bs

pub returns-in_default : goal.returns-in_default
returns-in_default c = search rules
