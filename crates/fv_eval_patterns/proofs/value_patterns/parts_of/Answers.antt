use Rattle.fv_eval_patterns.proofs.lemmas.Matched.{all_parts_of}
use Rattle.fv_eval_patterns.proofs.value_patterns.parts_of.Goals as goal

pub returns-clause-there : goal.returns-clause-there
returns-clause-there c =
    all_parts_of c.args.diagrams.now c.args.id c.node.result c.composed_by-parts.result c.node.ensures.tree c.node.ensures.children
    c.requires.composed c.composed_by-parts.ensures.both
