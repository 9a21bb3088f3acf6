use Rattle.fv_eval_patterns.proofs.lemmas.Matched.{all_parts_of}
use Rattle.fv_eval_lookup.proofs.paths.both_without.Goals as goal

pub returns-clause-there : goal.returns-clause-there
returns-clause-there c =
    all_parts_of c.args.diagrams.now c.args.id c.node.result c.both_of-both.result c.node.ensures.tree c.node.ensures.children
    c.requires.composed c.both_of-both.ensures.both
