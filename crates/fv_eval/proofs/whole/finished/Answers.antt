use Rattle.std.proofs.Common.{◌<◌, sym, subst, rules}
use Rattle.fv_diagram.specs.Arena.{Arena, count_of}
use Rattle.fv_eval.proofs.whole.finished.Goals as goal

pub arity-arity-requires : goal.arity-arity-requires
arity-arity-requires c =
    let root = c.in-Diagram.root in
    subst (λ (a : Arena). root < count_of a) (sym c.drawn-diagrams.ensures.0) (c.requires.inside root c.in-Diagram.is)

pub invariant_of-result : goal.invariant_of-result
invariant_of-result c = search rules

pub returns-clause-program : goal.returns-clause-program
returns-clause-program c = search rules
