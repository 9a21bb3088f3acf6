use Rattle.std.proofs.Common.{sym, subst}
use Rattle.fv_diagram.specs.Arena.{tree_of}
use Rattle.fv_diagram.specs.Composed.{IsComposed}
use Rattle.fv_eval.specs.Evaluated.{Evaluated}
use Rattle.fv_evaluation_tests.proofs.WellComposed.{well_is_composed}
use Rattle.fv_evaluation_tests.proofs.numbers.number.Goals as goal

pub number_of-requires-clause-composed : goal.number_of-requires-clause-composed
number_of-requires-clause-composed c =
    let p = c.in-Ok-evaluate.program in
    let runs = c.in-Ok-evaluate.ensures.runs.1 in
    let is = well_is_composed (tree_of p.diagrams p.root) runs.well in
    subst (λ (e : Evaluated). IsComposed (tree_of e.diagrams e.root)) (sym c.program.view_is) is
