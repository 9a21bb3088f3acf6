use Rattle.std.proofs.Common.{rules}
use Rattle.std.proofs.Common.{sym, ap, ◌∙◌}
use Rattle.std.specs.Prelude.{slice_get}
use Rattle.fv_parse.specs.Arena.{trees}
use Rattle.fv_eval.specs.inner.Continuations.{parameters_of}
use Rattle.fv_eval.proofs.Others.{no_slider}
use Rattle.fv_eval.proofs.sliders.part_of.Goals as goal

pub returns-in_default : goal.returns-in_default
returns-in_default c =
    let e = ap parameters_of c.node.ensures.tree ∙ no_slider (trees c.args.tree.now.entries) c.node.result.now _ c.in_default.not-Slider in
    record { part = sym (ap (λ xs. slice_get xs c.args.i) e); inside = tt }

pub returns-in-0-clause-part : goal.returns-in-0-clause-part
returns-in-0-clause-part c = search rules
