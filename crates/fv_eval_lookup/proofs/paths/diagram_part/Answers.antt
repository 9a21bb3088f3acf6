use Rattle.std.proofs.Common.{arith}
use Rattle.std.proofs.lemmas.Grind.{common_steps}
use Rattle.std.proofs.Common.{◌≡◌, ◌∙◌, suc, drop, get_or, None, option_map, ap, sym, drop-cons}
use Rattle.fv_diagram.specs.Arena.{tree_of}
use Rattle.fv_rules.specs.Numbers.{number_of}
use Rattle.fv_eval_patterns.specs.Patterns.{are_parts}
use Rattle.fv_eval_lookup.specs.declared.paths.Side.TheVariants.{Left}
use Rattle.fv_eval_lookup.specs.Positions.{both_without}
use Rattle.fv_eval_lookup.proofs.Refused.{no_diagram_part}
use Rattle.fv_eval_lookup.proofs.paths.diagram_part.Goals as goal

pub returns-in_default-clause-part : goal.returns-in_default-clause-part
returns-in_default-clause-part c =
    let a = c.args.diagrams.now in
    let d = tree_of a c.loop-side.at in
    let sides = c.args.sides.now in
    let i = c.loop-side.side-index in
    let none : both_without (number_of d) d ≡ None = sym c.in_ok-both.ensures.parts ∙ ap (option_map (are_parts a)) c.in_default.is in
    sym (no_diagram_part (drop i sides) (drop (suc i) sides) (get_or sides i Left) d (drop-cons sides i Left c.loop-side-test.true) none)
    ∙ c.loop-side.invariant.part

pub loop-side-preserved : goal.loop-side-preserved
loop-side-preserved c = grind (arith, common_steps)
