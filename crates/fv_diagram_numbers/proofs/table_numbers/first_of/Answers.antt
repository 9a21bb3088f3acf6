use Rattle.std.proofs.Common.{[], ◌∙◌, ap, sym, arith, rules, SFits, w32, to_z-of_z}
use Rattle.fv_diagram.specs.Words.{argument}
use Rattle.fv_diagram.specs.Frames.{Frame}
use Rattle.fv_diagram.specs.Arena.{tree_of}
use Rattle.fv_diagram_numbers.specs.headline.Numbers.{silent}
use Rattle.fv_diagram_numbers.proofs.lemmas.Closed.{runs_alone}
use Rattle.fv_diagram_numbers.proofs.Numbered.{first_given}
use Rattle.fv_diagram_numbers.proofs.table_numbers.first_of.Goals as goal

pub new-requires-clause-well : goal.new-requires-clause-well
new-requires-clause-well c =
    let d = tree_of c.args.diagrams.now c.args.head in
    c.composed_is_well.ensures d c.requires.composed (runs_alone d c.requires.fixed).plain

pub new-requires-clause-closed : goal.new-requires-clause-closed
new-requires-clause-closed c = (runs_alone (tree_of c.args.diagrams.now c.args.head) c.requires.fixed).closed

pub step-requires-clause-controls : goal.step-requires-clause-controls
step-requires-clause-controls c =
    let r = runs_alone (tree_of c.args.diagrams.now c.args.head) c.requires.fixed in omega (arith, c.in_ok-stepper.ensures.reads, r.controls)

pub step-requires-clause-frame : goal.step-requires-clause-frame
step-requires-clause-frame c =
    let r = runs_alone (tree_of c.args.diagrams.now c.args.head) c.requires.fixed in sym (c.in_ok-stepper.ensures.takes ∙ r.takes_none)

pub step-requires-clause-out : goal.step-requires-clause-out
step-requires-clause-out c = sym (c.in_ok-stepper.ensures.gives ∙ c.requires.two)

pub returns : goal.returns
returns c =
    let d = tree_of c.args.diagrams.now c.args.head in
    let out = c.step.new.out in
    let f : SFits w32 (argument out 0) = search rules in
    to_z-of_z f
    ∙ ap (λ (y : Frame). argument y 0) (first_given d out (runs_alone d c.requires.fixed).controls (c.answers_alike.ensures d)
    (c.in_ok-step.ensures.answer d [] [] silent c.in_ok-stepper.ensures))
