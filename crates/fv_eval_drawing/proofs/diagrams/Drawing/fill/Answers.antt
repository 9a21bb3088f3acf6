use Rattle.std.proofs.Common.{◌-◌, sym, ap, ◌∙◌}
use Rattle.fv_diagram.specs.Arena.{tree_of}
use Rattle.fv_eval_drawing.specs.Makes.{trees_of}
use Rattle.fv_eval_drawing.proofs.lemmas.Gathered.{sides_left, sides_right}
use Rattle.fv_eval_drawing.proofs.diagrams.Drawing.fill.Goals as goal

pub returns-in_ok-with_one_before-clause-sides : goal.returns-in_ok-with_one_before-clause-sides
returns-in_ok-with_one_before-clause-sides c =
    let a = c.args.self.now in
    sides_right a c.leaf.new.self c.args.given c.in_ok-wire.wire (tree_of a.diagrams c.args.function) c.args.parts.items
    c.in_ok-with_one_before.field-0 c.in_ok-wire.ensures.adds c.in_ok-wire.ensures.draws c.requires.there
    (sym c.takes_one.ensures ∙ c.if-takes_one.true) c.in_ok-with_one_before.ensures

pub returns-else-takes_one-clause-sides : goal.returns-else-takes_one-clause-sides
returns-else-takes_one-clause-sides c =
    let a = c.args.self.now in
    sides_left a c.fill_behind.new.self c.args.given c.saturating_sub.result (tree_of a.diagrams c.args.function)
    (trees_of a.diagrams c.args.parts.items) c.fill_behind.result (sym c.takes_one.ensures ∙ c.if-takes_one.false)
    (c.saturating_sub.ensures ∙ ap (λ k. k - c.args.given) (c.from-inputs.ensures ∙ c.arity.ensures.arity.0)) c.fill_behind.ensures.sides
