use Rattle.std.proofs.Common.{reverse, ◌∙◌, ap, sym}
use Rattle.std.specs.List.{list_any}
use Rattle.std.specs.Prelude.{nat_eq}
use Rattle.fv_diagram_numbers.specs.headline.Heads.{is_closed}
use Rattle.fv_diagram_numbers.proofs.Looking.{any_reversed, leaf_turn}
use Rattle.fv_diagram_numbers.proofs.fixed.visit.Goals as goal

pub returns-in-Slot : goal.returns-in-Slot
returns-in-Slot c =
    let bound = c.args.walk.now.bound.items in
    leaf_turn c.args.diagrams.now c.args.id (reverse c.args.walk.now.looks.items) (reverse bound) c.contains.result
    (c.contains.ensures.value ∙ ap (list_any (λ b. nat_eq b c.in-Slot.slot)) c.deref.ensures.value
    ∙ sym (any_reversed (λ b. nat_eq b c.in-Slot.slot) bound) ∙ ap (is_closed (reverse bound)) (sym c.in-Slot.ensures.tree))
    c.requires
