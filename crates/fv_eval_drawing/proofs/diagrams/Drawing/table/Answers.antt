use Rattle.std.proofs.Common.{◌≡◌, ◌∙◌, true, ap, sym, subst}
use Rattle.fv_diagram.specs.headline.Diagram.{Diagram}
use Rattle.fv_diagram.specs.Arena.{tree_of}
use Rattle.fv_diagram_numbers.specs.headline.Heads.{is_head}
use Rattle.fv_rules.specs.headline.Steps.{Eval}
use Rattle.fv_eval_drawing.specs.Makes.{Makes, trees_of}
use Rattle.fv_eval_drawing.proofs.Tabling.{rest_takes, tabled_stands}
use Rattle.fv_eval_drawing.proofs.diagrams.Drawing.table.Goals as goal

pub table_of-requires-clause-takes : goal.table_of-requires-clause-takes
table_of-requires-clause-takes c =
    let a = c.args.self.now.diagrams in
    let p = c.in_ok-head.field-0 in
    let h : is_head (trees_of a p.head.items) ≡ true =
    ap (λ is. is_head (trees_of a is)) (sym c.as_slice.ensures.value) ∙ sym c.in_ok-is_head.ensures ∙ c.if-branch.true in
    rest_takes c.args.writes (tree_of a c.args.before) (trees_of a p.head.items) (trees_of a p.rest.items) c.in_ok-head.ensures.cut h c.requires.outputs

pub returns-then-branch-clause-makes : goal.returns-then-branch-clause-makes
returns-then-branch-clause-makes c =
    let a = c.args.self.now.diagrams in
    let p = c.in_ok-head.field-0 in
    let h : is_head (trees_of a p.head.items) ≡ true =
    ap (λ is. is_head (trees_of a is)) (sym c.as_slice.ensures.value) ∙ sym c.in_ok-is_head.ensures ∙ c.if-branch.true in
    subst (λ (m : Eval Diagram). Makes c.args.self.now c.table_of.new.self m c.table_of.result)
    (sym (tabled_stands c.args.writes (tree_of a c.args.before) (trees_of a p.head.items) (trees_of a p.rest.items) c.in_ok-head.ensures.cut h))
    c.table_of.ensures.makes
