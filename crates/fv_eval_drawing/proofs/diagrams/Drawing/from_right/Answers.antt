use Rattle.std.proofs.Common.{◌++◌, ap, ◌∙◌}
use Rattle.std.specs.Prelude.{option_to_list}
use Rattle.fv_eval_drawing.proofs.Loops.{links_on, links_refused}
use Rattle.fv_eval_drawing.proofs.diagrams.Drawing.from_right.Goals as goal

pub linking-preserved : goal.linking-preserved
linking-preserved c =
    let rest = c.pop-in-linking.new.self.items in
    links_on c.args.self.now c.linking.self c.link.new.self c.args.link c.args.parts.items c.linking.parts.items rest c.in-Some-pop.part c.linking.whole
    c.in-Ok.id c.linking.invariant
    (c.pop-in-linking.ensures.items ∙ ap (λ o. rest ++ option_to_list o) c.in-Some-pop.is) c.in-Ok.ensures.makes c.in-Ok.ensures.keeps

pub returns-in-Err-clause-makes : goal.returns-in-Err-clause-makes
returns-in-Err-clause-makes c =
    let rest = c.pop-in-linking.new.self.items in
    links_refused c.args.self.now c.linking.self c.link.new.self c.args.link c.args.parts.items c.linking.parts.items rest c.in-Some-pop.part
    c.linking.whole c.in-Err.refusal c.linking.invariant
    (c.pop-in-linking.ensures.items ∙ ap (λ o. rest ++ option_to_list o) c.in-Some-pop.is) c.in-Err.ensures.makes
