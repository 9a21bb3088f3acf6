use Rattle.std.proofs.Common.{◌≡◌, ◌+◌, ◌%◌, ◌∙◌, [], ◌∷◌, ap₂, arith, rules, refl, subst, SFits, w32, to_z-of_z}
use Rattle.fv_num.specs.declared.op.Op.TheVariants.{Add}
use Rattle.fv_num.specs.headline.Words.{argument, apply_of}
use Rattle.fv_diagram_numbers.proofs.InPlace.{AddedTo, added_none, added_more, added_all}
use Rattle.fv_diagram_numbers.proofs.timeless.add_up.Goals as goal

pub loop-i-init : goal.loop-i-init
loop-i-init c = added_none c.args.at c.args.count c.args.many c.args.numbers.now c.requires.fewer

pub loop-i-preserved : goal.loop-i-preserved
loop-i-preserved c =
    let f : SFits w32 c.apply.result = search rules in
    let g : SFits w32 (argument c.loop-i.numbers (c.args.at + c.loop-i.i % c.args.many)) = search rules in
    let h : SFits w32 (argument c.loop-i.numbers (c.args.at + c.loop-i.i)) = search rules in
    added_more c.args.at c.args.count c.args.many c.loop-i.i c.args.numbers.now c.loop-i.numbers _ _ c.requires.some (omega arith) (omega arith)
    c.requires.inside c.loop-i.invariant (to_z-of_z f ∙ c.apply.ensures ∙ ap₂ (λ x y. apply_of Add (x ∷ y ∷ [])) (to_z-of_z g) (to_z-of_z h)) refl

pub returns-clause-does : goal.returns-clause-does
returns-clause-does c =
    let e : c.loop-i.i ≡ c.args.count = omega arith in
    added_all c.args.at c.args.count c.args.many c.args.numbers.now c.loop-i.numbers
    (subst (λ i. AddedTo c.args.at c.args.count c.args.many i c.args.numbers.now c.loop-i.numbers) e c.loop-i.invariant)
