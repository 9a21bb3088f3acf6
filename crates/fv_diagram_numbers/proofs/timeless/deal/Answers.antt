use Rattle.std.proofs.Common.{◌≡◌, ◌+◌, ◌%◌, arith, rules, refl, subst, SFits, w32, to_z-of_z}
use Rattle.fv_num.specs.headline.Words.{argument}
use Rattle.fv_diagram_numbers.proofs.InPlace.{DealtTo, dealt_none, dealt_more, dealt_all}
use Rattle.fv_diagram_numbers.proofs.timeless.deal.Goals as goal

pub loop-i-init : goal.loop-i-init
loop-i-init c = dealt_none c.args.at c.args.count c.args.numbers.now

pub loop-i-preserved : goal.loop-i-preserved
loop-i-preserved c =
    let f : SFits w32 (argument c.loop-i.numbers (c.args.at + c.loop-i.i % c.args.count)) = search rules in
    dealt_more c.args.at c.args.count c.loop-i.i c.args.many c.args.numbers.now c.loop-i.numbers _ _ c.requires.some (omega arith) (omega arith)
    c.requires.inside c.loop-i.invariant (to_z-of_z f) refl

pub returns-clause-does : goal.returns-clause-does
returns-clause-does c =
    let e : c.loop-i.i ≡ c.args.many = omega arith in
    dealt_all c.args.at c.args.count c.args.many c.args.numbers.now c.loop-i.numbers c.requires.some
    (subst (λ i. DealtTo c.args.at c.args.count i c.args.numbers.now c.loop-i.numbers) e c.loop-i.invariant)
