use Rattle.std.proofs.Common.{◌≡◌, ◌<◌, Ok, subst}
use Rattle.std.specs.Prelude.{Bool, MatchBool}
use Rattle.fv_eval.specs.declared.continuation.Focus.{Focus}
use Rattle.fv_eval.specs.inner.Continuations.{Goes, Runs}
use Rattle.fv_eval.proofs.Stepped.{visit_there, visit_steps, call_steps, done_steps}
use Rattle.fv_eval.proofs.machine.Machine.step.Goals as goal

pub visit-requires : goal.visit-requires
visit-requires c =
    visit_there c.args.text.now c.args.self.now c.in-Visit.id c.in-Visit.env
    (subst (λ (f : Focus). Runs c.args.text.now c.args.self.now f) c.in-Visit.is c.requires)

pub arrive-requires : goal.arrive-requires
arrive-requires c = subst (λ (f : Focus). Runs c.args.text.now c.args.self.now f) c.in-Give.is c.requires

pub returns-then-spend : goal.returns-then-spend
returns-then-spend c =
    let p = c.args.text.now in
    let m = c.args.self.now in
    let some = subst (λ (b : Bool). MatchBool b (0 < m.visits) (m.visits ≡ 0)) c.if-spend.true c.spend.ensures.left in
    λ d g. visit_steps p m c.spend.new.self c.visit.new.self c.in-Visit.id c.in-Visit.env c.visit.result some c.spend.ensures.spent c.visit.ensures d
    (subst (λ (f : Focus). Goes p m (Ok f) d) c.in-Visit.is g)

pub returns-then-spend-2 : goal.returns-then-spend-2
returns-then-spend-2 c =
    let p = c.args.text.now in
    let m = c.args.self.now in
    let some = subst (λ (b : Bool). MatchBool b (0 < m.visits) (m.visits ≡ 0)) c.if-spend-2.true c.spend-in-Call.ensures.left in
    λ d g.
    call_steps p m c.spend-in-Call.new.self c.name.new.self c.in-Call.name c.in-Call.env c.name.result some c.spend-in-Call.ensures.spent c.name.ensures d
    (subst (λ (f : Focus). Goes p m (Ok f) d) c.in-Call.is g)

pub returns-in-Done : goal.returns-in-Done
returns-in-Done c =
    let p = c.args.text.now in
    let m = c.args.self.now in
    λ d g. done_steps p m c.in-Done.value d (subst (λ (f : Focus). Goes p m (Ok f) d) c.in-Done.is g)
