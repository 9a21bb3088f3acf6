use Rattle.std.proofs.Common.{refl}
use Rattle.std.proofs.lemmas.Option.{slice_get_past}
use Rattle.fv_eval_drawing.proofs.lemmas.Entered.{get_within}
use Rattle.fv_eval.proofs.Received.{feeds_all, next_turns}
use Rattle.fv_eval.proofs.machine.Machine.next_turned.Goals as goal

pub returns-in_ok-push-in-Some : goal.returns-in_ok-push-in-Some
returns-in_ok-push-in-Some c =
    let us = c.args.arguments in
    let g = get_within c.deref.result.now c.args.at c.in-Some.value.now c.in-Some.ensures.lookup.3.0 c.in-Some.ensures.lookup.1 in
    λ p. next_turns p c.args.self.now c.push.new.self c.args.function c.args.at _ us c.args.done c.in-Some.value.now
    (rw c.deref.ensures.value at g)
    refl c.in_ok-push-in-Some.ensures.ok

pub returns-in-None : goal.returns-in-None
returns-in-None c =
    let g = slice_get_past c.deref.result.now c.args.at c.in-None.ensures.lookup.3 in
    λ p. feeds_all p c.args.self.now c.feed.new.self c.feed.result c.give.result c.args.function c.args.at c.args.arguments.items c.args.done.items
    (rw c.deref.ensures.value at g)
    c.feed.ensures.keeps c.feed.ensures.makes c.give.ensures
