use Rattle.std.proofs.Common.{sym, subst}
use Rattle.fv_eval.specs.declared.continuation.ForValue as code_for_value
use Rattle.fv_eval.specs.inner.Continuations.{ValuedShown, world}
use Rattle.fv_eval.proofs.There.{arguments_more_shown, function_stays_shown}
use Rattle.fv_eval.proofs.Arrived.{Resumes, function_resumes, argument_resumes, leftover_resumes, parameter_resumes}
use Rattle.fv_eval.proofs.machine.Machine.value_arrives.Goals as goal

pub returns-in-Function : goal.returns-in-Function
returns-in-Function c =
    let p = c.args.text.now in
    let n = c.next_argument.new.self in
    let f = c.in-Function in
    subst (λ (x : code_for_value.ForValue). Resumes p c.args.self.now n c.next_argument.result x c.args.value) (sym f.is)
    (function_resumes p c.args.self.now
    n c.next_argument.result f.apply f.env c.args.value c.new-done.result.items c.new-done.ensures.items c.next_argument.ensures)

pub returns-in-Leftover : goal.returns-in-Leftover
returns-in-Leftover c =
    let p = c.args.text.now in
    let n = c.apply.new.self in
    let f = c.in-Leftover in
    subst (λ (x : code_for_value.ForValue). Resumes p c.args.self.now n c.apply.result x c.args.value) (sym f.is)
    (leftover_resumes p c.args.self.now n c.apply.result f.apply c.args.value f.arguments f.next c.apply.ensures)

pub returns-in-Parameter : goal.returns-in-Parameter
returns-in-Parameter c =
    let p = c.args.text.now in
    let n = c.parameter_arrives.new.self in
    let f = c.in-Parameter in
    subst (λ (x : code_for_value.ForValue). Resumes p c.args.self.now n c.parameter_arrives.result x c.args.value) (sym f.is)
    (parameter_resumes p c.args.self.now n c.parameter_arrives.result f.slider f.env c.args.value f.done c.parameter_arrives.ensures)

pub returns-in_ok-push-in-Argument : goal.returns-in_ok-push-in-Argument
returns-in_ok-push-in-Argument c =
    let p = c.args.text.now in
    let m = c.args.self.now in
    let m1 = c.settle.new.self in
    let n = c.next_argument-in-Argument.new.self in
    let r = c.next_argument-in-Argument.result in
    let f = c.in-Argument in
    subst (λ (x : code_for_value.ForValue). Resumes p m n r x c.args.value) (sym f.is)
    (argument_resumes p m m1 n r f.apply f.env f.function c.args.value c.in_ok-settled-in-Argument.settled f.done c.push.new.self.items
    (c.in_ok-settled-in-Argument.ensures.grew p)
    (c.in_ok-settled-in-Argument.ensures.shows p) c.in_ok-push-in-Argument.ensures.items c.next_argument-in-Argument.ensures)

pub next_argument-requires-in-Argument-clause-function : goal.next_argument-requires-in-Argument-clause-function
next_argument-requires-in-Argument-clause-function c =
    let p = c.args.text.now in
    let f = c.in-Argument in
    function_stays_shown (world p c.args.self.now)
    (world p c.settle.new.self) (c.in_ok-settled-in-Argument.ensures.grew p).lists f.apply f.function f.env f.done
    (subst (λ (x : code_for_value.ForValue). ValuedShown (world p c.args.self.now) x) f.is c.requires.continuation)

pub next_argument-requires-in-Argument-clause-done : goal.next_argument-requires-in-Argument-clause-done
next_argument-requires-in-Argument-clause-done c =
    let p = c.args.text.now in
    let f = c.in-Argument in
    arguments_more_shown (world p c.args.self.now) (world p c.settle.new.self) (c.in_ok-settled-in-Argument.ensures.grew p).lists
    f.apply f.function f.env f.done c.args.value c.in_ok-settled-in-Argument.settled c.push.new.self.items
    (subst (λ (x : code_for_value.ForValue). ValuedShown (world p c.args.self.now) x) f.is c.requires.continuation) c.requires.value
    (c.in_ok-settled-in-Argument.ensures.shows p) c.in_ok-push-in-Argument.ensures.items

pub next_argument-requires-in-Argument-clause-knows : goal.next_argument-requires-in-Argument-clause-knows
next_argument-requires-in-Argument-clause-knows c = (c.in_ok-settled-in-Argument.ensures.grew c.args.text.now).knows c.requires.knows
