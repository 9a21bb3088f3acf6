use Rattle.std.proofs.Common.{◌≤◌, ◌<◌, length, refl, subst, arith}
use Rattle.std.specs.Prelude.{Option}
use Rattle.fv_eval_scopes.specs.declared.value.Value as code_value
use Rattle.fv_eval.proofs.Applying.{all_taken, applies_on, arguments_shown, function_shown, function_stays, last_taken}
use Rattle.fv_eval_drawing.proofs.lemmas.Entered.{get_within}
use Rattle.fv_eval.proofs.Taking.{Takes}
use Rattle.fv_eval.proofs.machine.Machine.apply.Goals as goal

pub take-requires : goal.take-requires
take-requires c =
    function_stays c.args.text.now c.args.self.now c.applying.self c.args.function c.applying.function c.args.arguments.items c.args.next c.applying.at
    c.applying.invariant c.requires.function c.requires.arguments

pub applying-preserved : goal.applying-preserved
applying-preserved c =
    let p = c.args.text.now in
    let us = c.args.arguments.items in
    let x = c.index.result.now in
    let inside : c.applying.at < length us = omega (arith, c.args.arguments.ok.0) in
    let takes =
    subst (λ (o : Option code_value.Value). Takes p c.applying.self c.take.new.self c.applying.function x o) c.in-Some.is c.in_ok-value.ensures.took in
    applies_on p c.args.self.now c.applying.self
    c.take.new.self c.args.function c.applying.function x c.in-Some.value us c.args.next c.applying.at _ c.applying.invariant
    (get_within us c.applying.at x inside c.index.ensures) refl c.in_ok-value.ensures.grew takes

pub complete-requires-clause-function : goal.complete-requires-clause-function
complete-requires-clause-function c =
    function_shown c.args.text.now c.args.self.now
    c.applying.self c.take.new.self c.args.function c.applying.function c.args.arguments.items c.args.next c.applying.at c.applying.invariant
    c.in_ok-value.ensures.grew c.requires.function c.requires.arguments

pub complete-requires-clause-arguments : goal.complete-requires-clause-arguments
complete-requires-clause-arguments c =
    arguments_shown c.args.text.now c.args.self.now
    c.applying.self c.take.new.self c.args.function c.applying.function c.args.arguments.items c.args.next c.applying.at c.applying.invariant
    c.in_ok-value.ensures.grew c.requires.function c.requires.arguments

pub returns-in-None : goal.returns-in-None
returns-in-None c =
    let p = c.args.text.now in
    let us = c.args.arguments.items in
    let x = c.index.result.now in
    let inside : c.applying.at < length us = omega (arith, c.args.arguments.ok.0) in
    let takes =
    subst (λ (o : Option code_value.Value). Takes p c.applying.self c.take.new.self c.applying.function x o) c.in-None.is c.in_ok-value.ensures.took in
    last_taken p c.args.self.now c.applying.self
    c.take.new.self c.complete.new.self c.complete.result c.args.application c.args.function c.applying.function x us c.args.next c.applying.at
    c.applying.invariant (get_within us c.applying.at x inside c.index.ensures) c.in_ok-value.ensures.grew takes c.complete.ensures

pub returns : goal.returns
returns c =
    let us = c.args.arguments.items in
    let past : length us ≤ c.applying.at = omega (arith, c.args.arguments.ok.0) in
    all_taken c.args.text.now c.args.self.now
    c.applying.self c.args.application c.args.function c.applying.function us c.args.next c.applying.at c.applying.invariant past

pub complete-requires-clause-knows : goal.complete-requires-clause-knows
complete-requires-clause-knows c = c.in_ok-value.ensures.grew.knows (c.applying.invariant.grew.knows c.requires.knows)
