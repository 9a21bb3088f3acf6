use Rattle.std.proofs.Common.{sym, subst}
use Rattle.fv_parse.specs.Trees.{Parsed}
use Rattle.fv_eval_scopes.specs.declared.value.Value as code_value
use Rattle.fv_eval_scopes.specs.declared.value.Value.TheVariants as value
use Rattle.fv_eval.specs.inner.Continuations.{Completes, IsShown, world}
use Rattle.fv_eval.proofs.Completing.{abstraction_completes, diagram_completes, first_shown, rules_complete, rules_inside, rules_took}
use Rattle.fv_eval_drawing.proofs.lemmas.Entered.{get_within}
use Rattle.fv_eval.proofs.Taking.{bound_below, name_is_there}
use Rattle.fv_eval.proofs.machine.Machine.complete.Goals as goal

pub returns-in-Diagram : goal.returns-in-Diagram
returns-in-Diagram c =
    let p = c.args.text.now in
    let m = c.args.self.now in
    let r = c.next_turned.result in
    subst (λ (u : code_value.Value). Completes p m c.next_turned.new.self r c.args.application u c.args.arguments.items c.args.at) (sym c.in-Diagram.is)
    (diagram_completes p m c.next_turned.new.self
    r c.args.application c.in-Diagram.id c.args.arguments.items c.args.at c.new-done.result.items c.new-done.ensures.items (c.next_turned.ensures p))

pub returns-in_ok-inner-in-Abstraction : goal.returns-in_ok-inner-in-Abstraction
returns-in_ok-inner-in-Abstraction c =
    let q = c.tree-tree.result.now in
    let m = c.args.self.now in
    let n = c.leave.new.self in
    let r = c.leave.result in
    let a = c.args.application in
    let us = c.args.arguments.items in
    let at = c.args.at in
    let f = c.in-Abstraction in
    let u = c.index.result.now in
    let inner = c.in_ok-inner-in-Abstraction in
    let done = abstraction_completes q m n r c.bind.new.self a f.node f.bound f.env inner.inner c.in-Some.name c.body_of.result u us at c.in-Some.ensures
    (get_within us at u c.requires.at c.index.ensures)
    inner.ensures.ok.0 inner.ensures.ok.1 c.body_of.ensures.inside c.body_of.ensures.body (c.leave.ensures q) in
    subst (λ (x : Parsed). Completes x m n r a c.args.function us at) c.tree-tree.ensures
    (subst (λ (v : code_value.Value). Completes q m n r a v us at) (sym f.is) done)

pub choose-requires : goal.choose-requires
choose-requires c =
    let p = c.args.text.now in
    let m = c.args.self.now in
    let f = c.in-Rules in
    let us = c.args.arguments.items in
    let u = c.index-in-Rules.result.now in
    let shown = subst (λ (x : code_value.Value). IsShown (world p m) x) f.is c.requires.function in
    record {
      inside = rules_inside p m f.ruled f.env f.count f.last shown;
      taken = rules_took p m f.ruled f.env f.count f.last shown;
      argument = first_shown (world p m) us c.args.at u (get_within us c.args.at u c.requires.at c.index-in-Rules.ensures) c.requires.arguments;
      knows = c.requires.knows;
    }

pub returns-in_ok-choice-in-Rules : goal.returns-in_ok-choice-in-Rules
returns-in_ok-choice-in-Rules c =
    let p = c.args.text.now in
    let m = c.args.self.now in
    let a = c.args.application in
    let us = c.args.arguments.items in
    let at = c.args.at in
    let f = c.in-Rules in
    let u = c.index-in-Rules.result.now in
    let o = c.in_ok-choice-in-Rules in
    subst (λ (v : code_value.Value). Completes p m c.select.new.self c.select.result a v us at) (sym f.is)
    (rules_complete p m c.choose.new.self c.select.new.self c.select.result f.ruled a f.env f.count f.last u us at o.choice
    (get_within us at u c.requires.at c.index-in-Rules.ensures) o.ensures.grew o.ensures.chosen c.select.ensures)

pub unreachable-requires : goal.unreachable-requires
unreachable-requires c =
    let p = c.args.text.now in
    let q = c.tree-tree.result.now in
    let m = c.args.self.now in
    let f = c.in-Abstraction in
    let shown = subst (λ (u : code_value.Value). IsShown (world p m) u) f.is c.requires.function in
    let lent = subst (λ (x : Parsed). IsShown (world x m) (value.Abstraction f.node f.bound f.env)) (sym c.tree-tree.ensures) shown in
    name_is_there q f.node f.bound c.parameter.result (bound_below q m f.node f.bound f.env lent) c.parameter.ensures c.in_default.is
