use Rattle.std.proofs.Common.{◌≡◌, Err, List, ap, rules, sym, subst, ◌∙◌}
use Rattle.std.specs.Prelude.{Option}
use Rattle.fv_parse_grammar.specs.headline.Tree.{start_of}
use Rattle.fv_parse.specs.Trees.{Parsed, tree_in}
use Rattle.fv_parse.specs.TreeId.{TreeId}
use Rattle.fv_eval_scopes.specs.declared.value.Binding as code_binding
use Rattle.fv_rules.specs.headline.Steps.{no_rule}
use Rattle.fv_eval.specs.inner.Continuations.{Selects}
use Rattle.fv_eval.proofs.Completing.{BindsAll, chose, refuses}
use Rattle.fv_eval.proofs.machine.Machine.select.Goals as goal

pub returns-in_ok-inner-in-Some : goal.returns-in_ok-inner-in-Some
returns-in_ok-inner-in-Some c =
    let p = c.args.text.now in
    let m = c.args.self.now in
    let n = c.leave.new.self in
    let r = c.leave.result in
    let found = c.in-Some in
    let inner = c.in_ok-inner-in-Some in
    let bound : c.as_slice.result.now ≡ found.chosen.1 = first_of (cc, search rules) in
    let binds : BindsAll m c.bind_all.new.self c.args.env inner.inner found.chosen.1 =
    record { grows = inner.ensures.grows; same = inner.ensures.taken; bound = rw bound at inner.ensures.bound } in
    subst (λ (o : Option (TreeId × List code_binding.Binding)). Selects p m n r c.args.application o c.args.env c.args.arguments.items c.args.at) (sym found.is)
    (chose p m n r c.bind_all.new.self c.args.application found.chosen.0 c.args.env inner.inner found.chosen.1 c.args.arguments.items c.args.at binds
    (c.leave.ensures p))

pub returns-in-None : goal.returns-in-None
returns-in-None c =
    let p = c.args.text.now in
    let m = c.args.self.now in
    let a = c.args.application in
    let us = c.args.arguments.items in
    let refusal = c.no_rule.ensures ∙ ap (λ (x : Parsed). no_rule x.tokens (start_of (tree_in x a))) c.tree.ensures in
    subst (λ (o : Option (TreeId × List code_binding.Binding)). Selects p m m (Err c.no_rule.result) a o c.args.env us c.args.at) (sym c.in-None.is)
    (refuses p m c.no_rule.result a c.args.env us c.args.at refusal)
