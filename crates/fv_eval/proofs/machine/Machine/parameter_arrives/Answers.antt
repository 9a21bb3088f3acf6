use Rattle.std.proofs.Common.{◌≡◌, ℕ, ℤ, SFits, w32, to_z-of_z, [], ◌∷◌, ◌++◌, length, Some, rules, sym, ap, subst, ◌∙◌, arith}
use Rattle.std.specs.Prelude.{slice_get}
use Rattle.fv_parse_grammar.specs.headline.Tree.{start_of}
use Rattle.fv_parse.specs.Trees.{Parsed, tree_in}
use Rattle.fv_rules.specs.headline.Matching.{value_number}
use Rattle.fv_rules.specs.headline.Steps.{no_number}
use Rattle.fv_eval.specs.declared.machine.Machine as code_machine
use Rattle.fv_eval.specs.inner.Continuations.{IsSlider, parameters_of}
use Rattle.fv_eval.proofs.SliderLemmas.{GoesOn, parameter_goes, parameter_refused}
use Rattle.fv_eval.proofs.Forms.{slider_is_done}
use Rattle.fv_eval.proofs.machine.Machine.parameter_arrives.Goals as goal

pub returns-in_ok-push-in-Some : goal.returns-in_ok-push-in-Some
returns-in_ok-push-in-Some c =
    let p = c.args.text.now in
    let n = c.next_parameter.new.self in
    let r = c.next_parameter.result in
    let slider = c.args.slider in
    let e = c.args.env in
    let done = c.push.new.self.items in
    let fits : SFits w32 c.in-Some.n = search rules in
    let pushed = c.in_ok-push-in-Some.ensures.items ∙ ap (λ (i : ℤ). c.args.done.items ++ i ∷ []) (to_z-of_z fits) in
    let on = subst (λ (t : code_machine.Machine). GoesOn p t n r slider e done) c.number_in.ensures.same c.next_parameter.ensures in
    λ k label E x more v h u. parameter_goes p c.args.self.now n r slider e c.args.done.items done c.in-Some.n pushed on k label E x more (value_number v)
    (sym c.in-Some.is ∙ c.in_ok-n.ensures.number p v u) h

pub returns-in-Some-part_of : goal.returns-in-Some-part_of
returns-in-Some-part_of c =
    let p = c.args.text.now in
    let q = c.tree-tree.result.now in
    let m = c.args.self.now in
    let slider = c.args.slider in
    let id = c.in-Some-part_of.id in
    let done = c.args.done.items in
    let r = c.not_a_number.result in
    let counted : c.len.result ≡ length done = search rules in
    let part =
    subst (λ (x : Parsed). Some (tree_in x id) ≡ slice_get (parameters_of (tree_in x slider)) (length done)) c.tree-tree.ensures
    (c.in-Some-part_of.ensures.part ∙ ap (λ (i : ℕ). slice_get (parameters_of (tree_in q slider)) i) counted) in
    let is = subst (λ (x : Parsed). r ≡ no_number x.tokens (start_of (tree_in x id))) c.tree-tree.ensures c.not_a_number.ensures in
    λ k label E x more v h u. parameter_refused p m m slider c.args.env id done r part is k label E x more
    (value_number v) (sym c.in-None.is ∙ c.in_ok-n.ensures.number p v u) h

pub unreachable-requires : goal.unreachable-requires
unreachable-requires c =
    let p = c.args.text.now in
    let q = c.tree-tree.result.now in
    let slider = c.args.slider in
    let done = c.args.done.items in
    let counted : c.len.result ≡ length done = search rules in
    let form = subst (λ (x : Parsed). IsSlider (tree_in x slider)) (sym c.tree-tree.ensures) c.requires.form in
    let none = c.in-None-part_of.ensures.part ∙ ap (λ (i : ℕ). slice_get (parameters_of (tree_in q slider)) i) counted in
    let four = slider_is_done (tree_in q slider) (length done) form none in
    omega (arith, four, c.requires.left)
