use Rattle.std.proofs.Common.{◌≡◌, ℕ, length, rules, ap, ◌∙◌}
use Rattle.std.specs.Prelude.{slice_get}
use Rattle.fv_parse.specs.Trees.{tree_in}
use Rattle.fv_eval.specs.inner.Continuations.{parameters_of}
use Rattle.fv_eval.proofs.SliderLemmas.{slider_ends}
use Rattle.fv_eval.proofs.machine.Machine.next_parameter.Goals as goal

pub returns-in-None : goal.returns-in-None
returns-in-None c =
    let q = c.tree-tree.result.now in
    let slider = c.args.slider in
    let done = c.args.done.items in
    let counted : c.len.result ≡ length done = search rules in
    slider_ends c.args.text.now q c.args.self.now
    c.finish_slider.new.self c.finish_slider.result slider c.args.env done c.as_slice.result.now c.tree-tree.ensures c.as_slice.ensures.value
    (c.in-None.ensures.part ∙ ap (λ (i : ℕ). slice_get (parameters_of (tree_in q slider)) i) counted) c.finish_slider.ensures
