use Rattle.std.proofs.Common.{◌≡◌, ◌&&◌, true, List, Some, rules, sym, subst, ◌∙◌}
use Rattle.std.specs.Prelude.{int_le, slice_get}
use Rattle.fv_diagram.specs.declared.control.ControlInfo.{ControlInfo}
use Rattle.fv_eval_drawing.specs.Controls.{info_of}
use Rattle.fv_eval_drawing.proofs.lemmas.Again.{again}
use Rattle.fv_eval_drawing.proofs.lemmas.Entered.{get_within}
use Rattle.fv_eval_drawing.proofs.controls.Controls.is_again.Goals as goal

pub returns-in-Some : goal.returns-in-Some
returns-in-Some c = λ yes label h.
    let a = c.args in
    let r = a.range.now in
    let x = c.in-Some.known.now in
    let bounds : (int_le r.min r.init && int_le r.init r.max) ≡ true = search rules in
    let at : slice_get a.self.now a.number ≡ Some x =
    subst (λ (xs : List ControlInfo). slice_get xs a.number ≡ Some x) (c.deref.ensures.value ∙ c.self.view_is)
    (get_within c.deref.result.now a.number x c.in-Some.ensures.lookup.3.0 c.in-Some.ensures.lookup.1) in
    again a.self.now (info_of r label) x a.number bounds h at (sym (c.is_again.ensures label) ∙ yes)
