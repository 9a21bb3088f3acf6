use Rattle.std.proofs.Common.{◌≡◌, ◌<◌, ℕ, List, length, sym, ap, ◌∙◌, subst, rules}
use Rattle.std.proofs.lemmas.List.{length-map}
use Rattle.std.specs.List.{AllByRecursion}
use Rattle.fv_diagram.specs.declared.control.ControlInfo.{ControlInfo}
use Rattle.fv_control.specs.declared.script.Change.{Change}
use Rattle.fv_engine_render_tests.proofs.cases.steps_of.Goals as goal

pub play_script-requires-clause-named : goal.play_script-requires-clause-named
play_script-requires-clause-named c =
    let controls = c.as_slice-controls.result.now in
    let long = length-map controls (λ (i : ControlInfo). i.init) in
    let e : length c.deref.result.now ≡ length controls = ap length (c.deref.ensures.value ∙ c.in_ok-initial.ensures) ∙ long in
    let q : c.changes.result.now ≡ c.in_ok-script.script = search rules in
    subst (λ (n : ℕ). AllByRecursion (λ (x : Change). x.control < n) c.changes.result.now) (sym e)
    (subst (λ (cs : List Change). AllByRecursion (λ (x : Change). x.control < length controls) cs) (sym q) c.in_ok-script.ensures.named)
