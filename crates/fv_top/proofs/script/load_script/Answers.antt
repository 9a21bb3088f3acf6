use Rattle.std.proofs.Common.{◌≡◌, ◌∙◌, [], sym, ap, refl}
use Rattle.std.specs.Prelude.{Err, Ok, Some, None}
use Rattle.std.proofs.lemmas.Result.{err_from_is_err_and}
use Rattle.fv_base.specs.declared.role.Role.TheVariants.{Controls}
use Rattle.fv_control.specs.headline.Script.{script}
use Rattle.fv_top_report.specs.declared.refusal.Refusal.{Refusal}
use Rattle.fv_top_files.specs.headline.Sources.{scripted}
use Rattle.fv_top_report.specs.headline.Layers.{of_script}
use Rattle.fv_top_files.specs.headline.Loading.{HasScript}
use Rattle.fv_top.specs.inner.Promise.{IsScriptRefusal}
use Rattle.fv_top_files.proofs.lemmas.Loads.{stops_refused}
use Rattle.fv_top.proofs.Scripts.{script_is, script_refused, no_script}
use Rattle.fv_top.proofs.Wholes.{script_whole}
use Rattle.fv_top.proofs.script.load_script.Goals as goal

pub returns-in_err-script-in-None-clause-err : goal.returns-in_err-script-in-None-clause-err
returns-in_err-script-in-None-clause-err g c =
    let state = g.D.Desk.state in
    let cs = c.args.controls.now in
    let e = c.in_err-script-in-None.field-0.0 in
    let p = err_from_is_err_and c.from_residual.result c.from_residual.ensures.1 in
    let a = state c.args.desk.now in
    let Says : Refusal → Type 0 = λ r. HasScript None a.files cs (Err r) in
    rw (p.1, c.in-None.is) (stops_refused Controls None IsScriptRefusal Says (λ (r : Refusal). script cs [] ≡ Err e) a a _
    (script_refused e _ (script cs [] ≡ Err e) p.2 c.in_err-script-in-None.ensures.refused) (λ t q. let f = sym (no_script cs) ∙ q in absurd cc))

pub returns-in-None-clause-spelled : goal.returns-in-None-clause-spelled
returns-in-None-clause-spelled g c = λ t.
    rw c.in-None.is (record { bytes = None; file = refl; is = ap scripted (sym (no_script c.args.controls.now) ∙ c.in_ok-script-in-None.ensures.spelled) })

pub returns-in-None-clause-order : goal.returns-in-None-clause-order
returns-in-None-clause-order g c = (c.scripts_are_lawful.ensures _ _ _ c.in_ok-script-in-None.ensures.spelled).0

pub returns-in-None-clause-lawful : goal.returns-in-None-clause-lawful
returns-in-None-clause-lawful g c = (c.scripts_are_lawful.ensures _ _ _ c.in_ok-script-in-None.ensures.spelled).1

pub returns-in_err-script-clause-err : goal.returns-in_err-script-clause-err
returns-in_err-script-clause-err g c =
    let state = g.D.Desk.state in
    let cs = c.args.controls.now in
    let bytes = c.deref.result.now in
    let e = c.in_err-script.field-0.0 in
    let p = err_from_is_err_and c.from_residual-in_err-script.result c.from_residual-in_err-script.ensures.1 in
    let name = c.in-Some.name.now in
    let a = state c.args.desk.now in
    let Says : Refusal → Type 0 = λ r. HasScript (Some name) a.files cs (Err r) in
    rw (p.1, c.in-Some.is, p.2) (stops_refused Controls (Some name) IsScriptRefusal Says
    (λ (r : Refusal). (r ≡ of_script e) × (script cs bytes ≡ Err e)) a (state c.read_front.new.desk) _
    (script_refused e _ ((of_script e ≡ of_script e) × (script cs bytes ≡ Err e)) refl (λ o. (refl, c.in_err-script.ensures.refused o)))
    (λ t q.
    let read = c.in-Ok.ensures.bytes t in
    script_is name a.files cs read.0 bytes (Err e) (read.1 t) (c.deref.ensures.value ∙ read.2) q.1))

pub returns-clause-spelled : goal.returns-clause-spelled
returns-clause-spelled g c = λ t.
    let state = g.D.Desk.state in
    let read = c.in-Ok.ensures.bytes t in
    let files = (state c.args.desk.now).files in
    let same = c.deref.ensures.value ∙ read.2 in
    rw c.in-Some.is (script_is c.in-Some.name.now files c.args.controls.now read.0 c.deref.result.now (Ok c.in_ok-script.script) (read.1 t) same
    c.in_ok-script.ensures.spelled)

pub returns-clause-order : goal.returns-clause-order
returns-clause-order g c = (c.scripts_are_lawful.ensures _ _ _ c.in_ok-script.ensures.spelled).0

pub returns-clause-lawful : goal.returns-clause-lawful
returns-clause-lawful g c = (c.scripts_are_lawful.ensures _ _ _ c.in_ok-script.ensures.spelled).1

pub returns-in-None-clause-whole : goal.returns-in-None-clause-whole
returns-in-None-clause-whole g c = λ t. rw c.in-None.is (λ some. absurd cc)

pub returns-clause-whole : goal.returns-clause-whole
returns-clause-whole g c = λ t some.
    let read = c.in-Ok.ensures.bytes t in
    read.3 ∙ script_whole c.args.controls.now read.0 c.deref.result.now c.in_ok-script.script (c.deref.ensures.value ∙ read.2) c.in_ok-script.ensures.spelled
