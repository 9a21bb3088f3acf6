use Rattle.std.proofs.Common.{◌∙◌, ap, Some}
use Rattle.std.proofs.lemmas.Result.{err_from_is_err_and}
use Rattle.fv_base.specs.declared.role.Role.TheVariants.{Program}
use Rattle.fv_top_words.specs.declared.manner.ProgramKind.TheVariants.{Alone}
use Rattle.fv_top_program.specs.headline.Program.{TextIs}
use Rattle.fv_top_program.specs.Program.{IsRefusedText, IsOfText}
use Rattle.fv_top.specs.headline.Promise.{HasNoProgram}
use Rattle.fv_top_files.proofs.lemmas.Loads.{stops_refused}
use Rattle.fv_top.proofs.Wholes.{none_left}
use Rattle.fv_top.proofs.program.load_program.Goals as goal

pub returns-in_err-program-clause-err : goal.returns-in_err-program-clause-err
returns-in_err-program-clause-err g c =
    let state = g.D.Desk.state in
    let p = err_from_is_err_and c.from_residual.result c.from_residual.ensures.1 in
    let name = c.args.name.now in
    let a = state c.args.desk.now in
    rw (p.1, p.2) (stops_refused Program (Some name) IsOfText (HasNoProgram TextIs name a.files) (IsRefusedText c.deref.result.now) a
    (state c.read_front.new.desk) _ c.in_err-program.ensures.refused (λ t h.
    let read = c.in-Ok.ensures.bytes t in
    record { text = read.0; file = read.1 t; refused = c.front_is_enough.ensures.same Alone read.0 c.deref.result.now _ (c.deref.ensures.value ∙ read.2) h }))

pub returns-clause-spelled : goal.returns-clause-spelled
returns-clause-spelled g c = (
  c.deref.result.now,
  λ t.
      let read = c.in-Ok.ensures.bytes t in
      read.1 t ∙ ap Some (c.front_is_enough.ensures.whole Alone read.0 c.deref.result.now _ (c.deref.ensures.value ∙ read.2) c.in_ok-program.ensures.found),
  c.in_ok-program.ensures.found,
)

pub returns-clause-whole : goal.returns-clause-whole
returns-clause-whole g c = λ t.
    let read = c.in-Ok.ensures.bytes t in
    let front = c.deref.ensures.value ∙ read.2 in
    read.3 ∙ none_left 1048577 read.0 c.deref.result.now front
    (c.front_is_enough.ensures.whole Alone read.0 c.deref.result.now _ front c.in_ok-program.ensures.found)
