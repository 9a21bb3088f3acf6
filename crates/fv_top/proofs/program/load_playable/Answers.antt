use Rattle.std.proofs.Common.{◌∙◌, ap, Some, Err}
use Rattle.std.proofs.lemmas.Result.{err_from_is_err_and}
use Rattle.fv_base.specs.declared.role.Role.TheVariants.{Program}
use Rattle.fv_top_report.specs.declared.refusal.Refusal.{Refusal}
use Rattle.fv_top_program.specs.headline.Kinds.{FileIs}
use Rattle.fv_top_program.specs.Kinds.{IsOfKind}
use Rattle.fv_top.specs.headline.Promise.{HasNoProgram}
use Rattle.fv_top_files.proofs.lemmas.Loads.{stops_refused}
use Rattle.fv_top.proofs.Wholes.{none_left}
use Rattle.fv_top.proofs.program.load_playable.Goals as goal

pub returns-in_err-playable-clause-err : goal.returns-in_err-playable-clause-err
returns-in_err-playable-clause-err g c =
    let state = g.D.Desk.state in
    let p = err_from_is_err_and c.from_residual.result c.from_residual.ensures.1 in
    let kind = c.args.kind in
    let name = c.args.name.now in
    let a = state c.args.desk.now in
    let Refused : Refusal → Type 0 = λ r. FileIs kind c.deref.result.now (Err r) in
    rw (p.1, p.2) (stops_refused Program (Some name) (IsOfKind kind) (HasNoProgram (FileIs kind) name a.files) Refused a (state c.read_front.new.desk) _
    c.in_err-playable.ensures.refused (λ t h.
    let read = c.in-Ok.ensures.bytes t in
    record { text = read.0; file = read.1 t; refused = c.front_is_enough.ensures.same kind read.0 c.deref.result.now _ (c.deref.ensures.value ∙ read.2) h }))

pub returns-clause-found : goal.returns-clause-found
returns-clause-found g c =
    let found = c.in_ok-playable.ensures.found in
    let kind = c.args.kind in record {
      compiled = found.0;
      text = c.deref.result.now;
      file = λ t.
          let read = c.in-Ok.ensures.bytes t in
          read.1 t ∙ ap Some (c.front_is_enough.ensures.whole kind read.0 c.deref.result.now found.0 (c.deref.ensures.value ∙ read.2) found.1);
      is = found.1;
      playable = found.2;
    }

pub returns-clause-whole : goal.returns-clause-whole
returns-clause-whole g c = λ t.
    let found = c.in_ok-playable.ensures.found in
    let read = c.in-Ok.ensures.bytes t in
    let front = c.deref.ensures.value ∙ read.2 in
    read.3 ∙ none_left 1048577 read.0 c.deref.result.now front (c.front_is_enough.ensures.whole c.args.kind read.0 c.deref.result.now found.0 front found.1)
