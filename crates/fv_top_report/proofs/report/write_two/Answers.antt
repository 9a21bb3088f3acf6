use Rattle.std.proofs.Common.{[], ◌∷◌}
use Rattle.fv_top_report.specs.headline.Lines.{spaced}
use Rattle.fv_top_report.specs.Fields.{printed}
use Rattle.std.proofs.lemmas.Result.{err_from_is_err_and}
use Rattle.fv_top_report.proofs.Parts.{part_before, part_behind}
use Rattle.fv_top_report.proofs.report.write_two.Goals as goal

pub returns-in_err-write_field-clause-err : goal.returns-in_err-write_field-clause-err
returns-in_err-write_field-clause-err g c =
    let p = err_from_is_err_and c.from_residual.result c.from_residual.ensures.1 in
    rw p.1 (part_before (spaced (printed c.args.b.now ∷ [])) c.in_err-write_field.ensures.err)

pub returns-in_err-write_one-clause-err : goal.returns-in_err-write_one-clause-err
returns-in_err-write_one-clause-err g c =
    let p = err_from_is_err_and c.from_residual-in_err-write_one.result c.from_residual-in_err-write_one.ensures.1 in
    rw p.1 (part_behind c.in_ok-write_field.ensures.ok c.in_err-write_one.ensures.err)
