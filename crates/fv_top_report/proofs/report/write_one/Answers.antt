use Rattle.std.proofs.Common.{[]}
use Rattle.std.proofs.lemmas.Result.{err_from_is_err_and}
use Rattle.fv_top_report.proofs.Parts.{part_before, last_piece}
use Rattle.fv_top_report.proofs.report.write_one.Goals as goal

pub returns-in_err-write_field-clause-err : goal.returns-in_err-write_field-clause-err
returns-in_err-write_field-clause-err g c =
    let p = err_from_is_err_and c.from_residual.result c.from_residual.ensures.1 in
    rw p.1 (part_before [] c.in_err-write_field.ensures.err)

pub returns-clause-ok : goal.returns-clause-ok
returns-clause-ok g c = last_piece c.in_ok-write_field.ensures.ok
