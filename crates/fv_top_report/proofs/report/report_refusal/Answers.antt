use Rattle.std.proofs.Common.{◌≡◌, ℕ, List, ◌++◌, sym, ◌∙◌, ap, subst}
use Rattle.std.specs.Prelude.{codes, decimal}
use Rattle.std.proofs.lemmas.Result.{err_from_is_err_and}
use Rattle.fv_outside.specs.Role.TheVariants.{Report}
use Rattle.fv_outside.specs.Desk.{Appends}
use Rattle.fv_outside.proofs.lemmas.States.{appends_then}
use Rattle.fv_top_report.specs.headline.Lines.{spaced, row_line, refused_line}
use Rattle.fv_top_report.specs.Fields.{listed, shown}
use Rattle.fv_top_report.specs.Parts.{AppendsPart}
use Rattle.fv_top_report.proofs.Parts.{part_before, part_behind, line_pieces}
use Rattle.fv_top_report.proofs.report.report_refusal.Given.{Over}
use Rattle.fv_top_report.proofs.report.report_refusal.Goals as goal
use Rattle.fv_top_report.proofs.report.report_refusal.Goals.{After-write_front}

-- the pieces are the line
line : (g : Over) (c : After-write_front g) →
    let r = c.row-row.result in
    (codes "refused " ++ decimal r.number ++ codes " " ++ r.name.now) ++ (spaced (listed r.fields) ++ codes "\n") ≡ refused_line c.args.refusal.now
line g c = line_pieces (shown c.row-row.result) ∙ ap row_line (sym c.row-row.ensures)

pub returns-in_err-write_front-clause-err : goal.returns-in_err-write_front-clause-err
returns-in_err-write_front-clause-err g c =
    let is = line g (goal.at.returns-in_err-write_front-clause-err g c).After-write_front in
    let P : List ℕ → Type 0 = λ w. AppendsPart Report w (g.D.Desk.state c.args.desk.now) (g.D.Desk.state c.write_front.new.desk) in
    let p = err_from_is_err_and c.from_residual.result c.from_residual.ensures.1 in
    rw p.1 (subst P is (part_before (spaced (listed c.row-row.result.fields) ++ codes "\n") c.in_err-write_front.ensures.err))

pub returns-in_err-write_fields-clause-err : goal.returns-in_err-write_fields-clause-err
returns-in_err-write_fields-clause-err g c =
    let is = line g (goal.at.returns-in_err-write_fields-clause-err g c).After-write_front in
    let P : List ℕ → Type 0 = λ w. AppendsPart Report w (g.D.Desk.state c.args.desk.now) (g.D.Desk.state c.write_fields.new.desk) in
    let p = err_from_is_err_and c.from_residual-in_err-write_fields.result c.from_residual-in_err-write_fields.ensures.1 in
    rw p.1 (subst P is (part_behind c.in_ok-write_front.ensures.ok (part_before (codes "\n") c.in_err-write_fields.ensures.err)))

pub returns-in_err-write_all-clause-err : goal.returns-in_err-write_all-clause-err
returns-in_err-write_all-clause-err g c =
    let is = line g (goal.at.returns-in_err-write_all-clause-err g c).After-write_front in
    let P : List ℕ → Type 0 = λ w. AppendsPart Report w (g.D.Desk.state c.args.desk.now) (g.D.Desk.state c.write_all.new.desk) in
    let p = err_from_is_err_and c.from_residual-in_err-write_all.result c.from_residual-in_err-write_all.ensures.1 in
    rw p.1 (subst P is (part_behind c.in_ok-write_front.ensures.ok (part_behind c.in_ok-write_fields.ensures.ok c.in_err-write_all.ensures.err)))

pub returns-clause-ok : goal.returns-clause-ok
returns-clause-ok g c =
    let is = line g (goal.at.returns-clause-ok g c).After-write_front in
    subst (λ (w : List ℕ). Appends Report w (g.D.Desk.state c.args.desk.now) (g.D.Desk.state c.write_all.new.desk)) is
    (appends_then c.in_ok-write_front.ensures.ok (appends_then c.in_ok-write_fields.ensures.ok c.in_ok-write_all.ensures.ok))
