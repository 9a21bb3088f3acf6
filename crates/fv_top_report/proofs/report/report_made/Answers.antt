use Rattle.std.proofs.Common.{◌≡◌, List, [], ℕ, ◌++◌, ◌∙◌, subst}
use Rattle.std.specs.Prelude.{OnOk}
use Rattle.fv_outside.specs.Role.TheVariants.{Report}
use Rattle.fv_outside.specs.Desk.{Appends}
use Rattle.fv_top_report.specs.headline.Lines.{made_line}
use Rattle.fv_top_report.proofs.Pieces.{made_pieces}
use Rattle.fv_top_report.proofs.Parts.{err_as, answers_as}
use Rattle.fv_top_report.proofs.report.report_made.Given.{Over}
use Rattle.fv_top_report.proofs.report.report_made.Goals as goal
use Rattle.fv_top_report.proofs.report.report_made.Goals.{After-write_pieces}

-- the pieces are the line
line : (g : Over) (c : After-write_pieces g)
    → c.as_slice.result.now ++ (c.as_bytes.result.now ++ (c.as_slice-2.result.now ++ (c.as_bytes-2.result.now ++ (c.as_slice-3.result.now
    ++ (c.as_bytes-3.result.now ++ (c.as_slice-4.result.now ++ [])))))) ≡ made_line c.args.voices c.args.frames c.args.sum
line g c =
    made_pieces c.args.voices c.args.frames c.args.sum c.ranges.sum c.as_slice.ensures (c.as_bytes.ensures.value ∙ c.format.ensures.text)
    c.as_slice-2.ensures (c.as_bytes-2.ensures.value ∙ c.format-2.ensures.text) c.as_slice-3.ensures (c.as_bytes-3.ensures.value ∙ c.format-3.ensures.text)
    c.as_slice-4.ensures

pub returns-clause-ok : goal.returns-clause-ok
returns-clause-ok g c =
    let is = line g (goal.at.returns-clause-ok g c).After-write_pieces in
    let P : List ℕ → Type 0 = λ w. Appends Report w (g.D.Desk.state c.args.desk.now) (g.D.Desk.state c.write_pieces.new.desk) in
    subst (λ (w : List ℕ). OnOk c.write_pieces.result (P w)) is c.write_pieces.ensures.ok

pub returns-clause-err : goal.returns-clause-err
returns-clause-err g c =
    let state = g.D.Desk.state in
    let is = line g (goal.at.returns-clause-err g c).After-write_pieces in
    err_as c.write_pieces.result (state c.args.desk.now) (state c.write_pieces.new.desk) is c.write_pieces.ensures.err

pub returns-clause-answers : goal.returns-clause-answers
returns-clause-answers g c =
    let is = line g (goal.at.returns-clause-answers g c).After-write_pieces in
    answers_as c.write_pieces.result (g.D.Desk.state c.args.desk.now) is c.write_pieces.ensures.answers
