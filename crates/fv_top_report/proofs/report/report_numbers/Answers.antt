use Rattle.std.proofs.Common.{◌≡◌, [], ◌++◌, ◌∙◌}
use Rattle.fv_top_report.specs.headline.Lines.{check_line}
use Rattle.fv_top_report.proofs.Pieces.{numbers_line}
use Rattle.fv_top_report.proofs.Parts.{err_as, answers_as}
use Rattle.fv_top_report.proofs.report.report_numbers.Given.{Over}
use Rattle.fv_top_report.proofs.report.report_numbers.Goals as goal
use Rattle.fv_top_report.proofs.report.report_numbers.Goals.{After-write_pieces}

-- the pieces are the line
line : (g : Over) (c : After-write_pieces g)
    → c.as_slice.result.now ++ (c.as_bytes.result.now ++ (c.as_slice-2.result.now ++ (c.as_bytes-2.result.now ++ (c.as_slice-3.result.now
    ++ (c.as_bytes-3.result.now ++ (c.as_slice-4.result.now ++ (c.as_bytes-4.result.now ++ (c.as_slice-5.result.now ++ (c.as_bytes-5.result.now
    ++ (c.as_slice-6.result.now ++ [])))))))))) ≡ check_line c.args.inputs c.args.outputs c.args.controls c.args.size c.args.delays
line g c =
    numbers_line c.args.inputs c.args.outputs c.args.controls c.args.size c.args.delays c.as_slice.ensures (c.as_bytes.ensures.value ∙ c.format.ensures.text)
    c.as_slice-2.ensures (c.as_bytes-2.ensures.value ∙ c.format-2.ensures.text) c.as_slice-3.ensures (c.as_bytes-3.ensures.value ∙ c.format-3.ensures.text)
    c.as_slice-4.ensures (c.as_bytes-4.ensures.value ∙ c.format-4.ensures.text) c.as_slice-5.ensures (c.as_bytes-5.ensures.value ∙ c.format-5.ensures.text)
    c.as_slice-6.ensures

pub returns-clause-err : goal.returns-clause-err
returns-clause-err g c =
    let state = g.D.Desk.state in
    let is = line g (goal.at.returns-clause-err g c).After-write_pieces in
    err_as c.write_pieces.result (state c.args.desk.now) (state c.write_pieces.new.desk) is c.write_pieces.ensures.err

pub returns-clause-answers : goal.returns-clause-answers
returns-clause-answers g c =
    let is = line g (goal.at.returns-clause-answers g c).After-write_pieces in
    answers_as c.write_pieces.result (g.D.Desk.state c.args.desk.now) is c.write_pieces.ensures.answers
