use Rattle.fv_top.proofs.Refused.{line_reported}
use Rattle.fv_top.proofs.run.refuse.Goals as goal

pub returns : goal.returns
returns g c =
    let state = g.D.Desk.state in
    let told = c.report_refusal.ensures in
    line_reported c.report_refusal.result c.args.refusal.now (state c.args.desk.now) (state c.report_refusal.new.desk) told.ok told.err told.failed
