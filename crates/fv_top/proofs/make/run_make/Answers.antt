use Rattle.std.proofs.Common.{refl, ap, inl, inr, to_z, of_z, to_z-of_z, SFits, w32, rules}
use Rattle.std.proofs.lemmas.Result.{err_from_is_err_and}
use Rattle.fv_top.proofs.Making.{same_sum, not_the_report, make_stops, make_tells, make_done}
use Rattle.fv_top.proofs.make.run_make.Goals as goal

pub returns-in_err-made-clause-stops : goal.returns-in_err-made-clause-stops
returns-in_err-made-clause-stops g c =
    let q = err_from_is_err_and c.from_residual.result c.from_residual.ensures.1 in
    rw (q.1, q.2) (make_stops c.args.voices c.args.frames c.args.workers (g.D.Desk.state c.args.desk.now) c.in_err-made.field-0.0 c.in_err-made.ensures.none)

pub returns-in_err-made-clause-so_far : goal.returns-in_err-made-clause-so_far
returns-in_err-made-clause-so_far g c =
    let q = err_from_is_err_and c.from_residual.result c.from_residual.ensures.1 in
    rw (q.1, q.2) (inl (ap g.G.Gate.told c.in_err-made.ensures.err, not_the_report _ c.in_err-made.ensures.none))

pub returns-in-Ok-clause-done : goal.returns-in-Ok-clause-done
returns-in-Ok-clause-done g c =
    let state = g.D.Desk.state in
    let made = c.in_ok-made.made in
    let fits : SFits w32 made.sum = search rules in
    let sum = same_sum {n = to_z w32 (of_z w32 made.sum)} (to_z-of_z fits) c.in_ok-made.ensures.sum in
    make_done c.args.voices c.args.frames c.args.workers _ sum (state c.args.desk.now) (state c.report_made.new.desk) c.in-Ok.ensures.ok c.in-Ok.ensures.steady

pub returns-in-Err-clause-stops : goal.returns-in-Err-clause-stops
returns-in-Err-clause-stops g c =
    let state = g.D.Desk.state in
    let made = c.in_ok-made.made in
    let fits : SFits w32 made.sum = search rules in
    let sum = same_sum {n = to_z w32 (of_z w32 made.sum)} (to_z-of_z fits) c.in_ok-made.ensures.sum in
    make_tells c.args.voices c.args.frames c.args.workers _ sum (state c.args.desk.now) (state c.report_made.new.desk) c.in-Err.ensures.err
    c.in-Err.ensures.failed
    (λ t sure room. let answered = c.in-Err.ensures.answers t sure room in absurd cc)

pub returns-in-Err-clause-so_far : goal.returns-in-Err-clause-so_far
returns-in-Err-clause-so_far g c =
    let ran = c.in_ok-made.made.ran in
    inr (refl, record { blocks = ran.blocks; loops = ran.loops; runs = ran.loop_runs; ran = c.in_ok-made.ensures.ran })
