use Rattle.std.proofs.Common.{◌≡◌, length, ◌∙◌, ap}
use Rattle.std.specs.Prelude.{Some, sum}
use Rattle.std.proofs.lemmas.Result.{err_from_is_err_and}
use Rattle.fv_diagram.specs.Arena.{tree_of}
use Rattle.fv_diagram.specs.headline.Diagram.{inputs, outputs, size}
use Rattle.fv_eval.specs.Evaluated.{Evaluated}
use Rattle.fv_top_report.specs.headline.Lines.{check_line}
use Rattle.fv_top.specs.headline.Meant.{check_meant}
use Rattle.fv_top_program.specs.headline.Program.{TextIs}
use Rattle.fv_top_program.specs.Program.{IsOfText}
use Rattle.fv_top.specs.headline.Promise.{HasNoProgram}
use Rattle.fv_base.specs.declared.role.Role.TheVariants.{Program}
use Rattle.fv_top_program.specs.Compiled.{compiled_of}
use Rattle.fv_top.proofs.Reaching.{FailsToLoad}
use Rattle.fv_top.proofs.Checking.{check_stops, check_tells, check_done, numbers_same}
use Rattle.fv_top.proofs.check.check.Given.{Over}
use Rattle.fv_top.proofs.check.check.Goals as goal
use Rattle.fv_top.proofs.check.check.Goals.{After-report_numbers}

pub returns-in_err-program-clause-stops : goal.returns-in_err-program-clause-stops
returns-in_err-program-clause-stops g c =
    let name = c.args.name.now in
    let a = g.D.Desk.state c.args.desk.now in
    let fails : FailsToLoad Program (Some name) IsOfText (HasNoProgram TextIs name a.files) a (g.D.Desk.state c.load_program.new.desk)
    c.in_err-program.field-0.0 = record {
      reads = c.load_program.ensures.reads;
      stops = c.in_err-program.ensures.err;
      steady = λ other. c.in_err-program.ensures.steady (λ is. other cc);
    } in
    let q = err_from_is_err_and c.from_residual.result c.from_residual.ensures.1 in
    rw (q.1, q.2) (check_stops fails)

-- the numbers that are reported are those of the program
same_line : (g : Over) (c : After-report_numbers g)
    → check_line c.arity-arity.result.inputs c.arity-arity.result.outputs (length c.as_slice.result.now) c.size-size.result c.sum.result
    ≡ (check_meant (compiled_of c.in_ok-program.program)).line
same_line g c =
    let v = c.program.view_is in
    numbers_same (c.arity-arity.ensures.arity.0 ∙ ap (λ (e : Evaluated). inputs (tree_of e.diagrams e.root)) v)
    (c.arity-arity.ensures.arity.1 ∙ ap (λ (e : Evaluated). outputs (tree_of e.diagrams e.root)) v)
    (ap length (c.as_slice.ensures ∙ ap (λ (e : Evaluated). e.controls) v))
    (c.size-size.ensures.size ∙ ap (λ (e : Evaluated). size (tree_of e.diagrams e.root)) v)
    (c.sum.ensures ∙ ap sum c.in_ok-program.ensures.delays.are)

pub returns-in-Ok-clause-done : goal.returns-in-Ok-clause-done
returns-in-Ok-clause-done g c =
    let is = same_line g (goal.at.returns-in-Ok-clause-done g c).After-report_numbers in
    check_done c.args.name.now (compiled_of c.in_ok-program.program) (g.D.Desk.state c.args.desk.now) (g.D.Desk.state c.load_program.new.desk)
    (g.D.Desk.state c.report_numbers.new.desk) c.load_program.ensures.reads (c.in_ok-program.ensures.steady (λ e. absurd cc)) c.in_ok-program.ensures.spelled
    _ is c.in_ok-program.ensures.whole c.in-Ok.ensures.ok c.in-Ok.ensures.steady

pub returns-clause-stops : goal.returns-clause-stops
returns-clause-stops g c =
    let is = same_line g (goal.at.returns-clause-stops g c).After-report_numbers in
    check_tells c.args.name.now (compiled_of c.in_ok-program.program) (g.D.Desk.state c.args.desk.now) (g.D.Desk.state c.load_program.new.desk)
    (g.D.Desk.state c.report_numbers.new.desk) c.load_program.ensures.reads (c.in_ok-program.ensures.steady (λ e. absurd cc)) c.in_ok-program.ensures.spelled
    _ is c.in-Err.ensures.err c.in-Err.ensures.failed (λ t sure room. let answered = c.in-Err.ensures.answers t sure room in absurd cc)
