use Rattle.std.proofs.Common.{refl, inl}
use Rattle.std.specs.Prelude.{Some}
use Rattle.std.proofs.lemmas.Result.{err_from_is_err_and}
use Rattle.fv_outside.specs.Role.TheVariants.{Input}
use Rattle.fv_outside.proofs.lemmas.States.{told_before, goes_on_self, answers_next}
use Rattle.fv_top_files.specs.Loading.{ReadsFile}
use Rattle.fv_top_files.specs.Loaded.{held_in}
use Rattle.fv_top_files.proofs.Heads.{head_none, head_of_file, head_stops}
use Rattle.fv_top_files.proofs.lemmas.Loads.{reads_begun}
use Rattle.fv_top_files.proofs.input.load_head.Goals as goal

pub returns-in-None-clause-headed : goal.returns-in-None-clause-headed
returns-in-None-clause-headed g c = λ t. rw c.in-None.is (head_none c.args.kind _ _)

pub returns-in-Err-clause-err : goal.returns-in-Err-clause-err
returns-in-Err-clause-err g c =
    rw c.in-Some.is (inl (
      refl,
      record {
        named = refl;
        fault = c.in-Err.ensures.failed;
        unsure = λ t sure.
            let answered = c.in-Err.ensures.answers t (answers_next Input (goes_on_self (g.D.Desk.state c.args.desk.now)) t sure.0) sure.1 in
            absurd cc;
      },
    ))

pub returns-in_err-loaded-clause-err : goal.returns-in_err-loaded-clause-err
returns-in_err-loaded-clause-err g c =
    let state = g.D.Desk.state in
    let begun = c.in-Ok.ensures in
    let reads : ReadsFile Input (Some c.in-Some.name.now) (state c.args.desk.now) (state c.begin_read.new.self) =
    reads_begun begun.goes_on begun.counts begun.asked begun.others begun.written begun.begins in
    let p = err_from_is_err_and c.from_residual.result c.from_residual.ensures.1 in
    rw (p.1, p.2, c.in-Some.is) (head_stops c.in_err-loaded.field-0.0 reads begun.file c.in_err-loaded.ensures.err)

pub returns-clause-headed : goal.returns-clause-headed
returns-clause-headed g c = λ t.
    let begun = c.in-Ok.ensures in
    let told = told_before begun.goes_on t in
    let l = c.in_ok-loaded.loaded in
    rw c.in-Some.is (head_of_file c.args.kind c.in-Some.name.now _ _ l.head (held_in l) _ (begun.file t) (c.in_ok-loaded.ensures.headed told))
