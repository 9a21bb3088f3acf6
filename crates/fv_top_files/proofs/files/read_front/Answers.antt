use Rattle.std.proofs.Common.{◌≡◌, Err, Some, refl}
use Rattle.std.proofs.lemmas.Result.{err_from_is_err_and}
use Rattle.fv_outside.specs.declared.transfer.ReadError.TheVariants.{Failed}
use Rattle.fv_outside.proofs.lemmas.States.{told_before, goes_on_self, answers_next}
use Rattle.fv_top_files.specs.Loading.{ReadsFile}
use Rattle.fv_top_files.proofs.lemmas.Loads.{reads_begun, cannot_later}
use Rattle.fv_top_files.proofs.files.read_front.Goals as goal

pub returns-in_err-begin_read-clause-failed : goal.returns-in_err-begin_read-clause-failed
returns-in_err-begin_read-clause-failed g c = λ is. record {
  named = refl;
  fault = c.in_err-begin_read.ensures.failed;
  unsure = λ t sure.
      let answered = c.in_err-begin_read.ensures.answers t (answers_next c.args.role (goes_on_self (g.D.Desk.state c.args.desk.now)) t sure.0) sure.1 in
      absurd cc;
}

pub returns-in_err-bytes-clause-failed : goal.returns-in_err-bytes-clause-failed
returns-in_err-bytes-clause-failed g c = λ is.
    let state = g.D.Desk.state in
    let begun = c.in_ok-begin_read.ensures in
    let reads : ReadsFile c.args.role (Some c.args.name.now) (state c.args.desk.now) (state c.begin_read.new.self) =
    reads_begun begun.goes_on begun.counts begun.asked begun.others begun.written begun.begins in
    let p = err_from_is_err_and c.from_residual-in_err-bytes.result c.from_residual-in_err-bytes.ensures.1 in
    let failed : c.read_up_to.result ≡ Err Failed = cc (p.1, p.2, is) in
    cannot_later reads (c.read_up_to.ensures.failed failed) (λ u safe. c.read_up_to.ensures.answers u safe failed)

pub returns-clause-bytes : goal.returns-clause-bytes
returns-clause-bytes g c = λ t.
    let taken = c.in_ok-bytes.ensures.taken (told_before c.in_ok-begin_read.ensures.goes_on t) in
    (_, λ u. c.in_ok-begin_read.ensures.file t, taken.0, taken.1)
