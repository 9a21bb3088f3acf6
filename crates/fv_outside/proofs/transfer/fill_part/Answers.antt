use Rattle.std.proofs.Common.{take, arith, length-take, sym}
use Rattle.std.proofs.lemmas.Result.{err_from_is_err_and}
use Rattle.std.proofs.lemmas.Slice.{take-put_mid_below}
use Rattle.fv_outside.proofs.lemmas.States.{part_front}
use Rattle.fv_outside.proofs.transfer.fill_part.Goals as goal

pub returns-in_err-n-clause-front : goal.returns-in_err-n-clause-front
returns-in_err-n-clause-front g c = take-put_mid_below c.args.at _ c.args.to.now c.read.new.to c.args.at (omega arith) (omega arith)

pub returns-in_err-n-clause-err : goal.returns-in_err-n-clause-err
returns-in_err-n-clause-err g c =
    let p = err_from_is_err_and c.from_residual.result c.from_residual.ensures.1 in
    let kept = c.in_err-n.ensures.err in
    rw p.1 (record {
      goes_on = c.read.ensures.goes_on;
      written = c.read.ensures.written;
      begins = c.read.ensures.begins;
      requests = c.read.ensures.asked;
      other_faults = c.read.ensures.counts.other_faults;
      others = c.read.ensures.others;
      taken = λ t. sym (kept.left t c.args.role);
    })

pub returns-in_err-n-clause-answers : goal.returns-in_err-n-clause-answers
returns-in_err-n-clause-answers g c = λ t safe. let never = c.in_err-n.ensures.answers t safe in absurd cc

pub returns-clause-steady : goal.returns-clause-steady
returns-clause-steady g c = c.in_ok-n.ensures.steady

pub returns-clause-front : goal.returns-clause-front
returns-clause-front g c = take-put_mid_below c.args.at _ c.args.to.now c.read.new.to c.args.at (omega arith) (omega arith)

pub returns-clause-taken : goal.returns-clause-taken
returns-clause-taken g c =
    let n = c.in_ok-n.n in (
      take n c.read.new.to,
      (let e = length-take n c.read.new.to in omega (arith, c.in_ok-n.ensures.count)),
      part_front c.args.to.now c.read.new.to c.args.at n _ (omega arith) c.in_ok-n.ensures.count,
      record {
        goes_on = c.read.ensures.goes_on;
        written = c.read.ensures.written;
        begins = c.read.ensures.begins;
        requests = c.read.ensures.asked;
        other_faults = c.read.ensures.counts.other_faults;
        others = c.read.ensures.others;
        taken = c.in_ok-n.ensures.taken;
      },
    )
