use Rattle.std.proofs.Common.{◌≡◌, ◌-◌, ◌∙◌, sym, arith, length, length-drop, take, drop}
use Rattle.std.proofs.lemmas.List.{take_all, append-nil}
use Rattle.std.proofs.lemmas.Result.{IfOk-weaker, on_err_weaker}
use Rattle.fv_outside.proofs.transfer.write_part.Goals as goal

pub returns-clause-ok : goal.returns-clause-ok
returns-clause-ok g c =
    let bytes = c.args.bytes.now in
    let at = c.args.at in
    let call = c.write.ensures in
    let whole : take (length bytes - at) (drop at bytes) ≡ drop at bytes = take_all _ _ (omega (arith, length-drop at bytes)) in
    IfOk-weaker c.write.result _ _
    (λ n appended. record {
      goes_on = call.goes_on;
      begins = call.begins;
      requests = call.asked;
      other_faults = call.counts.other_faults;
      others = call.others;
      left = call.left;
      appended = appended;
    }) (simp whole at call.appended)

pub returns-clause-err : goal.returns-clause-err
returns-clause-err g c =
    let call = c.write.ensures in
    on_err_weaker c.write.result
    (λ kept. record {
      goes_on = call.goes_on;
      begins = call.begins;
      requests = call.asked;
      other_faults = call.counts.other_faults;
      others = call.others;
      left = call.left;
      appended = λ t. kept.written t c.args.role ∙ sym (append-nil _);
    }) call.err

pub returns-clause-steady : goal.returns-clause-steady
returns-clause-steady g c = c.write.ensures.steady

pub returns-clause-answers : goal.returns-clause-answers
returns-clause-answers g c = c.write.ensures.answers
