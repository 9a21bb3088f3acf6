use Rattle.std.proofs.Common.{◌≡◌, ◌-◌, ◌∙◌, length, sym, ap, arith, rules}
use Rattle.std.proofs.lemmas.Result.{err_from_is_err_and}
use Rattle.fv_wav.specs.headline.Reading.{is_form}
use Rattle.fv_wav.proofs.lemmas.Steps.{stops_as, same_rest}
use Rattle.fv_wav.proofs.lemmas.Begun.{next_behind, none_behind, filled_behind}
use Rattle.fv_wav.proofs.ChunkKinds.{wave_short, wave_not, wave_walk}
use Rattle.fv_wav.proofs.chunks.read_form.Goals as goal

pub returns-in_err-take_all-clause-err : goal.returns-in_err-take_all-clause-err
returns-in_err-take_all-clause-err g c =
    let p = err_from_is_err_and c.from_residual.result c.from_residual.ensures.1 in
    let n : length c.take_all.new.to ≡ 12 - length c.args.begun.now = search rules in
    rw (p.1, p.2) (stops_as _ c.in_err-take_all.ensures.err (λ a. wave_short _ _ _ (none_behind c.args.begun.now _ _ _ a) (omega (arith, n, c.requires))))

pub returns-then-not-is_form-clause-err : goal.returns-then-not-is_form-clause-err
returns-then-not-is_form-clause-err g c =
    let n : length c.take_all.new.to ≡ 12 - length c.args.begun.now = search rules in
    record {
      some = record { bytes = c.in_ok-take_all.ensures.ok.bytes; takes = c.in_ok-take_all.ensures.ok.takes };
      cause = record {
        steady = c.in_ok-take_all.ensures.ok.steady;
        told = λ t.
            wave_not _ _ _ _ (next_behind c.args.begun.now _ c.take_all.new.to _ _ _ (c.in_ok-take_all.ensures.ok.told t)) (omega (arith, n, c.requires))
            (ap is_form (sym (filled_behind 12 c.args.begun.now c.copy_from_slice.new.self _ c.take_all.new.to c.requires c.copy_from_slice.ensures.after
            (search rules))) ∙ sym c.if-not-is_form.ensures);
      };
    }

pub returns-clause-ok : goal.returns-clause-ok
returns-clause-ok g c =
    let n : length c.take_all.new.to ≡ 12 - length c.args.begun.now = search rules in
    let p = c.in_ok-take_all.ensures.ok in
    record {
      bytes = p.bytes;
      long = omega (arith, p.long, n);
      takes = p.takes;
      steady = p.steady;
      told = λ t.
          wave_walk _ _ _ _ _ (next_behind c.args.begun.now _ c.take_all.new.to _ _ _ (p.told t)) (omega (arith, n, c.requires))
          (ap is_form (sym (filled_behind 12 c.args.begun.now c.copy_from_slice.new.self _ c.take_all.new.to c.requires c.copy_from_slice.ensures.after
          (search rules))) ∙ sym c.if-not-is_form.ensures) (same_rest _ _ _ (omega (arith, n, c.requires)));
    }
