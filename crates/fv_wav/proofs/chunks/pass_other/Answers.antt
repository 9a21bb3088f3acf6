use Rattle.std.proofs.Common.{◌≡◌, ◌+◌, arith, refl, []}
use Rattle.fv_base.specs.declared.role.Role.TheVariants.{Input}
use Rattle.fv_outside.proofs.lemmas.States.{takes_nothing}
use Rattle.std.proofs.lemmas.Result.{err_from_is_err_and}
use Rattle.fv_wav.specs.headline.Reading.{padded}
use Rattle.fv_wav.proofs.lemmas.Steps.{passes_both, passes_as, stops_as, stops_then, same_rest}
use Rattle.fv_wav.proofs.Parts.{other_size, other_end, other_is}
use Rattle.fv_wav.proofs.ChunkKinds.{from_other_err, from_other_ok}
use Rattle.fv_wav.proofs.chunks.pass_other.Goals as goal

pub returns-in_err-pass-clause-err : goal.returns-in_err-pass-clause-err
returns-in_err-pass-clause-err g c =
    let p = err_from_is_err_and c.from_residual-in_err-pass.result c.from_residual-in_err-pass.ensures.1 in
    let size : padded c.in_ok-size.size ≡ c.from.result + c.from-2.result = omega (arith, c.from.ensures, c.from-2.ensures) in
    rw (p.1, p.2) (stops_then _ c.in_ok-size.ensures.ok c.in_err-pass.ensures.err
    (λ a b. from_other_err c.args.walk _ _ (omega arith) (other_end _ _ _ _ _ a size b)))

pub returns-clause-ok : goal.returns-clause-ok
returns-clause-ok g c =
    let all = c.from.result + c.from-2.result in
    let size : padded c.in_ok-size.size ≡ all = omega (arith, c.from.ensures, c.from-2.ensures) in
    record {
      n = 4 + all;
      few = omega arith;
      place = omega arith;
      is = (omega arith, c.requires.seen);
      passes = passes_as _ (passes_both c.in_ok-size.ensures.ok c.in_ok-pass.ensures.ok)
          (λ a. from_other_ok c.args.walk _ _ _ (omega arith) (other_is _ _ _ _ _ _ a.0 size a.1 (same_rest _ _ _ (omega arith))));
    }

pub returns-in_err-size-clause-err : goal.returns-in_err-size-clause-err
returns-in_err-size-clause-err g c =
    let p = err_from_is_err_and c.from_residual.result c.from_residual.ensures.1 in
    rw (p.1, p.2) (stops_as _ c.in_err-size.ensures.err (λ a. from_other_err c.args.walk _ _ (omega arith) (other_size _ _ a)))

pub returns-then-walk-eq0-clause-err : goal.returns-then-walk-eq0-clause-err
returns-then-walk-eq0-clause-err g c =
    let none : c.args.walk.room ≡ 0 = omega arith in
    record { some = record { bytes = []; takes = takes_nothing Input _ }; cause = record { steady = λ r. refl; told = λ t. rw none refl } }
