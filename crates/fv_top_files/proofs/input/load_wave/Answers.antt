use Rattle.std.proofs.Common.{refl}
use Rattle.std.proofs.lemmas.Result.{err_from_is_err_and}
use Rattle.fv_top_files.proofs.Heads.{wave_gives, wave_stops}
use Rattle.fv_top_files.proofs.input.load_wave.Goals as goal

pub returns-in_err-head-clause-err : goal.returns-in_err-head-clause-err
returns-in_err-head-clause-err g c =
    let p = err_from_is_err_and c.from_residual.result c.from_residual.ensures.1 in
    rw (p.1, p.2) (wave_stops c.in_err-head.field-0.0 _ _ refl c.in_err-head.ensures.err)

pub returns-clause-headed : goal.returns-clause-headed
returns-clause-headed g c = λ t.
    let taken = c.in_ok-head.ensures.taken in
    rw c.wave_incoming.ensures (wave_gives c.in_ok-head.head c.args.begun.now taken.0 _ _ (c.in_ok-head.ensures.head t)
    (record { long = taken.1; is = taken.2.taken t }))
