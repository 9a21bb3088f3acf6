use Rattle.std.proofs.Common.{◌++◌, arith, length-append}
use Rattle.std.proofs.lemmas.Result.{err_from_is_err_and}
use Rattle.fv_outside.proofs.lemmas.States.{takes_then}
use Rattle.fv_au.proofs.Going.{stops_then}
use Rattle.fv_au.proofs.Heads.{head_cut_at}
use Rattle.fv_au.proofs.input.read_au_head_behind.Goals as goal

pub returns-in_err-pass-clause-err : goal.returns-in_err-pass-clause-err
returns-in_err-pass-clause-err g c =
    let p = err_from_is_err_and c.from_residual-in_err-pass.result c.from_residual-in_err-pass.ensures.1 in
    rw (p.1, p.2) (stops_then _ c.in_ok-head.ensures.ok c.in_err-pass.ensures.err
    (λ x y. head_cut_at _ _ _ _ x.0 x.1 (omega (arith, y.0, c.from.ensures, c.in_ok-head.ensures.ranges.low)) y.1))

pub returns-clause-taken : goal.returns-clause-taken
returns-clause-taken g c =
    let p = c.in_ok-head.ensures.ok in
    let q = c.in_ok-pass.ensures.ok in
    let low = c.in_ok-head.ensures.ranges.low in
    (p.bytes ++ q.bytes, omega (arith, length-append p.bytes q.bytes, p.long, q.long, c.from.ensures, low, c.requires.few), takes_then p.takes q.takes)
