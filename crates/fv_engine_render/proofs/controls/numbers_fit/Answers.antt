use Rattle.std.proofs.Common.{length, inl, inr, arith}
use Rattle.std.proofs.lemmas.Bool.{cases_lt}
use Rattle.fv_engine_render.proofs.Taken.{fits_past}
use Rattle.fv_engine_render.proofs.controls.numbers_fit.Goals as goal

pub returns : goal.returns
returns c = λ k.
    let t = c.loop-number-test.false in
    elim (cases_lt k (length c.args.numbers.now)) [ inl l ↦ c.loop-number.invariant k (omega arith) | inr m ↦ fits_past c.args.numbers.now k m ]
