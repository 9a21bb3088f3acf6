use Rattle.std.proofs.Common.{◌≡◌, ◌^◌, ◌<◌, drop}
use Rattle.fv_base.specs.headline.Digits.{decimal_after}
use Rattle.fv_base.proofs.digits.number_of.Given as goal

abbrev pub invariant-loop-d : goal.invariant-loop-d
invariant-loop-d l = record { value : decimal_after l.n (drop l.d-index l.digits) ≡ decimal_after 0 l.digits; small : l.n < 10 ^ l.d-index }
