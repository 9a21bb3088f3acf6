use Rattle.std.proofs.Common.{◌≡◌, ℕ, ◌+◌, ◌*◌, ◌<◌, ◌≤◌, List, length, take, get_or, All, ap, arith}
use Rattle.std.specs.Prelude.{sum}
use Rattle.std.specs.List.{sum_by}
use Rattle.std.proofs.lemmas.List.Sums.{sum_by_more_le, sum_by-le}
use Rattle.fv_top_program.specs.declared.programs.Read.{Read}
use Rattle.fv_top_program.proofs.jobs.sum_of_delays.Goals as goal
use Rattle.fv_base.specs.declared.limits.TheConstants.{DELAY_BUDGET}

-- the delays of first programs and of one more are few
few : (rs : List Read) (n now : ℕ) (r : Read) → n < length rs → r ≡ get_or rs n r → now ≡ sum_by (λ (q : Read). sum q.delays) (take n rs)
    → All (λ (q : Read). sum q.delays ≤ DELAY_BUDGET) rs → length rs ≤ 16 → now + sum r.delays ≤ 16 * DELAY_BUDGET
few rs n now r l is e h most =
    let f = λ (q : Read). sum q.delays in
    omega (arith, sum_by_more_le f rs n r l, sum_by-le f DELAY_BUDGET rs h, most, ap f is, e)

pub overflow_add-sum : goal.overflow_add-sum
overflow_add-sum c =
    let sum = few c.args.reads.now c.loop-read.read-index c.loop-read.sum c.read-item.result c.loop-read-test.true c.read-item.is c.loop-read.invariant
    (λ k d l. let r = c.requires.read k d l in r.accepted.within) c.requires.few in
    let is = c.sum-sum.ensures in omega (arith, sum, is)
