use Rattle.std.proofs.Common.{◌≡◌, ℤ, pos, ◌+ℤ◌, ◌+◌, suc, take, get_or, sym, ap, ◌∙◌, rules, arith, SFits, w32, to_z, to_z-of_z}
use Rattle.std.proofs.Math.Seq.{take-suc}
use Rattle.fv_num.specs.headline.Words.{wrap}
use Rattle.fv_top_make.specs.Made.{sum_from}
use Rattle.fv_top_make.proofs.Sounding.{sum_one}
use Rattle.fv_top_make.proofs.noise_tape.give.Goals as goal

pub adding-preserved : goal.adding-preserved
adding-preserved c =
    let xs = c.args.samples.now in
    let i = c.adding.sample-index in
    let x = get_or xs i (pos 0) in
    let one : i + 1 ≡ suc i = omega arith in
    let sample_fits : SFits w32 x = search rules in
    let sum_fits : SFits w32 c.added-sum.result = search rules in
    let sum : c.added-sum.result ≡ wrap (to_z w32 c.adding.sum-bits +ℤ x) = simp to_z-of_z at c.added-sum.ensures in
    to_z-of_z sum_fits ∙ sum ∙ ap (λ (z : ℤ). wrap (z +ℤ x)) c.adding.invariant ∙ sym (sum_one c.args.noise.now.sum (take i xs) x)
    ∙ ap (sum_from c.args.noise.now.sum) (sym (ap (λ k. take k xs) one ∙ take-suc xs i (pos 0) c.adding-test.true))
