use Rattle.std.proofs.Common.{◌∙◌, ◌<◌, ◌^◌, rules, arith, SFits, w32, to_z-of_z}
use Rattle.fv_rules.proofs.LiteralNumbers.{negative_wraps}
use Rattle.fv_rules.proofs.literals.negative_literal.Goals as goal

pub returns : goal.returns
returns c =
    let f : SFits w32 c.cast_signed.result = search rules in
    let l : c.wrapping_neg.result < 2 ^ 32 = omega arith in
    to_z-of_z f ∙ (c.cast_signed.ensures ∙ negative_wraps c.args.n c.wrapping_neg.result c.ranges.n.fits l c.wrapping_neg.ensures)
