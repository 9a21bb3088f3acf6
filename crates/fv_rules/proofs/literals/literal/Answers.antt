use Rattle.std.proofs.Common.{◌∙◌, rules, SFits, w32, to_z-of_z}
use Rattle.fv_rules.proofs.LiteralNumbers.{literal_wraps}
use Rattle.fv_rules.proofs.literals.literal.Goals as goal

pub returns : goal.returns
returns c =
    let f : SFits w32 c.cast_signed.result = search rules in
    to_z-of_z f ∙ (c.cast_signed.ensures ∙ literal_wraps c.args.n c.ranges.n.fits)
