use Rattle.std.proofs.Common.{◌≡◌, drop}
use Rattle.fv_parse.specs.headline.StaticErrors.{differing}
use Rattle.fv_parse.proofs.clash.differing.Given as goal

abbrev pub invariant-loop-rule : goal.invariant-loop-rule
invariant-loop-rule l = differing l.width (drop l.rule-index l.rules) ≡ differing l.width l.rules
