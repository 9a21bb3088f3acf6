use Rattle.std.proofs.Common.{◌≡◌, take, map}
use Rattle.fv_rules.specs.headline.Rules.{literal_value}
use Rattle.fv_eval.proofs.machine.Machine.waveform.Given as goal

abbrev pub invariant-reading : goal.invariant-reading
invariant-reading l = l.values.items ≡ map literal_value (take l.literal-index l.literals)
