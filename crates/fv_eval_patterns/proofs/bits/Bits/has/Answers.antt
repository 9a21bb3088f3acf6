use Rattle.fv_eval_patterns.proofs.BitSets.{has_bit}
use Rattle.fv_eval_patterns.proofs.bits.Bits.has.Goals as goal

pub returns : goal.returns
returns c = has_bit c.args.self.now c.args.place c.word.result c.word.ensures
