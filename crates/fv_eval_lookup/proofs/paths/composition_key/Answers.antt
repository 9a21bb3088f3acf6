use Rattle.std.proofs.Common.{rules}
use Rattle.fv_eval_lookup.proofs.paths.composition_key.Goals as goal

pub returns-in-Split : goal.returns-in-Split
returns-in-Split c = search rules
