use Rattle.fv_engine_codes.proofs.Renumbering.{renumbered_obey}
use Rattle.fv_engine_codes.proofs.laws.renumbered_code_obeys.Goals as goal

pub returns : goal.returns
returns c = renumbered_obey
