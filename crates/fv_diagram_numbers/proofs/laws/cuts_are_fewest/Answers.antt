use Rattle.fv_diagram_numbers.proofs.lemmas.Outputs.{cuts_are_fewest}
use Rattle.fv_diagram_numbers.proofs.laws.cuts_are_fewest.Goals as goal

pub returns : goal.returns
returns c = cuts_are_fewest
