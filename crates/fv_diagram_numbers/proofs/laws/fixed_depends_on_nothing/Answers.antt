use Rattle.fv_diagram_numbers.proofs.lemmas.Closed.{fixed_depends_on_nothing}
use Rattle.fv_diagram_numbers.proofs.laws.fixed_depends_on_nothing.Goals as goal

pub returns : goal.returns
returns c = fixed_depends_on_nothing
