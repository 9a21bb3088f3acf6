-- What a matching was lent (this project's profile).
use base.Fml.{GName}
use Rattle.fv_eval_patterns.specs.declared.all_patterns.Matching.{Matching}

-- the names of the loans of diagrams, numbers and trials
abbrev pub loans_of : Matching → GName × GName × GName
loans_of m = (m.diagrams.ghost_name, m.numbers.ghost_name, m.trials.ghost_name)
