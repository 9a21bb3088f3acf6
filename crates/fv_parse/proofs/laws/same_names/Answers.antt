use Rattle.fv_parse.proofs.CanonicalNumbers.{same_numbers, numbers_are_of}
use Rattle.fv_parse.proofs.laws.same_names.Goals as goal

pub returns-clause-same : goal.returns-clause-same
returns-clause-same c = same_numbers

pub returns-clause-of : goal.returns-clause-of
returns-clause-of c = numbers_are_of
