use Rattle.fv_simplify.specs.Rebuilt.{IsMarked}
use Rattle.fv_simplify.proofs.lemmas.Twice.{simpler}
use Rattle.fv_simplify.proofs.rule_laws.twice_is_simpler.Goals as goal

pub returns : goal.returns
returns c = λ g f h p q room marks rest whole a b r. simpler g f h p q room (IsMarked marks) (IsMarked rest) whole a b r
