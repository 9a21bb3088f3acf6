use Rattle.fv_simplify.specs.Rebuilt.{IsMarked}
use Rattle.fv_simplify.proofs.lemmas.Chains.{folded}
use Rattle.fv_simplify.proofs.rule_laws.rebuilt_is_folded.Goals as goal

pub returns : goal.returns
returns c = λ g f p room marks rest whole h. folded g f p room (IsMarked marks) whole h (IsMarked rest)
