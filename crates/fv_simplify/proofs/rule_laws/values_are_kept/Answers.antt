use Rattle.fv_simplify.specs.Rebuilt.{IsMarked}
use Rattle.fv_simplify.proofs.Values.{same_outputs}
use Rattle.fv_simplify.proofs.rule_laws.values_are_kept.Goals as goal

pub returns : goal.returns
returns c = λ g f p room marks whole h X k small j t l. same_outputs g f p room (IsMarked marks) whole h X k small j t l
