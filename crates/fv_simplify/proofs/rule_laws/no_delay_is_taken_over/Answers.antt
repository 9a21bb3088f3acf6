use Rattle.fv_simplify.specs.Rebuilt.{IsMarked}
use Rattle.fv_simplify.proofs.lemmas.Chains.{no_more}
use Rattle.fv_simplify.proofs.rule_laws.no_delay_is_taken_over.Goals as goal

pub returns : goal.returns
returns c = λ g f p room marks whole h fold is_room s r. no_more g f p room (IsMarked marks) whole h fold is_room s r
