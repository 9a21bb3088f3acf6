use Rattle.fv_simplify.specs.Rebuilt.{IsMarked}
use Rattle.fv_simplify.proofs.lemmas.Reaches.{short_kept, reach_kept}
use Rattle.fv_simplify.proofs.rule_laws.reads_no_further.Goals as goal

pub returns : goal.returns
returns c = λ g f p room marks whole h safe. record {
  short = short_kept g f p room (IsMarked marks) whole h safe;
  reach = reach_kept g f p room (IsMarked marks) whole h safe;
}
