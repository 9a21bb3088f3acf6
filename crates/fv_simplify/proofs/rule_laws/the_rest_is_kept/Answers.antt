use Rattle.fv_simplify.specs.Rebuilt.{IsMarked}
use Rattle.fv_simplify.proofs.Irreducible.{irreducible}
use Rattle.fv_simplify.proofs.Stays.{inputs_kept, controls_kept, within_kept}
use Rattle.fv_simplify.proofs.rule_laws.the_rest_is_kept.Goals as goal

pub returns : goal.returns
returns c = λ g f p room marks whole h. record {
  within = within_kept g f p room (IsMarked marks) whole h;
  inputs = inputs_kept g f p room (IsMarked marks) whole h;
  controls = controls_kept g f p room (IsMarked marks) whole h;
  decided = irreducible g f p room (IsMarked marks) whole h;
}
