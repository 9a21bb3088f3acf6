use Rattle.fv_simplify.proofs.lemmas.Choices.{choice_is}
use Rattle.fv_simplify.proofs.rule_laws.choices_keep_values.Goals as goal

pub returns : goal.returns
returns c = choice_is
