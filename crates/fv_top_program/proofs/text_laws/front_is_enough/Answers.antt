use Rattle.fv_top_program.proofs.lemmas.Texts.{whole_is, whole_text}
use Rattle.fv_top_program.proofs.text_laws.front_is_enough.Goals as goal

pub returns-clause-same : goal.returns-clause-same
returns-clause-same c = whole_is

pub returns-clause-whole : goal.returns-clause-whole
returns-clause-whole c = whole_text
