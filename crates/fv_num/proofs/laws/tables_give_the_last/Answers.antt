use Rattle.fv_num.proofs.lemmas.Tables.{gives_the_last, keeps_the_rest, lists_the_last}
use Rattle.fv_num.proofs.laws.tables_give_the_last.Goals as goal

pub returns-clause-last : goal.returns-clause-last
returns-clause-last c = gives_the_last

pub returns-clause-rest : goal.returns-clause-rest
returns-clause-rest c = keeps_the_rest

pub returns-clause-listed : goal.returns-clause-listed
returns-clause-listed c = lists_the_last
