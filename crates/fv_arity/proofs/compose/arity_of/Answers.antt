use Rattle.std.proofs.Common.{rules}
use Rattle.fv_arity.proofs.compose.arity_of.Goals as goal

pub returns-in-Bind-clause-arity : goal.returns-in-Bind-clause-arity
returns-in-Bind-clause-arity c = search rules

pub returns-in-Par-clause-arity : goal.returns-in-Par-clause-arity
returns-in-Par-clause-arity c = search rules
