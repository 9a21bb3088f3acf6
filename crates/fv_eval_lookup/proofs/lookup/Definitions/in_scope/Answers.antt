use Rattle.std.proofs.Common.{rules}
use Rattle.std.proofs.Common.{[], sym, subst}
use Rattle.fv_eval_scopes.specs.declared.value.Scope as code_scope
use Rattle.fv_eval_lookup.proofs.Lookups.{Says, definitions_say_in}
use Rattle.fv_eval_lookup.proofs.lookup.Definitions.in_scope.Goals as goal

pub returns-in-Definitions : goal.returns-in-Definitions
returns-in-Definitions c =
    let p = c.args.self.now in
    subst (λ (s : code_scope.Scope). Says p [] c.args.name c.args.env s c.defined.result) (sym c.in-Definitions.is)
    (definitions_say_in p [] c.in-Definitions.list c.in-Definitions.outer c.args.env c.args.name c.defined.result c.defined.ensures)

pub returns-else-bound-name : goal.returns-else-bound-name
returns-else-bound-name c = search rules

pub returns-then-bound-name : goal.returns-then-bound-name
returns-then-bound-name c = search rules
