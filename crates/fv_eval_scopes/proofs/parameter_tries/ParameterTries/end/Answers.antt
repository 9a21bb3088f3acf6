use Rattle.std.proofs.Common.{◌∙◌, Some, ap, sym}
use Rattle.fv_eval_scopes.proofs.lemmas.NameTries.{trie_leads}
use Rattle.fv_eval_scopes.proofs.parameter_tries.ParameterTries.end.Goals as goal

pub returns-in-Some-Some : goal.returns-in-Some-Some
returns-in-Some-Some c = λ p h.
    let is = c.in-Some-Some in
    let x = c.args.self.now in
    trie_leads p x.tries x.roots.items c.args.node is.root c.args.name c.find.result h (sym c.root.ensures ∙ is.is ∙ ap Some is.field-0-is) c.find.ensures
