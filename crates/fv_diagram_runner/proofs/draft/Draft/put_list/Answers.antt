use Rattle.std.proofs.Common.{◌≡◌, ◌++◌, ◌∷◌, [], ap, ◌∙◌, rules}
use Rattle.std.proofs.lemmas.List.{map_push}
use Rattle.fv_diagram_runner.specs.History.{numbers_of}
use Rattle.fv_diagram_runner.specs.inner.Code.{code_of}
use Rattle.fv_diagram_runner.proofs.Codes.{code_lists}
use Rattle.fv_diagram_runner.proofs.draft.Draft.put_list.Goals as goal

pub invariant_of-self-2 : goal.invariant_of-self-2
invariant_of-self-2 c =
    let changes : c.put_change.new.changes.items ≡ c.self.inside.changes.items ++ c.args.change ∷ [] = search rules in
    code_lists (code_of c.self.inside) c.args.self.now c.args.change c.args.list.numbers _ _ c.self.view_is c.self.invariant c.requires changes
    (ap numbers_of c.in_ok-push.ensures.items ∙ map_push (λ h. h.numbers) c.self.inside.lists.items c.args.list)
