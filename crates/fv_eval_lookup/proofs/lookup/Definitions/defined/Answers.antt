use Rattle.std.proofs.Common.{length, refl, subst}
use Rattle.fv_parse.specs.Trees.{Parsed}
use Rattle.fv_eval_lookup.specs.inner.Lookup.{IsMade}
use Rattle.fv_eval_lookup.proofs.Lookups.{IsFound, defined_says}
use Rattle.fv_eval_lookup.proofs.lookup.Definitions.defined.Goals as goal

pub returns : goal.returns
returns c =
    let p = c.args.self.now in
    let found = c.called-found.result.now in
    let first = c.in_ok-first.first.now in
    let makes = subst (λ (q : Parsed). IsMade q c.args.list first.node (length found) c.args.env c.made.result) c.self.view_is c.made.ensures in
    λ w x E m same inside named shown.
    let is : IsFound p w x c.args.list c.args.name found = record { same = same; inside = inside; named = named; are = c.called-found.ensures.found } in
    defined_says E m c.args.env (length found) first c.made.result is shown c.in_ok-first.ensures.value refl makes
