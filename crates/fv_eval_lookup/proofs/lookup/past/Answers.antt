use Rattle.fv_eval_scopes.proofs.lemmas.Outward.{only, leads_down}
use Rattle.fv_eval_lookup.proofs.Arounds.{past_both, nearer_below}
use Rattle.fv_eval_lookup.proofs.lookup.past.Goals as goal

pub returns-in-Some-clause-skips : goal.returns-in-Some-clause-skips
returns-in-Some-clause-skips c = λ p h.
    let scopes = c.args.scopes.now.scopes in
    past_both p scopes c.args.name c.in-Some.list c.args.env c.lead.result c.lead-in-Some.result c.nearer.result (c.in-Some.ensures p scopes h)
    c.lead.ensures c.lead-in-Some.ensures c.nearer.ensures

pub returns-in-Some-clause-outward : goal.returns-in-Some-clause-outward
returns-in-Some-clause-outward c =
    let scopes = c.args.scopes.now.scopes in
    nearer_below c.lead.result c.lead-in-Some.result c.nearer.result c.args.env
    (leads_down scopes (only c.args.name) c.args.env c.lead.result c.lead.ensures)
    (leads_down scopes (only c.in-Some.list) c.args.env c.lead-in-Some.result c.lead-in-Some.ensures) c.nearer.ensures
