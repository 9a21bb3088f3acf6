use Rattle.std.proofs.Common.{◌∙◌}
use Rattle.fv_eval_scopes.proofs.lemmas.Outward.{leads_to, end_is, found_is}
use Rattle.fv_eval_scopes.proofs.ways.Ways.lead.Goals as goal

pub returns-then-found-eq0 : goal.returns-then-found-eq0
returns-then-found-eq0 c scopes h =
    let way = c.outward-way.result in
    leads_to scopes c.args.self.now.tries c.args.key c.args.env c.find-found.result way.end way (c.outward-way.ensures scopes h)
    c.find-found.ensures (end_is way.end c.find-found.result c.if-found-eq0.true)

pub returns-else-found-eq0 : goal.returns-else-found-eq0
returns-else-found-eq0 c scopes h =
    let way = c.outward-way.result in
    leads_to scopes c.args.self.now.tries c.args.key c.args.env c.find-found.result c.new.result way (c.outward-way.ensures scopes h)
    c.find-found.ensures (c.new.ensures ∙ found_is way.end c.find-found.result c.if-found-eq0.false)
