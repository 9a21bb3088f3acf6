use Rattle.fv_eval_lookup.proofs.lemmas.Skipped.{skips_on}
use Rattle.fv_eval_lookup.proofs.lookup.Definitions.next.Goals as goal

pub returns-then-way-lt-ON_FOOT-clause-skips : goal.returns-then-way-lt-ON_FOOT-clause-skips
returns-then-way-lt-ON_FOOT-clause-skips c = λ known foot direct.
    let way = c.args.way.now in
    skips_on c.args.self.now c.args.scopes.now.scopes c.args.name way.at way.outer c.past_parameters-outer.result foot
    c.past_parameters-outer.ensures.skips

pub returns-clause-skips : goal.returns-clause-skips
returns-clause-skips c = λ known foot direct.
    let p = c.args.self.now in
    let scopes = c.args.scopes.now.scopes in
    let name = c.args.name in
    let way = c.args.way.now in
    let outer = c.past_parameters-outer.result in
    skips_on p scopes name way.at outer c.past.result (skips_on p scopes name way.at way.outer outer foot c.past_parameters-outer.ensures.skips)
    (c.past.ensures.skips p (c.follow.ensures known))
