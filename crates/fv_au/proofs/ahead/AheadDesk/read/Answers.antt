use Rattle.std.proofs.Common.{rules, ◌≡◌}
use Rattle.fv_base.specs.declared.role.Role.TheVariants.{Input}
use Rattle.fv_au.proofs.KeptBytes.{past, within}
use Rattle.fv_au.proofs.ahead.AheadDesk.read.Goals as goal

pub returns-then-kept-to-clause-taken : goal.returns-then-kept-to-clause-taken
returns-then-kept-to-clause-taken g c = λ t.
    let is : c.args.role ≡ Input = search rules in
    rw is (past _ _ _ _ _ _ _ _ _ c.give.result c.len-kept.ensures.count c.give.ensures.count (search rules) c.if-kept-to.true
    c.give.ensures.given c.give.ensures.rest (c.in_ok-n.ensures.taken t))

pub returns-clause-taken : goal.returns-clause-taken
returns-clause-taken g c = λ t.
    let is : c.args.role ≡ Input = search rules in
    rw is (within _ _ _ _ _ _ _ _ _ c.give-given.ensures.given c.give-given.ensures.rest c.extend.ensures (c.in_ok-n-2.ensures.taken t))
