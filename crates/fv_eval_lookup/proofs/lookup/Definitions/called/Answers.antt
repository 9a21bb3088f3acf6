use Rattle.std.proofs.Common.{◌<◌, length, arith}
use Rattle.fv_eval_lookup.proofs.Named.{called_in}
use Rattle.fv_eval_lookup.proofs.lookup.Definitions.called.Goals as goal

pub returns-then-i-len-clause-found : goal.returns-then-i-len-clause-found
returns-then-i-len-clause-found c =
    let lists = c.self.inside.lists in
    let lt : c.number-i.result < length lists.items = omega (arith, lists.ok.0, c.if-i-len.true, c.len.ensures) in
    λ inside n e. (called_in c.self.view_is c.self.invariant.0 lt c.number-i.ensures c.index.ensures c.called.ensures).trees n e

pub returns-then-i-len-clause-there : goal.returns-then-i-len-clause-there
returns-then-i-len-clause-there c =
    let lists = c.self.inside.lists in
    let lt : c.number-i.result < length lists.items = omega (arith, lists.ok.0, c.if-i-len.true, c.len.ensures) in
    (called_in c.self.view_is c.self.invariant.0 lt c.number-i.ensures c.index.ensures c.called.ensures).there
