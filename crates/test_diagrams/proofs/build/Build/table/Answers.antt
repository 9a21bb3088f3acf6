use Rattle.std.proofs.Common.{length, arith, ap}
use Rattle.std.proofs.lemmas.List.{length_push}
use Rattle.fv_diagram.specs.Arena.{count_of}
use Rattle.test_diagrams.proofs.BuiltLemmas.{still_can_run}
use Rattle.test_diagrams.proofs.build.Build.table.Goals as goal

pub invariant_of-self : goal.invariant_of-self
invariant_of-self c =
    let ns = c.self.inside.diagrams in
    let o = c.in-Ok.ensures in
    let i = c.self.invariant in
    let count = ap count_of o.ok.1 in (
      omega (arith, i.0, count),
      omega (arith, i.1, ap (λ a. length a.lists) o.ok.1, length_push ns.lists c.args.values.now),
      still_can_run ns c.table.new.self i.2 count c.table.ensures.keeps,
    )
