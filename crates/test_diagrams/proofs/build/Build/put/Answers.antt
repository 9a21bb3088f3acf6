use Rattle.std.proofs.Common.{arith, length, subst, ap}
use Rattle.fv_diagram.specs.Arena.{count_of}
use Rattle.std.proofs.lemmas.List.{length_push}
use Rattle.test_diagrams.specs.Built.{IsAllowed}
use Rattle.test_diagrams.proofs.BuiltLemmas.{all_can_run}
use Rattle.test_diagrams.proofs.build.Build.put.Goals as goal

pub invariant_of-self : goal.invariant_of-self
invariant_of-self c =
    let ns = c.self.inside.diagrams in
    let n = c.node_of.result in
    let o = c.in-Ok.ensures in
    let i = c.self.invariant in
    let a = subst (λ k. IsAllowed (count_of ns) k n) i.1 (subst (λ m. IsAllowed m c.self.inside.lists n) i.0 c.in_ok-allow.ensures) in (
      omega (arith, i.0, ap count_of o.ok.1, length_push ns.nodes n),
      omega (arith, i.1, ap (λ a. length a.lists) o.ok.1),
      all_can_run ns c.put.new.self n _ i.2 a c.in_ok-arity.ensures.composed o.ok.0 o.ok.1 o.tree c.put.ensures.keeps,
    )
