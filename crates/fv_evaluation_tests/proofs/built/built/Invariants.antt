use Rattle.std.proofs.Common.{ℕ, ◌<◌, All, List}
use Rattle.fv_diagram.specs.Arena.{Arena, count_of}
use Rattle.fv_evaluation_tests.specs.Built.{AreComposed}
use Rattle.fv_evaluation_tests.proofs.built.built.Given as goal

-- the diagrams that were put, and those that wait for a composition
pub record Waits (a : Arena) (last : ℕ) (before : List ℕ) : Type 0 where
  pub composed : AreComposed a
  pub there : last < count_of a
  pub waiting : All (λ i. i < count_of a) before

abbrev pub invariant-loop-item : goal.invariant-loop-item
invariant-loop-item l = Waits l.diagrams l.last l.before.items
