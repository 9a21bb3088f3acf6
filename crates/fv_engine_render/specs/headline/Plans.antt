-- A graph of a diagram, its plan, and an engine that is ready to play it (this project's profile).
use Rattle.std.specs.Prelude.{◌≡◌, List, length}
use Rattle.fv_num.specs.headline.Interval.{Interval}
use Rattle.fv_diagram.specs.headline.Diagram.{Diagram, outputs}
use Rattle.fv_base.specs.declared.limits.TheConstants.{DELAY_BUDGET}
use Rattle.fv_signal.specs.headline.Value.{Graph, AreAtMost, IsGraph}
use Rattle.fv_propagate.specs.headline.Propagated.{NamesWithin, Propagates}

-- A finished graph that gives what the diagram gives, output by output, where the controls lie in these spans. It names only what
-- the diagram has, and delays by no more than an engine keeps.
pub record IsGraphOf (d : Diagram) (spans : List Interval) (g : Graph) : Type 0 where
  pub finished : IsGraph g
  pub gives : Propagates d spans g
  pub width : length g.outputs ≡ outputs d
  pub names : NamesWithin d g
  pub short : AreAtMost DELAY_BUDGET g
