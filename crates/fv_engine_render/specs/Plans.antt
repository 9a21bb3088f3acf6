-- What calls say beside `headline/Plans`: a graph of a diagram, its plan, and an engine that is ready to play it (this project's profile).
use Rattle.std.specs.Prelude.{ℕ, ◌<◌, ◌≤◌, [], length}
use Rattle.fv_base.specs.declared.limits.TheConstants.{DELAY_BUDGET}
use Rattle.fv_num.specs.headline.Frames.{Stream}
use Rattle.fv_signal.specs.headline.Value.{Graph}
use Rattle.fv_split_plan.specs.Code.{NamesHeld, NamesInput}
use Rattle.fv_split_plan.specs.headline.View.{PlanView, lane_info, code_of}
use Rattle.fv_split_plan.specs.headline.Plans.{PlanStands, IsPlanOf}
use Rattle.fv_engine.specs.Stands.{EngineView, StandsFor}

-- what an engine asks of a plan for these channels
pub record FitsEngine (channels : ℕ) (p : PlanView) : Type 0 where
  pub loops : 0 < p.loops
  pub inputs : (j i : ℕ) → NamesInput (code_of p j) i → i < channels
  pub histories : (l : ℕ) → l < length p.lanes → (lane_info p l).history ≤ DELAY_BUDGET

-- a plan of the graph, which an engine can run for these channels and controls
pub record IsPlanned (g : Graph) (channels controls : ℕ) (p : PlanView) : Type 0 where
  pub planned : IsPlanOf g p
  pub fits : FitsEngine channels p
  pub controls_there : (k : ℕ) → NamesHeld p.held k → k < controls

-- an engine that stands for no frames yet
abbrev pub IsNew : EngineView → Type 0
IsNew e = (g : Graph) (s : PlanStands g e.plan) (c : ℕ → Stream) → StandsFor e g s.names [] c
