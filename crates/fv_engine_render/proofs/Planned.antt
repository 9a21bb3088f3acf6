-- What a graph says of its plan, and a diagram of its graph.
use Rattle.std.proofs.Common.{ℕ, ◌≤◌, List, length, pos, subst, arith}
use Rattle.fv_base.specs.declared.limits.TheConstants.{DELAY_BUDGET}
use Rattle.fv_num.specs.headline.Interval.{Interval}
use Rattle.fv_diagram.specs.headline.Diagram.{Diagram, inputs}
use Rattle.fv_diagram.specs.Diagram.{control_bound}
use Rattle.fv_signal.specs.declared.signal.Signal.TheVariants.{Const}
use Rattle.fv_signal.specs.headline.Value.{Graph, AreAtMost}
use Rattle.fv_propagate.specs.headline.Propagated.{NamesOf}
use Rattle.fv_propagate.proofs.lemmas.Named.{control_below}
use Rattle.fv_split_plan.specs.headline.View.{PlanView}
use Rattle.fv_split_plan.specs.headline.Plans.{IsPlanOf}
use Rattle.fv_split_plan.specs.Tasks.{HistoriesWithin, OutputsNeedLoops}
use Rattle.fv_engine_render.specs.headline.Plans.{IsGraphOf}
use Rattle.fv_engine_render.specs.Plans.{IsPlanned}
use Rattle.fv_engine_render.specs.inner.Plans.{NamesOnly}

-- A plan of a graph that names only what is there, and delays by no more than an engine keeps.
pub record IsMade (g : Graph) (channels controls : ℕ) (p : PlanView) : Type 0 where
  pub of : IsPlanOf g p
  pub some : 1 ≤ length g.outputs
  pub names : NamesOnly g channels controls
  pub short : AreAtMost DELAY_BUDGET g

pub planned : {g : Graph} {channels controls : ℕ} {p : PlanView} → OutputsNeedLoops g p → HistoriesWithin g p → IsMade g channels controls p
    → IsPlanned g channels controls p
planned {g} {channels} {controls} {p} loops histories made = record {
  planned = made.of;
  fits = record {
    loops = loops made.of.stands made.some;
    inputs = λ j i h. made.names.inputs_there i (made.of.names.inputs j i h);
    histories = histories made.of.stands DELAY_BUDGET (omega arith) (λ r x back max h. let k = made.short r x back max h in omega (arith, k));
  };
  controls_there = λ k h. made.names.controls_there k (made.of.names.controls k h);
}

-- what a diagram's graph names is there, where there are controls enough
pub names_only : (d : Diagram) (spans : List Interval) (g : Graph) (controls : ℕ) → IsGraphOf d spans g → control_bound d ≤ controls
    → NamesOnly g (inputs d) controls
names_only d spans g controls of reads = record {
  inputs_there = λ i h. subst (NamesOf d) h.is.is (of.names h.place (Const (pos 0)) h.is.within);
  controls_there = λ k h.
      let l = control_below d k (subst (NamesOf d) h.is (of.names h.place (Const (pos 0)) h.within)) in
      omega (arith, l, reads);
}
