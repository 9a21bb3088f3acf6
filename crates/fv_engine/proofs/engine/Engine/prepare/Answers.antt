use Rattle.std.proofs.Common.{[], pos, sym, ◌∙◌, subst}
use Rattle.std.proofs.lemmas.List.{length-map}
use Rattle.fv_signal.specs.headline.Value.{value}
use Rattle.fv_split_plan.specs.headline.View.{PlanView}
use Rattle.fv_split_plan.specs.Plans.{IsPlan}
use Rattle.fv_split_plan.proofs.lemmas.NodeLemmas.{listed}
use Rattle.fv_engine.proofs.Made.{begin_so}
use Rattle.fv_engine.proofs.engine.Engine.prepare.Goals as goal

pub engine_parts-requires-clause-tables : goal.engine_parts-requires-clause-tables
engine_parts-requires-clause-tables c = λ k i.
    let plan = subst (λ (p : PlanView). IsPlan p) c.plan.view_is c.plan.invariant in listed _ _ (plan.1.stands.cells.there k i)

pub invariant_of-result : goal.invariant_of-result
invariant_of-result c =
    let parts = c.in_ok-lanes.ensures in let lanes = parts.lanes in let r = parts.runner in
    let plan = subst (λ (p : PlanView). IsPlan p) c.plan.view_is c.plan.invariant in
    record {
      sizes = record {
        some = c.requires.loops;
        block_low = c.requires.block.0;
        block_high = c.requires.block.1;
        vector_low = c.requires.vector.0;
        vectors_high = c.requires.vector.1;
        channels_high = c.requires.channels;
        inputs = c.requires.inputs;
      };
      shapes = lanes.shapes;
      lists = sym (length-map _ _) ∙ lanes.lists.count;
      tasks_are = r.tasks_are;
      scratch = r.scratch;
      held_long = parts.held;
      crew = parts.crew;
      some_worker = c.requires.workers.0;
      asked = parts.asked;
      standing = record {
        graph = plan.0;
        plan = plan.1;
        frames = [];
        controls = λ k t. pos 0;
        stands = record {
          histories = λ l i. lanes.blank l i (value plan.0 (plan.1.stands.names.lane l) [] (λ k t. pos 0));
          cells = begin_so plan.1.stands (λ k t. pos 0) lanes.lists;
        };
      };
    }

pub returns-clause-stands : goal.returns-clause-stands
returns-clause-stands c = λ g s d. record {
  histories = λ l i. c.in_ok-lanes.ensures.lanes.blank l i (value g (s.names.lane l) [] d);
  cells = begin_so s d c.in_ok-lanes.ensures.lanes.lists;
}
