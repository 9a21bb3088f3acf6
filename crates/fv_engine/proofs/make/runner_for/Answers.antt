use Rattle.std.proofs.Common.{List, sym, ap, ◌∙◌, subst, arith}
use Rattle.fv_outside.specs.headline.Tasks.{reads_loop}
use Rattle.fv_outside.specs.Tasks.{task_count}
use Rattle.fv_outside.specs.declared.tasks.Reads.{Reads}
use Rattle.fv_graph.specs.Graph.{ArePairs, edges_of}
use Rattle.fv_graph.specs.Running.{Running}
use Rattle.fv_engine.proofs.Made.{are_pairs}
use Rattle.fv_engine.proofs.make.runner_for.Goals as goal

pub new-requires-clause-pairs : goal.new-requires-clause-pairs
new-requires-clause-pairs c =
    subst (λ n. ArePairs n c.reads.result.now) (sym c.loops.ensures.loops)
    (subst (λ (rs : List Reads). ArePairs c.args.plan.now.loops rs) (sym c.reads.ensures) (are_pairs c.args.plan.now c.loops.ensures.plan.1.reads))

pub invariant_of-result : goal.invariant_of-result
invariant_of-result c =
    let t = c.in_ok-tasks.tasks in
    let same = ap (λ n. record t.tasks { vectors = n }) (c.in_ok-tasks.ensures.vectors.1 ∙ sym c.in_ok-tasks.ensures.vectors.0) in
    let many = ap task_count same in
    record {
      core_is = record {
        one = ap (λ (x : Running). x.workers) c.in_ok-core.ensures.core;
        tasks = let r = ap (λ (x : Running). x.room_tasks) c.in_ok-core.ensures.core in omega (arith, many, r);
        edges = let r = ap (λ (x : Running). x.room_edges) c.in_ok-core.ensures.core in let k = ap edges_of same in omega (arith, k, r);
      };
      room = omega (arith, many, c.len.ensures.value, c.in_ok-lines.ensures.exact);
    }

pub returns : goal.returns
returns c = record {
  tasks_are = record {
    loops = c.in_ok-tasks.ensures.loops ∙ c.loops.ensures.loops;
    pairs = λ j i. c.in_ok-tasks.ensures.pairs j i ∙ ap (λ (rs : List Reads). reads_loop rs j i) c.reads.ensures;
    most_are = c.in_ok-tasks.ensures.vectors.1;
  };
  scratch = c.in_ok-scratch.ensures;
}
