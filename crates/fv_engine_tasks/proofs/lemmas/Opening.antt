-- Nothing is done as a block begins.
use Rattle.std.proofs.Common.{◌≡◌, ℕ, zero, suc, false, [], length, replicate, refl, sym, ap, ◌∙◌, arith}
use Rattle.std.proofs.lemmas.Bool.{le-ltb}
use Rattle.std.proofs.lemmas.List.{length-replicate, get_or-replicate}
use Rattle.fv_outside.specs.headline.Tasks.{Tasks, bit}
use Rattle.fv_outside.specs.Tasks.{task_count}
use Rattle.fv_graph.specs.Graph.{task_at, net_of}
use Rattle.fv_graph.specs.Core.{opening}
use Rattle.fv_loopcode.specs.headline.State.{State}
use Rattle.fv_engine_tasks.specs.Block.{Block, none_done}
use Rattle.fv_engine_tasks.specs.Jobs.{left_to_do}
use Rattle.fv_engine_tasks.specs.Underway.{IsUnderway}
use Rattle.fv_engine_tasks.proofs.lemmas.Numbers.{below}

all_left : (n : ℕ) → left_to_do (replicate n false) ≡ n
all_left zero = refl
all_left (suc n) = let r = all_left n in omega arith

pub opens : (g : Tasks) (b : Block) (first : State) → length first.lanes ≡ b.plan.lanes → length first.cells ≡ b.plan.cells
    → IsUnderway g b first (opening (net_of g) 1) first []
opens g b first long cells = record {
  vectors = none_done;
  within = λ j. omega arith;
  done = λ j v l m. get_or-replicate (task_count g) (task_at g j v) false false (below g j v l m) ∙ sym (le-ltb v 0 (omega arith));
  tasks = length-replicate (task_count g) false;
  free = record { runs = refl; owes = refl; left = refl };
  long = long;
  cells = cells;
  holds = λ f o h. h;
  journal = record {
    each = λ t i. sym (ap bit (le-ltb t.vector 0 (omega arith)));
    only = λ k l. absurd (omega (arith, l));
    starts = λ k l. absurd (omega (arith, l));
    finishes = λ k l. absurd (omega (arith, l));
    behind = λ k m l i. absurd (omega (arith, i));
    reads = λ k t l i r. absurd (omega (arith, l));
  };
  counted = let z = all_left (task_count g) in omega (arith, z);
}
