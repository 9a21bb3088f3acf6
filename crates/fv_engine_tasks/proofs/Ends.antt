-- What stands when all tasks are done.
use Rattle.std.proofs.Common.{◌≡◌, inl, inr, ℕ, zero, suc, ◌+◌, ◌<◌, ◌≤◌, Bool, true, false, ◌&&◌, ◌||◌, ◌==◌, List, refl}
use Rattle.std.proofs.Common.{sym, ap, ◌∙◌, arith, true≢false, ltb-true, not}
use Rattle.std.proofs.lemmas.Bool.{cases_Bool, ne_eqb}
use Rattle.fv_outside.specs.headline.Tasks.{Tasks, bit, reads_task, reads_loop}
use Rattle.fv_outside.specs.Tasks.{task_count}
use Rattle.fv_outside.specs.declared.tasks.Task.{Task}
use Rattle.fv_outside.specs.declared.gate.Line.{Line}
use Rattle.fv_graph.specs.Graph.{task_at}
use Rattle.fv_graph.specs.Core.{Now, is_done}
use Rattle.fv_loopcode.specs.headline.State.{State}
use Rattle.fv_graph.proofs.lemmas.Counts.{total_zero}
use Rattle.fv_engine_tasks.specs.Block.{Block}
use Rattle.fv_engine_tasks.specs.Jobs.{IsJob, left_to_do}
use Rattle.fv_engine_tasks.specs.Underway.{IsUnderway, EndsBlock}
use Rattle.fv_engine_tasks.proofs.lemmas.Numbers.{below}
use Rattle.fv_engine_tasks.proofs.JournalLemmas.{ordered}

neither : (a b c d : Bool) → b ≡ false → c ≡ false → ((a && b) || (c && d)) ≡ false
neither true true c d p q = p
neither true false true d p q = absurd (true≢false q)
neither true false false d p q = refl
neither false b true d p q = absurd (true≢false q)
neither false b false d p q = refl

module _ {g : Tasks} {b : Block} (job : IsJob b g) where
  none_self : (t : Task) → reads_task g t t ≡ false
  none_self t = neither (t.loop_no == t.loop_no) ((t.vector + 1) == t.vector) (reads_loop g.reads t.loop_no t.loop_no) (t.vector == t.vector)
      (ne_eqb (t.vector + 1) t.vector (λ e. omega (arith, e)))
      (elim (cases_Bool (reads_loop g.reads t.loop_no t.loop_no)) [
        | inl e ↦ absurd (let l = job.lower t.loop_no t.loop_no e in omega (arith, l))
        | inr e ↦ e
      ])

  module _ {first : State} {s : Now} {state : State} {lines : List Line} (u : IsUnderway g b first s state lines)
      (all : (t : ℕ) → t < task_count g → is_done s t ≡ true) where
    none_left : left_to_do s.done ≡ 0
    none_left = total_zero (λ d. bit (not d)) s.done false (λ i l. ap (λ d. bit (not d)) (all i (omega (arith, l, u.tasks))))

    least : (j v : ℕ) → j < g.loops → v ≤ g.vectors → v ≤ u.vectors j
    least j zero l m = omega arith
    least j (suc v) l m =
        let is = all (task_at g j v) (below g j v l (omega (arith, m))) in
        let q = ltb-true v (u.vectors j) (sym (u.done j v l (omega (arith, m))) ∙ is) in omega (arith, q)

    full : (j : ℕ) → j < g.loops → u.vectors j ≡ g.vectors
    full j l = let a = least j g.vectors l (omega arith) in let b = u.within j in omega (arith, a, b)

    pub ends : EndsBlock g b first state lines
    ends = record {
      vectors = u.vectors;
      all = full;
      long = u.long;
      cells = u.cells;
      holds = u.holds;
      journal = ordered (record { none_self = none_self; all = full; so_far = u.journal });
      counted = let z = none_left in let c = u.counted in omega (arith, z, c);
    }
