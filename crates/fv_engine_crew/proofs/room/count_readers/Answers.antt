use Rattle.std.proofs.Common.{◌≡◌, ◌+◌, ◌*◌, ℕ, length, sym, ap, ◌∙◌, arith}
use Rattle.std.specs.Prelude.{◌==◌}
use Rattle.std.proofs.lemmas.Nat.{mod-mul-add}
use Rattle.std.proofs.lemmas.List.{length-map}
use Rattle.fv_split_plan.specs.TasksBeside.{Tasks}
use Rattle.fv_graph.specs.Words.{passing}
use Rattle.fv_graph.specs.Graph.{pair_at, pair_edge, loop_of, vector_of}
use Rattle.fv_engine_crew.proofs.room.count_readers.Goals as goal

pub returns : goal.returns
returns c =
    let g : Tasks = c.args.tasks.now.tasks in
    let j : ℕ = c.args.loop_no in
    let first : 0 * g.loops + j ≡ j = omega arith in
    let loop : loop_of g j ≡ j = ap (loop_of g) (sym first) ∙ mod-mul-add 0 g.loops j c.requires in
    let pairs = length-map (passing (λ k. (pair_at g k).source == loop_of g j) 0 (length g.reads)) (λ (k : ℕ). pair_edge g k (vector_of g j)) in
    omega (arith, ap length c.outward.ensures, pairs, ap (λ (a : ℕ). length (passing (λ k. (pair_at g k).source == a) 0 (length g.reads))) loop)
