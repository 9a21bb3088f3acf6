-- The edges into a loop's first task are those of the loops that it reads.
use Rattle.std.proofs.Common.{◌≡◌, ℕ, suc, ◌+◌, ◌-◌, ◌*◌, ◌<◌, ◌≤◌, List, ◌∷◌, length, map, sym, ap, ap₂, ◌∙◌, subst, arith}
use Rattle.std.specs.Prelude.{slice_index, ◌==◌}
use Rattle.std.proofs.lemmas.Nat.{div-mul-add, mod-mul-add}
use Rattle.std.proofs.lemmas.List.{length-map, get_or-map}
use Rattle.std.proofs.Math.Nat.{mul-le-mul_right}
use Rattle.fv_outside.specs.headline.Tasks.{Tasks}
use Rattle.fv_outside.specs.Tasks.{task_count}
use Rattle.fv_graph.specs.Words.{passing}
use Rattle.fv_graph.specs.Graph.{IsGraph, pair_at, pair_edge, chain_edge, loop_of, vector_of, inward}
use Rattle.fv_graph.proofs.lemmas.ReadsLemmas.{get_passing}
use Rattle.fv_engine_codes.specs.Plans.{sources_of}

module _ (g : Tasks) (j : ℕ) (graph : IsGraph g) (there : j < g.loops) where
  abbrev ks : List ℕ
  ks = passing (λ k. (pair_at g k).reader == j) 0 (length g.reads)

  first : 0 * g.loops + j ≡ j
  first = omega arith

  -- it is a task
  pub first_task : j < task_count g
  first_task = let l : 1 * g.loops ≤ g.vectors * g.loops = mul-le-mul_right g.loops (let v = graph.some_vector in omega arith) in omega (arith, l)

  into_is : inward g j ≡ chain_edge g j 0 ∷ map (λ (k : ℕ). pair_edge g k 0) ks
  into_is = ap₂ (λ (a b : ℕ). chain_edge g a b ∷ map (λ (k : ℕ). pair_edge g k b) (passing (λ k. (pair_at g k).reader == a) 0 (length g.reads)))
      (ap (loop_of g) (sym first) ∙ mod-mul-add 0 g.loops j there) (ap (vector_of g) (sym first) ∙ div-mul-add 0 g.loops j there)

  pub length_into : length (inward g j) ≡ suc (length (sources_of g j))
  length_into =
      let a = ap length into_is in
      let b = length-map ks (λ (k : ℕ). pair_edge g k 0) in
      let c = length-map ks (λ (k : ℕ). (pair_at g k).source) in omega arith

-- how many edges go into it, by how many loops it reads; and an edge is that of the pair with the loop's source i
pub record IsInto (g : Tasks) (j i edge : ℕ) : Type 0 where
  pub low : g.loops ≤ edge
  pub high : edge - g.loops < length g.reads
  pub source : (pair_at g (edge - g.loops)).source ≡ slice_index (sources_of g j) i

pub edge_into : (g : Tasks) (j i : ℕ) → IsGraph g → j < g.loops → i < length (sources_of g j) → IsInto g j i (slice_index (inward g j) (i + 1))
edge_into g j i graph there m =
    let ks : List ℕ = passing (λ k. (pair_at g k).reader == j) 0 (length g.reads) in
    let l : i < length ks = omega (arith, m, length-map ks (λ (k : ℕ). (pair_at g k).source)) in
    let next : i + 1 ≡ suc i = omega arith in
    let edge : slice_index (inward g j) (i + 1) ≡ pair_edge g (slice_index ks i) 0 =
    ap (slice_index (inward g j)) next ∙ ap (λ (xs : List ℕ). slice_index xs (suc i)) (into_is g j graph there)
    ∙ get_or-map (λ (k : ℕ). pair_edge g k 0) ks i 0 0 l in
    let high = (get_passing (λ k. (pair_at g k).reader == j) 0 (length g.reads) i 0 l).high in
    let back : slice_index (inward g j) (i + 1) - g.loops ≡ slice_index ks i = omega (arith, edge) in
    record {
      low = omega (arith, edge);
      high = omega (arith, back, high);
      source = ap (λ (k : ℕ). (pair_at g k).source) back ∙ sym (get_or-map (λ (k : ℕ). (pair_at g k).source) ks i 0 0 l);
    }

-- a loop that is read is one of the loops
pub source_there : (g : Tasks) (j i : ℕ) → IsGraph g → i < length (sources_of g j) → slice_index (sources_of g j) i < g.loops
source_there g j i graph m =
    let ks : List ℕ = passing (λ k. (pair_at g k).reader == j) 0 (length g.reads) in
    let l : i < length ks = omega (arith, m, length-map ks (λ (k : ℕ). (pair_at g k).source)) in
    let high = (get_passing (λ k. (pair_at g k).reader == j) 0 (length g.reads) i 0 l).high in
    let low = graph.in_order (slice_index ks i) (omega (arith, high)) in
    let below = low.0 in
    let reader = low.1 in
    omega (arith, below, reader, get_or-map (λ (k : ℕ). (pair_at g k).source) ks i 0 0 l)

pub at_into : (g : Tasks) (j i : ℕ) → IsGraph g → j < g.loops → 1 ≤ i → i < length (inward g j) → IsInto g j (i - 1) (slice_index (inward g j) i)
at_into g j i graph there some m =
    let one : i - 1 + 1 ≡ i = omega arith in
    subst (λ (n : ℕ). IsInto g j (i - 1) (slice_index (inward g j) n)) one
    (edge_into g j (i - 1) graph there (omega (arith, m, some, length_into g j graph there)))
