-- The edges of a task, by what goes over them.
use Rattle.std.proofs.Common.{◌≡◌, ℕ, zero, suc, ◌+◌, ◌-◌, ◌<◌, List, [], ◌∷◌, length, map, get_or, sym, ap, ap₂, ◌∙◌, subst, refl, arith, Bool}
use Rattle.std.specs.Prelude.{All, ◌==◌}
use Rattle.std.proofs.lemmas.Nat.{div-mul-add, mod-mul-add}
use Rattle.std.proofs.lemmas.List.{length-map, get_or-map}
use Rattle.fv_outside.specs.headline.Tasks.{Tasks}
use Rattle.fv_graph.specs.Words.{passing}
use Rattle.fv_graph.specs.Graph.{stride, place_in, pair_at, pair_edge, chain_edge, task_at, inward, outward}
use Rattle.fv_graph.proofs.lemmas.Counts.{eq_of}
use Rattle.fv_graph.proofs.lemmas.ReadsLemmas.{get_passing}
use Rattle.fv_engine_crew.specs.inner.Turns.{IsPairAt, IsPairFrom, IsChainAt, source_by}
use Rattle.fv_engine_crew.specs.declared.parcel.LoopParcel.{LoopParcel}

pair_place : (g : Tasks) (v k : ℕ) → k < length g.reads → place_in g (pair_edge g k v) ≡ g.loops + k
pair_place g v k l = mod-mul-add v (stride g) (g.loops + k) (omega (arith, l))

pub pair_is_at : (g : Tasks) (v k : ℕ) → k < length g.reads → IsPairAt g v (pair_edge g k v)
pair_is_at g v k l = record { pair = omega (arith, pair_place g v k l); vector = div-mul-add v (stride g) (g.loops + k) (omega (arith, l)) }

pub source_edge : (g : Tasks) (v k : ℕ) → k < length g.reads → source_by g (pair_edge g k v) ≡ (pair_at g k).source
source_edge g v k l =
    let e : place_in g (pair_edge g k v) - g.loops ≡ k = omega (arith, pair_place g v k l) in ap (λ (x : ℕ). (pair_at g x).source) e

pub sources_by : (g : Tasks) (v : ℕ) (ks : List ℕ) → ((i d : ℕ) → i < length ks → get_or ks i d < length g.reads)
    → map (source_by g) (map (λ (k : ℕ). pair_edge g k v) ks) ≡ map (λ (k : ℕ). (pair_at g k).source) ks
sources_by g v [] below = refl
sources_by g v (k ∷ ks) below =
    ap₂ (λ (x : ℕ) (xs : List ℕ). x ∷ xs) (source_edge g v k (below 0 0 (omega arith))) (sources_by g v ks (λ i d m. below (suc i) d (omega (arith, m))))

pub each_pair : (g : Tasks) (v : ℕ) (p : ℕ → Bool) (i d : ℕ) → i < length (map (λ (k : ℕ). pair_edge g k v) (passing p 0 (length g.reads)))
    → IsPairAt g v (get_or (map (λ (k : ℕ). pair_edge g k v) (passing p 0 (length g.reads))) i d)
each_pair g v p i d m =
    let l : i < length (passing p 0 (length g.reads)) = omega (arith, m, length-map (passing p 0 (length g.reads)) (λ (k : ℕ). pair_edge g k v)) in
    let high = (get_passing p 0 (length g.reads) i 0 l).high in
    subst (IsPairAt g v) (sym (get_or-map (λ (k : ℕ). pair_edge g k v) (passing p 0 (length g.reads)) i 0 d l))
    (pair_is_at g v (get_or (passing p 0 (length g.reads)) i 0) (omega (arith, high)))

pub each_from : (g : Tasks) (v j i : ℕ) → i < length (map (λ (k : ℕ). pair_edge g k v) (passing (λ k. (pair_at g k).source == j) 0 (length g.reads)))
    → IsPairFrom g j v (get_or (map (λ (k : ℕ). pair_edge g k v) (passing (λ k. (pair_at g k).source == j) 0 (length g.reads))) i 0)
each_from g v j i m =
    let ks : List ℕ = passing (λ k. (pair_at g k).source == j) 0 (length g.reads) in
    let l : i < length ks = omega (arith, m, length-map ks (λ (k : ℕ). pair_edge g k v)) in
    let w = get_passing (λ k. (pair_at g k).source == j) 0 (length g.reads) i 0 l in
    let high = w.high in
    record {
      at = each_pair g v (λ k. (pair_at g k).source == j) i 0 m;
      source = ap (source_by g) (get_or-map (λ (k : ℕ). pair_edge g k v) ks i 0 0 l)
          ∙ source_edge g v (get_or ks i 0) (omega (arith, high)) ∙ eq_of (pair_at g (get_or ks i 0)).source j w.passes;
    }

pub chain_is_at : (g : Tasks) (j v : ℕ) → j < g.loops → IsChainAt g j v (chain_edge g j v)
chain_is_at g j v l = record { inside = l; place = mod-mul-add v (stride g) j (omega (arith, l)); vector = div-mul-add v (stride g) j (omega (arith, l)) }

-- the edges into a task, and those out of it
pub inward_is : (g : Tasks) (j v : ℕ) → j < g.loops
    → inward g (task_at g j v) ≡ chain_edge g j v ∷ map (λ (k : ℕ). pair_edge g k v) (passing (λ k. (pair_at g k).reader == j) 0 (length g.reads))
inward_is g j v l =
    ap₂ (λ (a b : ℕ). chain_edge g a b ∷ map (λ (k : ℕ). pair_edge g k b) (passing (λ k. (pair_at g k).reader == a) 0 (length g.reads)))
    (mod-mul-add v g.loops j l) (div-mul-add v g.loops j l)

pub outward_is : (g : Tasks) (j v : ℕ) → j < g.loops
    → outward g (task_at g j v) ≡ chain_edge g j (v + 1) ∷ map (λ (k : ℕ). pair_edge g k v) (passing (λ k. (pair_at g k).source == j) 0 (length g.reads))
outward_is g j v l =
    ap₂ (λ (a b : ℕ). chain_edge g a (b + 1) ∷ map (λ (k : ℕ). pair_edge g k b) (passing (λ k. (pair_at g k).source == a) 0 (length g.reads)))
    (mod-mul-add v g.loops j l) (div-mul-add v g.loops j l)

pub pairs_out : (g : Tasks) (j v e i : ℕ) → 0 < i
    → i < length (e ∷ map (λ (k : ℕ). pair_edge g k v) (passing (λ k. (pair_at g k).source == j) 0 (length g.reads)))
    → IsPairFrom g j v (get_or (e ∷ map (λ (k : ℕ). pair_edge g k v) (passing (λ k. (pair_at g k).source == j) 0 (length g.reads))) i 0)
pairs_out g j v e zero some m = absurd (omega arith)
pairs_out g j v e (suc i) some m = each_from g v j i (omega (arith, m))

-- what the parcels' edges say of the parcels
pub pairs_of : (g : Tasks) (j v : ℕ) (ps : List LoopParcel)
    → map (λ (p : LoopParcel). p.edge) ps ≡ map (λ (k : ℕ). pair_edge g k v) (passing (λ k. (pair_at g k).reader == j) 0 (length g.reads))
    → All (λ (p : LoopParcel). IsPairAt g v p.edge) ps
pairs_of g j v ps e = λ i p m.
    let l : i < length (map (λ (q : LoopParcel). q.edge) ps) = omega (arith, m, length-map ps (λ (q : LoopParcel). q.edge)) in
    subst (IsPairAt g v) (get_or-map (λ (q : LoopParcel). q.edge) ps i p 0 m)
    (subst (λ (xs : List ℕ). IsPairAt g v (get_or xs i 0)) (sym e) (each_pair g v (λ k. (pair_at g k).reader == j) i 0 (omega (arith, l, ap length e))))
