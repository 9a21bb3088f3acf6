-- What a task takes from its parcels.
use Rattle.std.proofs.Common.{◌≡◌, ℕ, suc, ◌+◌, ◌-◌, ◌*◌, ◌/◌, ◌<◌, ◌≤◌, List, [], ◌∷◌, ◌++◌, length, map, drop, get_or, sym, ap, ◌∙◌, subst, refl, arith}
use Rattle.std.specs.Prelude.{All, ◌==◌, reverse}
use Rattle.std.proofs.lemmas.List.{reverse-append, length-reverse, get_or-reverse}
use Rattle.std.proofs.Math.Nat.{le-div_iff_mul-le, suc-mul}
use Rattle.fv_graph.specs.Words.{passing}
use Rattle.fv_graph.specs.Graph.{stride, place_in, pair_at, pair_edge, chain_edge, task_at, inward}
use Rattle.fv_graph.proofs.lemmas.ReadsLemmas.{get_passing}
use Rattle.fv_engine_codes.specs.Plans.{lanes_of_all, sources_of}
use Rattle.fv_engine_crew.specs.Contents.{tasks_in, AreHandedOn}
use Rattle.fv_engine_crew.specs.inner.Turns.{lanes_by, IsChainAt}
use Rattle.fv_engine_crew.specs.declared.start.Start.{Start}
use Rattle.fv_engine_crew.specs.declared.content.Writers.{Writers}
use Rattle.fv_engine_crew.specs.declared.parcel.LoopParcel.{LoopParcel}
use Rattle.fv_engine_crew.proofs.lemmas.Edges.{inward_is, chain_is_at, sources_by}
use Rattle.fv_engine_crew.proofs.lemmas.Handing.{edges_push}

-- the first edge and the others
record Split (ps : List LoopParcel) (e : ℕ) (es : List ℕ) : Type 0 where
  pub first : (d : LoopParcel) → (get_or ps 0 d).edge ≡ e
  pub others : map (λ (p : LoopParcel). p.edge) (drop 1 ps) ≡ es
  pub some : 0 < length ps

split : (ps : List LoopParcel) (e : ℕ) (es : List ℕ) → map (λ (p : LoopParcel). p.edge) ps ≡ e ∷ es → Split ps e es
split [] e es q = absurd (omega (arith, ap length q))
split (p ∷ ps) e es q = record { first = λ d. ap (λ (l : List ℕ). get_or l 0 0) q; others = ap (λ (l : List ℕ). drop 1 l) q; some = omega arith }

keys_drop : (k : Start) (ps : List LoopParcel) → All (λ (q : LoopParcel). q.start.value ≡ k) ps → All (λ (q : LoopParcel). q.start.value ≡ k) (drop 1 ps)
keys_drop k [] a = λ i d m. absurd (omega (arith, m))
keys_drop k (p ∷ ps) a = λ i d m. a (suc i) d (omega (arith, m))

pub record Came (k : Start) (j v : ℕ) (p : LoopParcel) (rest : List LoopParcel) : Type 0 where
  pub edge : p.edge ≡ chain_edge (tasks_in k) j v
  pub key : p.start.value ≡ k
  pub pairs : map (λ (q : LoopParcel). q.edge) rest
      ≡ map (λ (i : ℕ). pair_edge (tasks_in k) i v) (passing (λ i. (pair_at (tasks_in k) i).reader == j) 0 (length (tasks_in k).reads))
  pub keys : All (λ (q : LoopParcel). q.start.value ≡ k) rest

pub came : (k : Start) (j v : ℕ) (ps : List LoopParcel) (p : LoopParcel) (rest : List LoopParcel) → j < (tasks_in k).loops
    → map (λ (q : LoopParcel). q.edge) ps ≡ inward (tasks_in k) (task_at (tasks_in k) j v) → All (λ (q : LoopParcel). q.start.value ≡ k) ps
    → p ≡ get_or ps 0 p → rest ≡ drop 1 ps → Came k j v p rest
came k j v ps p rest l e a is r =
    let s = split ps (chain_edge (tasks_in k) j v) _ (e ∙ inward_is (tasks_in k) j v l) in
    record {
      edge = ap (λ (q : LoopParcel). q.edge) is ∙ s.first p;
      key = ap (λ (q : LoopParcel). q.start.value) is ∙ a 0 p s.some;
      pairs = ap (map (λ (q : LoopParcel). q.edge)) r ∙ s.others;
      keys = subst (λ (qs : List LoopParcel). All (λ (q : LoopParcel). q.start.value ≡ k) qs) (sym r) (keys_drop k ps a);
    }

writers_came : (k k0 : Start) (j v e : ℕ) (w : Writers) → k0 ≡ k → e ≡ chain_edge (tasks_in k) j v → j < (tasks_in k).loops
    → AreHandedOn k0 (place_in (tasks_in k0) e) (e / stride (tasks_in k0)) 0 w → AreHandedOn k j v 0 w
writers_came k k0 j v e w key edge l a =
    let c : IsChainAt (tasks_in k) j v (chain_edge (tasks_in k) j v) = chain_is_at (tasks_in k) j v l in
    subst (λ (n : ℕ). AreHandedOn k j n 0 w) c.vector
    (subst (λ (i : ℕ). AreHandedOn k i (chain_edge (tasks_in k) j v / stride (tasks_in k)) 0 w) c.place
    (subst (λ (x : ℕ). AreHandedOn k (place_in (tasks_in k) x) (x / stride (tasks_in k)) 0 w) edge
    (subst (λ (s : Start). AreHandedOn s (place_in (tasks_in s) e) (e / stride (tasks_in s)) 0 w) key a)))

pub none_seen : {X : Type 0} (k k0 : Start) (j v e : ℕ) → k0 ≡ k → e ≡ chain_edge (tasks_in k) j v → j < (tasks_in k).loops
    → (tasks_in k0).loops ≤ place_in (tasks_in k0) e → X
none_seen k k0 j v e key edge l a =
    let c : IsChainAt (tasks_in k) j v (chain_edge (tasks_in k) j v) = chain_is_at (tasks_in k) j v l in
    let b : (tasks_in k).loops ≤ place_in (tasks_in k) e = subst (λ (s : Start). (tasks_in s).loops ≤ place_in (tasks_in s) e) key a in
    let d : (tasks_in k).loops ≤ place_in (tasks_in k) (chain_edge (tasks_in k) j v) = subst (λ (x : ℕ). (tasks_in k).loops ≤ place_in (tasks_in k) x) edge b in
    absurd (omega (arith, d, c.place, l))

-- the lanes that come over the edges of the pairs into a task
lanes_in_pairs : (k : Start) (j v : ℕ) (es : List ℕ)
    → es ≡ map (λ (i : ℕ). pair_edge (tasks_in k) i v) (passing (λ i. (pair_at (tasks_in k) i).reader == j) 0 (length (tasks_in k).reads))
    → lanes_by k es ≡ lanes_of_all k.plan.now (sources_of (tasks_in k) j)
lanes_in_pairs k j v es e =
    ap (lanes_by k) e
    ∙ ap (lanes_of_all k.plan.now) (sources_by (tasks_in k) v (passing (λ i. (pair_at (tasks_in k) i).reader == j) 0 (length (tasks_in k).reads))
    (λ i d m. let high = (get_passing (λ i. (pair_at (tasks_in k) i).reader == j) 0 (length (tasks_in k).reads) i d m).high in omega (arith, high)))

-- what a task's parcels hold: its loop's writers, and the lanes of the loops that it reads
pub record Holds (k : Start) (j v : ℕ) (w : Writers) (edges : List ℕ) : Type 0 where
  pub writers : AreHandedOn k j v 0 w
  pub lanes : lanes_by k edges ≡ lanes_of_all k.plan.now (sources_of (tasks_in k) j)

pub holds : (k : Start) (j v : ℕ) (p : LoopParcel) (rest : List LoopParcel) (w : Writers) (edges : List ℕ) → j < (tasks_in k).loops → Came k j v p rest
    → edges ≡ map (λ (q : LoopParcel). q.edge) rest
    → AreHandedOn p.start.value (place_in (tasks_in p.start.value) p.edge) (p.edge / stride (tasks_in p.start.value)) 0 w → Holds k j v w edges
holds k j v p rest w edges l t e a = record {
  writers = writers_came k p.start.value j v p.edge w t.key t.edge l a;
  lanes = lanes_in_pairs k j v edges (e ∙ t.pairs);
}

pub vector_inside : (v n f : ℕ) → 1 ≤ n → v < (f + (n - 1)) / n → v * n < f
vector_inside v n f some l =
    let a : suc v * n ≤ f + (n - 1) = (le-div_iff_mul-le {k = n} {x = suc v} {y = f + (n - 1)} some).0 l in
    omega (arith, a, suc-mul v n, some)

pub edges_reverse : (ps : List LoopParcel) → map (λ (p : LoopParcel). p.edge) (reverse ps) ≡ reverse (map (λ (p : LoopParcel). p.edge) ps)
edges_reverse [] = refl
edges_reverse (p ∷ ps) =
    ap (map (λ (q : LoopParcel). q.edge)) (reverse-append (p ∷ []) ps) ∙ edges_push (reverse ps) p p.edge refl
    ∙ ap (λ (l : List ℕ). l ++ p.edge ∷ []) (edges_reverse ps) ∙ sym (reverse-append (p.edge ∷ []) (map (λ (q : LoopParcel). q.edge) ps))

pub keys_reverse : (k : Start) (ps : List LoopParcel) → All (λ (p : LoopParcel). p.start.value ≡ k) ps
    → All (λ (p : LoopParcel). p.start.value ≡ k) (reverse ps)
keys_reverse k ps a = λ i d m.
    let l : i < length ps = omega (arith, m, length-reverse ps) in
    ap (λ (p : LoopParcel). p.start.value) (get_or-reverse ps i d l) ∙ a (length ps - 1 - i) d (omega arith)
