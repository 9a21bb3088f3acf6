-- The lists that are made are those of the edges.
use Rattle.std.proofs.Common.{◌≡◌, ℕ, zero, suc, ◌+◌, ◌*◌, ◌<◌, Bool, List, [], ◌∷◌, map, length, get_or}
use Rattle.std.proofs.Common.{refl, sym, ap, ◌∙◌, subst, arith, ◌==◌, suc-mul}
use Rattle.std.specs.Global.{Vec}
use Rattle.fv_outside.specs.headline.Tasks.{Tasks}
use Rattle.fv_outside.specs.declared.tasks.Reads.{Reads}
use Rattle.fv_graph.specs.Words.{passing}
use Rattle.fv_graph.specs.Graph.{no_reads, pair_at, stride}
use Rattle.fv_graph.specs.declared.lists.EdgeLists.{EdgeLists}
use Rattle.fv_graph.specs.inner.Lists.{AreLists, AreInward, AreOutward, Grouped, group_of, edges_at, pairs_at}
use Rattle.fv_graph.proofs.lemmas.ReadsLemmas.{get_passing}

group_items : (groups : List (Vec ℕ)) (j : ℕ) (xs : List ℕ) → j < length groups → ((d : Vec ℕ) → (get_or groups j d).items ≡ xs) → group_of groups j ≡ xs
group_items [] j xs l h = absurd (omega arith)
group_items (g ∷ gs) zero xs l h = h g
group_items (g ∷ gs) (suc j) xs l h = group_items gs j xs (omega arith) h

length_keys : (f : Reads → ℕ) (rs : List Reads) → length (map f rs) ≡ length rs
length_keys f [] = refl
length_keys f (r ∷ rs) = ap suc (length_keys f rs)

get_keys : (f : Reads → ℕ) (rs : List Reads) (i : ℕ) → f no_reads ≡ 0 → get_or (map f rs) i 0 ≡ f (get_or rs i no_reads)
get_keys f [] i z = sym z
get_keys f (r ∷ rs) zero z = refl
get_keys f (r ∷ rs) (suc i) z = get_keys f rs i z

-- the keys of all pairs are loops
pub keys_low : (f : Reads → ℕ) (rs : List Reads) (keys : List ℕ) (loops : ℕ) → f no_reads ≡ 0 → keys ≡ map f rs
    → ((k : ℕ) → k < length rs → f (get_or rs k no_reads) < loops) → (k : ℕ) → k < length keys → get_or keys k 0 < loops
keys_low f rs keys loops z is low k h = let l = low k (let a = ap length is in let b = length_keys f rs in omega arith) in let g = get_keys f rs k z in
    let q = ap (λ l. get_or l k 0) is in omega arith

-- the groups of the pairs by a key: that of each loop has the places of the pairs whose key it is
pub record AreGrouped (g : Tasks) (f : Reads → ℕ) (keys : List ℕ) (groups : List (Vec ℕ)) : Type 0 where
  pub all : keys ≡ map f g.reads
  pub long : length groups ≡ g.loops
  pub by : Grouped keys g.loops (length keys) groups

module _ (g : Tasks) (f : Reads → ℕ) (z : f no_reads ≡ 0) (keys : List ℕ) (groups : List (Vec ℕ)) (are : AreGrouped g f keys groups) where
  made : (j : ℕ) → j < g.loops → group_of groups j ≡ passing (λ k. f (pair_at g k) == j) 0 (length g.reads)
  made j h =
      let l = are.long in
      group_items groups j (passing (λ i. get_or keys i 0 == j) 0 (length keys)) (omega arith) (λ d. are.by j d h)
      ∙ ap (passing (λ i. get_or keys i 0 == j) 0) (ap length are.all ∙ length_keys f g.reads)
      ∙ ap (λ (p : ℕ → Bool). passing p 0 (length g.reads)) (λ x i. (ap (λ l. get_or l i 0) are.all ∙ get_keys f g.reads i z) x == j)

  pub made_low : (wide : ℕ) → wide ≡ length g.reads → (j i : ℕ) → j < g.loops → i < length (group_of groups j)
      → g.loops + get_or (group_of groups j) i 0 < g.loops + wide
  made_low wide w j i h l =
      let m = made j h in
      let p = get_passing (λ k. f (pair_at g k) == j) 0 (length g.reads) i 0 (subst (λ xs. i < length xs) m l) in
      let q = ap (λ xs. get_or xs i 0) m in let o = p.high in omega arith

  -- the list of a loop's task at a vector, after its edge from its own loop or to it
  pub pairs_made : (wide v j : ℕ) → wide ≡ stride g → j < g.loops
      → map (λ e. v * wide + e) (map (λ k. g.loops + k) (group_of groups j)) ≡ pairs_at f g v j
  pairs_made wide v j w h =
      map_twice (λ e. v * wide + e) (λ k. g.loops + k) (group_of groups j)
      ∙ ap (map (λ k. v * wide + (g.loops + k))) (made j h)
      ∙ ap (λ n. map (λ k. v * n + (g.loops + k)) (passing (λ k. f (pair_at g k) == j) 0 (length g.reads))) w
    where
      map_twice : (f g : ℕ → ℕ) (xs : List ℕ) → map f (map g xs) ≡ map (λ x. f (g x)) xs
      map_twice f g [] = refl
      map_twice f g (x ∷ xs) = ap (λ ys. f (g x) ∷ ys) (map_twice f g xs)

-- the lists into tasks, and those out of them
pub are_inward : (g : Tasks) (keys : List ℕ) (groups : List (Vec ℕ)) (lists : EdgeLists) (wide : ℕ) → wide ≡ stride g
    → AreGrouped g (λ (r : Reads). r.reader) keys groups
    → AreLists (edges_at g.loops wide 0 groups) g.vectors g.loops lists.wide lists.begins.items lists.edges.items → AreInward g lists
are_inward g keys groups lists wide w are h = record {
  long = h.long;
  each = λ v j l k. let p = h.each v j l k in record {
    rises = p.rises;
    within = p.within;
    is = p.is ∙ ap (λ xs. (v * wide + (j + 0)) ∷ xs) (pairs_made g (λ (r : Reads). r.reader) refl keys groups are wide v j w k)
        ∙ ap (λ n. n ∷ pairs_at (λ (r : Reads). r.reader) g v j) (let q = ap (λ n. v * n) w in omega arith);
  };
}

pub are_outward : (g : Tasks) (keys : List ℕ) (groups : List (Vec ℕ)) (lists : EdgeLists) (wide : ℕ) → wide ≡ stride g
    → AreGrouped g (λ (r : Reads). r.source) keys groups
    → AreLists (edges_at g.loops wide wide groups) g.vectors g.loops lists.wide lists.begins.items lists.edges.items → AreOutward g lists
are_outward g keys groups lists wide w are h = record {
  long = h.long;
  each = λ v j l k. let p = h.each v j l k in record {
    rises = p.rises;
    within = p.within;
    is = p.is ∙ ap (λ xs. (v * wide + (j + wide)) ∷ xs) (pairs_made g (λ (r : Reads). r.source) refl keys groups are wide v j w k)
        ∙ ap (λ n. n ∷ pairs_at (λ (r : Reads). r.source) g v j) (let q = ap (λ n. v * n) w in let m = suc-mul v (stride g) in
        let r : (v + 1) * stride g ≡ suc v * stride g = ap (λ n. n * stride g) (omega arith) in omega arith);
  };
}
