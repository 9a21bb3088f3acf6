-- What the edges mean: a task's inner edges come from the tasks that it reads, and go to those that read it.
use Rattle.std.proofs.Common.{◌≡◌, ℕ, zero, suc, ◌+◌, ◌-◌, ◌*◌, ◌/◌, ◌%◌, ◌<◌, ◌≤◌, Bool, true, false, cond, ◌&&◌, ◌||◌, List, [], ◌∷◌, map, length, get_or}
use Rattle.std.proofs.Common.{refl, sym, ap, ◌∙◌, subst, arith, ltb, lt-ltb, ltb-true, true≢false, ◌==◌, eq-eqb, suc-mul, div-add-mod', mod-lt}
use mathlib.Core.Logic.{dite}
use native.Mathlib.Decide.{ℕ_discrete, dec_le}
use Rattle.fv_outside.specs.headline.Tasks.{Tasks, bit, reads_loop, reads_task}
use Rattle.fv_outside.specs.Tasks.{times, task_count}
use Rattle.fv_outside.specs.declared.tasks.Reads.{Reads}
use Rattle.fv_graph.specs.Words.{passing}
use Rattle.fv_graph.specs.Graph.{IsGraph, is_before, no_reads, pair_at, stride, loop_of, vector_of, task_of, chain_edge, pair_edge}
use Rattle.fv_graph.specs.Graph.{pair_edges_into, pair_edges_out, inward, outward, source_of, reader_of, needs_of, feeds_of}
use Rattle.fv_graph.specs.Reads.{Rises, ReadsLaw}
use Rattle.fv_graph.proofs.lemmas.Counts.{bit_le, bit_same, bit_apart, both_true, both_of, bits_agree, eq_of, either_left}
use Rattle.fv_graph.proofs.lemmas.Counts.{either_right, one_of, not_ltb, total_zero, total_at, times_passing}
use Rattle.fv_graph.proofs.lemmas.Graphs.{unique, source_pair, source_chain, reader_pair, reader_chain}

-- ---- lists that rise
rises_none : Rises []
rises_none i j d l m = absurd (omega arith)

rises_more : (x : ℕ) (xs : List ℕ) → ((k d : ℕ) → k < length xs → x < get_or xs k d) → Rises xs → Rises (x ∷ xs)
rises_more x xs low h zero zero d l m = absurd (omega arith)
rises_more x xs low h zero (suc j) d l m = low j d (omega arith)
rises_more x xs low h (suc i) zero d l m = absurd (omega arith)
rises_more x xs low h (suc i) (suc j) d l m = h i j d (omega arith) (omega arith)

rises_behind : (x : ℕ) (xs : List ℕ) → Rises (x ∷ xs) → Rises xs
rises_behind x xs h i j d l m = h (suc i) (suc j) d (omega arith) (omega arith)

pub rises_once : (xs : List ℕ) → Rises xs → (x : ℕ) → times x xs ≤ 1
rises_once [] h x = omega arith
rises_once (y ∷ ys) h x = dite (ℕ_discrete y x)
    (λ s. let z = total_zero (λ k. bit (k == x)) ys 0 (λ i l. bit_apart (get_or ys i 0) x (λ e. let o = h 0 (suc i) 0 (omega arith) (omega arith) in
    omega arith)) in let b = bit_le (y == x) in omega arith)
    (λ n. let z = bit_apart y x n in let r = rises_once ys (rises_behind y ys h) x in omega arith)

-- what stands in the list of numbers that pass
pub record Passes (p : ℕ → Bool) (from n x : ℕ) : Type 0 where
  pub low : from ≤ x
  pub high : x < from + n
  pub passes : p x ≡ true

later : (p : ℕ → Bool) (from n x : ℕ) → Passes p (suc from) n x → Passes p from (suc n) x
later p from n x h = let l = h.low in let k = h.high in record { low = omega arith; high = omega arith; passes = h.passes }

first_of : (b : Bool) (p : ℕ → Bool) (from n : ℕ) → p from ≡ b
    → ((k d : ℕ) → k < length (passing p (suc from) n) → Passes p (suc from) n (get_or (passing p (suc from) n) k d))
    → (k d : ℕ) → k < length (cond b (from ∷ passing p (suc from) n) (passing p (suc from) n))
    → Passes p from (suc n) (get_or (cond b (from ∷ passing p (suc from) n) (passing p (suc from) n)) k d)
first_of true p from n e r zero d l = record { low = omega arith; high = omega arith; passes = e }
first_of true p from n e r (suc k) d l = later p from n (get_or (passing p (suc from) n) k d) (r k d (omega arith))
first_of false p from n e r k d l = later p from n (get_or (passing p (suc from) n) k d) (r k d l)

pub get_passing : (p : ℕ → Bool) (from n : ℕ) → (k d : ℕ) → k < length (passing p from n) → Passes p from n (get_or (passing p from n) k d)
get_passing p from zero k d l = absurd (omega arith)
get_passing p from (suc n) k d l = first_of (p from) p from n refl (get_passing p (suc from) n) k d l

length_map : (f : ℕ → ℕ) (xs : List ℕ) → length (map f xs) ≡ length xs
length_map f [] = refl
length_map f (x ∷ xs) = ap suc (length_map f xs)

get_map : (f : ℕ → ℕ) (xs : List ℕ) (k d : ℕ) → k < length xs → get_or (map f xs) k d ≡ f (get_or xs k d)
get_map f [] k d l = absurd (omega arith)
get_map f (x ∷ xs) zero d l = refl
get_map f (x ∷ xs) (suc k) d l = get_map f xs k d (omega arith)

mapped : (b : Bool) (f : ℕ → ℕ) (p : ℕ → Bool) (from n : ℕ) → p from ≡ b → ((k : ℕ) → Passes p (suc from) n k → p from ≡ true → f from < f k)
    → Rises (map f (passing p (suc from) n))
    → Rises (map f (cond b (from ∷ passing p (suc from) n) (passing p (suc from) n)))
mapped true f p from n e low r = rises_more (f from) (map f (passing p (suc from) n))
    (λ k d l. let m : k < length (passing p (suc from) n) = let q = length_map f (passing p (suc from) n) in omega arith in
    let g = get_map f (passing p (suc from) n) k d m in let o = low (get_or (passing p (suc from) n) k d) (get_passing p (suc from) n k d m) e in omega arith) r
mapped false f p from n e low r = r

-- a function that rises on the numbers that pass
pub map_rises : (f : ℕ → ℕ) (p : ℕ → Bool) (from n : ℕ) → ((a b : ℕ) → a < b → b < from + n → p a ≡ true → p b ≡ true → f a < f b)
    → Rises (map f (passing p from n))
map_rises f p from zero h = rises_none
map_rises f p from (suc n) h = mapped (p from) f p from n refl
    (λ k q e. let l = q.low in let m = q.high in h from k (omega arith) (omega arith) e q.passes)
    (map_rises f p (suc from) n (λ a b l m. h a b l (omega arith)))

-- a list that has x at a place
pub stands : (xs : List ℕ) (x k d : ℕ) → k < length xs → get_or xs k d ≡ x → 0 < times x xs
stands xs x k d l e = let a = total_at (λ y. bit (y == x)) xs k d l in let b = bit_same (get_or xs k d) x e in omega arith

-- the place of what stands in a list
pub place : (xs : List ℕ) (x : ℕ) → 0 < times x xs → (k : ℕ) × (k < length xs) × (get_or xs k 0 ≡ x)
place [] x h = absurd (omega arith)
place (y ∷ ys) x h = dite (ℕ_discrete y x) (λ s. (0, omega arith, s))
    (λ n. let r = place ys x (let z = bit_apart y x n in omega arith) in (suc r.0, (let l = r.1 in omega arith), r.2))

-- ---- pairs
pub loop_at : (rs : List Reads) (j i k : ℕ) → k < length rs → (get_or rs k no_reads).reader ≡ j → (get_or rs k no_reads).source ≡ i → reads_loop rs j i ≡ true
loop_at [] j i k l a b = absurd (omega arith)
loop_at (r ∷ rs) j i zero l a b =
    either_left ((r.reader == j) && (r.source == i)) (reads_loop rs j i) (both_of (r.reader == j) (r.source == i) (eq-eqb r.reader j a) (eq-eqb r.source i b))
loop_at (r ∷ rs) j i (suc k) l a b = either_right ((r.reader == j) && (r.source == i)) (reads_loop rs j i) (loop_at rs j i k (omega arith) a b)

pub record IsAt (rs : List Reads) (j i k : ℕ) : Type 0 where
  pub there : k < length rs
  pub reader : (get_or rs k no_reads).reader ≡ j
  pub source : (get_or rs k no_reads).source ≡ i

at_first : (b : Bool) (r : Reads) (rs : List Reads) (j i : ℕ) → ((r.reader == j) && (r.source == i)) ≡ b
    → (reads_loop rs j i ≡ true → (k : ℕ) × IsAt rs j i k) → (b || reads_loop rs j i) ≡ true → (k : ℕ) × IsAt (r ∷ rs) j i k
at_first true r rs j i e f h = let b = both_true (r.reader == j) (r.source == i) e in
    (0, record { there = omega arith; reader = eq_of r.reader j b.0; source = eq_of r.source i b.1 })
at_first false r rs j i e f h = let q = f h in (suc q.0, record { there = let l = q.1.there in omega arith; reader = q.1.reader; source = q.1.source })

pub loop_place : (rs : List Reads) (j i : ℕ) → reads_loop rs j i ≡ true → (k : ℕ) × IsAt rs j i k
loop_place [] j i h = absurd (true≢false (sym h))
loop_place (r ∷ rs) j i h = at_first ((r.reader == j) && (r.source == i)) r rs j i refl (loop_place rs j i) h

before_is : (a b : Reads) → is_before a b ≡ true → (a.reader ≡ b.reader → a.source < b.source) × (a.source ≡ b.source → a.reader < b.reader)
before_is a b h = (
  λ e. one_of (ltb a.reader b.reader) ((a.reader == b.reader) && ltb a.source b.source) (a.source < b.source) h
      (λ l. let m = ltb-true a.reader b.reader l in
      absurd (omega arith)) (λ c. ltb-true a.source b.source (both_true (a.reader == b.reader) (ltb a.source b.source) c).1),
  λ e. one_of (ltb a.reader b.reader) ((a.reader == b.reader) && ltb a.source b.source) (a.reader < b.reader) h (λ l. ltb-true a.reader b.reader l)
      (λ c. let m = ltb-true a.source b.source (both_true (a.reader == b.reader) (ltb a.source b.source) c).1 in absurd (omega arith)),
)

map_map : (f h : ℕ → ℕ) (xs : List ℕ) → map f (map h xs) ≡ map (λ x. f (h x)) xs
map_map f h [] = refl
map_map f h (x ∷ xs) = ap (λ l. f (h x) ∷ l) (map_map f h xs)

-- a count that is 0 or 1, as a test
count_is : (n : ℕ) (b : Bool) → n ≤ 1 → (0 < n → b ≡ true) → (b ≡ true → 0 < n) → n ≡ bit b
count_is n true h f k = let o = k refl in omega arith
count_is n false h f k = dite (dec_le n 0) (λ l. omega arith) (λ l. absurd (true≢false (sym (f (omega arith)))))

bit_either : (a b : Bool) → (a ≡ true → b ≡ true → ⊥) → bit (a || b) ≡ bit a + bit b
bit_either true true h = absurd (h refl refl)
bit_either true false h = refl
bit_either false b h = omega arith

module _ (g : Tasks) (ig : IsGraph g) where
  -- the place of a pair's edge
  edge_place : (k v : ℕ) → k < length g.reads → (pair_edge g k v / stride g ≡ v) × (pair_edge g k v % stride g ≡ g.loops + k)
  edge_place k v h = let l = ig.some_loop in unique (pair_edge g k v / stride g) (pair_edge g k v % stride g) v (g.loops + k) (stride g)
      (mod-lt (pair_edge g k v) (omega arith)) (omega arith) (div-add-mod' (pair_edge g k v) (stride g))

  chain_place : (j v : ℕ) → j < g.loops → (chain_edge g j v / stride g ≡ v) × (chain_edge g j v % stride g ≡ j)
  chain_place j v h = unique (chain_edge g j v / stride g) (chain_edge g j v % stride g) v j (stride g) (mod-lt (chain_edge g j v) (omega arith))
      (omega arith) (div-add-mod' (chain_edge g j v) (stride g))

  pair_source : (k v : ℕ) → k < length g.reads → source_of g (pair_edge g k v) ≡ v * g.loops + (pair_at g k).source
  pair_source k v h = let u = edge_place k v h in let q = u.1 in source_pair g ig (pair_edge g k v) (omega arith)
      ∙ ap (λ w. w * g.loops + (pair_at g (pair_edge g k v % stride g - g.loops)).source) u.0 ∙ ap (λ m. v * g.loops + (pair_at g m).source) (omega arith)

  pair_reader : (k v : ℕ) → k < length g.reads → reader_of g (pair_edge g k v) ≡ v * g.loops + (pair_at g k).reader
  pair_reader k v h = let u = edge_place k v h in let q = u.1 in reader_pair g ig (pair_edge g k v) (omega arith)
      ∙ ap (λ w. w * g.loops + (pair_at g (pair_edge g k v % stride g - g.loops)).reader) u.0 ∙ ap (λ m. v * g.loops + (pair_at g m).reader) (omega arith)

  chain_source : (j v : ℕ) → j < g.loops → source_of g (chain_edge g j v) ≡ (v - 1) * g.loops + j
  chain_source j v h = let u = chain_place j v h in let q = u.1 in source_chain g ig (chain_edge g j v) (omega arith)
      ∙ ap (λ w. (w - 1) * g.loops + chain_edge g j v % stride g) u.0 ∙ ap (λ m. (v - 1) * g.loops + m) u.1

  chain_reader : (j v : ℕ) → j < g.loops → reader_of g (chain_edge g j v) ≡ v * g.loops + j
  chain_reader j v h = let u = chain_place j v h in let q = u.1 in reader_chain g ig (chain_edge g j v) (omega arith)
      ∙ ap (λ w. w * g.loops + chain_edge g j v % stride g) u.0 ∙ ap (λ m. v * g.loops + m) u.1

  -- the pair edges of a task t at its loop, by what stands at their other ends
  module _ (t : ℕ) (near far f : ℕ → ℕ)
      (ends : (k : ℕ) → k < length g.reads → f (pair_edge g k (vector_of g t)) ≡ vector_of g t * g.loops + far k)
      (low : (k : ℕ) → k < length g.reads → far k < g.loops)
      (rising : (a b : ℕ) → a < b → b < length g.reads → near a ≡ near b → far a < far b) where
    pub ends_rise : Rises (map f (map (λ k. pair_edge g k (vector_of g t)) (passing (λ k. near k == loop_of g t) 0 (length g.reads))))
    ends_rise = subst (λ l. Rises l) (sym (map_map f (λ k. pair_edge g k (vector_of g t)) (passing (λ k. near k == loop_of g t) 0 (length g.reads))))
        (map_rises (λ k. f (pair_edge g k (vector_of g t))) (λ k. near k == loop_of g t) 0 (length g.reads)
        (λ a b l m p q. let x = ends a (omega arith) in let y = ends b (omega arith) in
        let r = rising a b l (omega arith) (eq_of (near a) (loop_of g t) p ∙ sym (eq_of (near b) (loop_of g t) q)) in omega arith))

    pub ends_count : (s : ℕ) (R : Bool) → ((k : ℕ) → k < length g.reads → near k ≡ loop_of g t → far k ≡ loop_of g s → R ≡ true)
        → (R ≡ true → (k : ℕ) × (k < length g.reads) × (near k ≡ loop_of g t) × (far k ≡ loop_of g s))
        → times s (map f (map (λ k. pair_edge g k (vector_of g t)) (passing (λ k. near k == loop_of g t) 0 (length g.reads))))
        ≡ bit (R && (vector_of g s == vector_of g t))
    ends_count s R found back =
        let p : ℕ → Bool = λ k. near k == loop_of g t in
        let h : ℕ → ℕ = λ k. f (pair_edge g k (vector_of g t)) in
        let P = passing p 0 (length g.reads) in
        let flat = map_map f (λ k. pair_edge g k (vector_of g t)) P in
        let ps = div-add-mod' s g.loops in
        ap (times s) flat
        ∙ count_is (times s (map h P)) (R && (vector_of g s == vector_of g t))
        (subst (λ l. times s l ≤ 1) flat (rises_once (map f (map (λ k. pair_edge g k (vector_of g t)) P)) ends_rise s))
        (λ some. let at = place (map h P) s some in
        let m : at.0 < length P = let q = length_map h P in let l = at.1 in omega arith in
        let k = get_or P at.0 0 in let w = get_passing p 0 (length g.reads) at.0 0 m in
        let l : k < length g.reads = let o = w.high in omega arith in
        let e = sym (ends k l) ∙ sym (get_map h P at.0 0 m) ∙ at.2 in
        let u = unique (vector_of g t) (far k) (s / g.loops) (s % g.loops) g.loops (low k l) (mod-lt s ig.some_loop) (e ∙ sym ps) in
        both_of R (vector_of g s == vector_of g t) (found k l (eq_of (near k) (loop_of g t) w.passes) u.1) (eq-eqb (vector_of g s) (vector_of g t) (sym u.0)))
        (λ both. let b = both_true R (vector_of g s == vector_of g t) both in
        let q = back b.0 in let k = q.0 in
        let in_P : 0 < times k P = let c = times_passing p 0 (length g.reads) k (omega arith) (let l = q.1 in omega arith) in
        let o = bit_same (near k) (loop_of g t) q.2 in omega arith in
        let at = place P k in_P in
        let v = eq_of (vector_of g s) (vector_of g t) b.1 in
        let vq : vector_of g s * g.loops ≡ vector_of g t * g.loops = ap (λ n. n * g.loops) v in
        stands (map h P) s at.0 0 (let l = length_map h P in let m = at.1 in omega arith)
        (get_map h P at.0 0 at.1 ∙ ap h at.2 ∙ ends k q.1 ∙ (let e = q.3 in omega arith)))

  near_reader : (a b : ℕ) → a < b → b < length g.reads → (pair_at g a).reader ≡ (pair_at g b).reader → (pair_at g a).source < (pair_at g b).source
  near_reader a b l h e = (before_is (pair_at g a) (pair_at g b) (ig.rising a b l h)).0 e

  near_source : (a b : ℕ) → a < b → b < length g.reads → (pair_at g a).source ≡ (pair_at g b).source → (pair_at g a).reader < (pair_at g b).reader
  near_source a b l h e = (before_is (pair_at g a) (pair_at g b) (ig.rising a b l h)).1 e

  low_reader : (k : ℕ) → k < length g.reads → (pair_at g k).reader < g.loops
  low_reader k h = (ig.in_order k h).1

  low_source : (k : ℕ) → k < length g.reads → (pair_at g k).source < g.loops
  low_source k h = let o = ig.in_order k h in let a = o.0 in let b = o.1 in omega arith

  pub sources_rise : (t : ℕ) → Rises (map (source_of g) (pair_edges_into g t))
  sources_rise t = ends_rise t (λ k. (pair_at g k).reader) (λ k. (pair_at g k).source) (source_of g)
      (λ k h. pair_source k (vector_of g t) h) low_source near_reader

  pub readers_rise : (t : ℕ) → Rises (map (reader_of g) (pair_edges_out g t))
  readers_rise t = ends_rise t (λ k. (pair_at g k).source) (λ k. (pair_at g k).reader) (reader_of g)
      (λ k h. pair_reader k (vector_of g t) h) low_reader near_source

  read_pairs : (t s : ℕ) → times s (map (source_of g) (pair_edges_into g t))
      ≡ bit (reads_loop g.reads (loop_of g t) (loop_of g s) && (vector_of g s == vector_of g t))
  read_pairs t s = ends_count t (λ k. (pair_at g k).reader) (λ k. (pair_at g k).source) (source_of g)
      (λ k h. pair_source k (vector_of g t) h) low_source near_reader s (reads_loop g.reads (loop_of g t) (loop_of g s))
      (λ k l a b. loop_at g.reads (loop_of g t) (loop_of g s) k l a b)
      (λ h. let q = loop_place g.reads (loop_of g t) (loop_of g s) h in (q.0, q.1.there, q.1.reader, q.1.source))

  fed_pairs : (t s : ℕ) → times s (map (reader_of g) (pair_edges_out g t))
      ≡ bit (reads_loop g.reads (loop_of g s) (loop_of g t) && (vector_of g s == vector_of g t))
  fed_pairs t s = ends_count t (λ k. (pair_at g k).source) (λ k. (pair_at g k).reader) (reader_of g)
      (λ k h. pair_reader k (vector_of g t) h) low_reader near_source s (reads_loop g.reads (loop_of g s) (loop_of g t))
      (λ k l a b. loop_at g.reads (loop_of g s) (loop_of g t) k l b a)
      (λ h. let q = loop_place g.reads (loop_of g s) (loop_of g t) h in (q.0, q.1.there, q.1.source, q.1.reader))

  -- two tasks of a loop at neighbouring vectors
  next_task : (t s : ℕ) → bit ((loop_of g s == loop_of g t) && ((vector_of g s + 1) == vector_of g t)) ≡ bit ((s + g.loops) == t)
  next_task t s =
      let pt = div-add-mod' t g.loops in let ps = div-add-mod' s g.loops in let lt = mod-lt t ig.some_loop in let ls = mod-lt s ig.some_loop in
      let m = suc-mul (s / g.loops) g.loops in
      let q : (s / g.loops + 1) * g.loops ≡ suc (s / g.loops) * g.loops = ap (λ n. n * g.loops) (omega arith) in
      bits_agree ((loop_of g s == loop_of g t) && ((vector_of g s + 1) == vector_of g t)) ((s + g.loops) == t)
      (λ h. let b = both_true (loop_of g s == loop_of g t) ((vector_of g s + 1) == vector_of g t) h in
      let l = eq_of (loop_of g s) (loop_of g t) b.0 in let v = ap (λ n. n * g.loops) (eq_of (vector_of g s + 1) (vector_of g t) b.1) in
      eq-eqb (s + g.loops) t (omega arith))
      (λ h. let e = eq_of (s + g.loops) t h in
      let u = unique (s / g.loops + 1) (s % g.loops) (t / g.loops) (t % g.loops) g.loops ls lt (omega arith) in
      both_of (loop_of g s == loop_of g t) ((vector_of g s + 1) == vector_of g t) (eq-eqb (loop_of g s) (loop_of g t) u.1)
      (eq-eqb (vector_of g s + 1) (vector_of g t) u.0))

  read_parts : (t s : ℕ) → bit (reads_task g (task_of g t) (task_of g s))
      ≡ bit ((s + g.loops) == t) + bit (reads_loop g.reads (loop_of g t) (loop_of g s) && (vector_of g s == vector_of g t))
  read_parts t s =
      let n = next_task t s in
      let e = bit_either ((loop_of g s == loop_of g t) && ((vector_of g s + 1) == vector_of g t))
      (reads_loop g.reads (loop_of g t) (loop_of g s) && (vector_of g s == vector_of g t))
      (λ a b. let x = eq_of (vector_of g s + 1) (vector_of g t) (both_true (loop_of g s == loop_of g t) ((vector_of g s + 1) == vector_of g t) a).1 in
      let y = eq_of (vector_of g s) (vector_of g t) (both_true (reads_loop g.reads (loop_of g t) (loop_of g s)) (vector_of g s == vector_of g t) b).1 in
      omega arith) in omega arith

  pub reads : (t s : ℕ) → t < task_count g → s < task_count g → times s (map (source_of g) (needs_of g t)) ≡ bit (reads_task g (task_of g t) (task_of g s))
  reads t s there also =
      let p = read_pairs t s in let r = read_parts t s in let pt = div-add-mod' t g.loops in let lt = mod-lt t ig.some_loop in
      dite (dec_le g.loops t)
      (λ l. ap (λ b. times s (map (source_of g) (cond b (pair_edges_into g t) (inward g t)))) (not_ltb t g.loops l)
      ∙ (let c = chain_source (loop_of g t) (vector_of g t) lt in
      let some : 0 < t / g.loops = dite (ℕ_discrete (t / g.loops) 0)
      (λ z. let q : t / g.loops * g.loops ≡ 0 * g.loops = ap (λ n. n * g.loops) z in absurd (omega arith)) (λ n. omega arith) in
      let m = suc-mul (t / g.loops - 1) g.loops in
      let q : t / g.loops * g.loops ≡ suc (t / g.loops - 1) * g.loops = ap (λ n. n * g.loops) (omega arith) in
      let same : bit (source_of g (chain_edge g (loop_of g t) (vector_of g t)) == s) ≡ bit ((s + g.loops) == t) =
      bits_agree (source_of g (chain_edge g (loop_of g t) (vector_of g t)) == s) ((s + g.loops) == t)
      (λ a. let e = eq_of (source_of g (chain_edge g (loop_of g t) (vector_of g t))) s a in eq-eqb (s + g.loops) t (omega arith))
      (λ a. let e = eq_of (s + g.loops) t a in eq-eqb (source_of g (chain_edge g (loop_of g t) (vector_of g t))) s (omega arith)) in omega arith))
      (λ l. ap (λ b. times s (map (source_of g) (cond b (pair_edges_into g t) (inward g t)))) (lt-ltb t g.loops (omega arith))
      ∙ (let z = bit_apart (s + g.loops) t (λ e. omega arith) in omega arith))

  pub feeds : (t s : ℕ) → t < task_count g → s < task_count g → times s (map (reader_of g) (feeds_of g t)) ≡ bit (reads_task g (task_of g s) (task_of g t))
  feeds t s there also =
      let p = fed_pairs t s in let r = read_parts s t in let pt = div-add-mod' t g.loops in let lt = mod-lt t ig.some_loop in
      let swap : bit (reads_loop g.reads (loop_of g s) (loop_of g t) && (vector_of g s == vector_of g t))
      ≡ bit (reads_loop g.reads (loop_of g s) (loop_of g t) && (vector_of g t == vector_of g s)) =
      bits_agree (reads_loop g.reads (loop_of g s) (loop_of g t) && (vector_of g s == vector_of g t))
      (reads_loop g.reads (loop_of g s) (loop_of g t) && (vector_of g t == vector_of g s))
      (λ h. let b = both_true (reads_loop g.reads (loop_of g s) (loop_of g t)) (vector_of g s == vector_of g t) h in
      both_of (reads_loop g.reads (loop_of g s) (loop_of g t)) (vector_of g t == vector_of g s) b.0
      (eq-eqb (vector_of g t) (vector_of g s) (sym (eq_of (vector_of g s) (vector_of g t) b.1))))
      (λ h. let b = both_true (reads_loop g.reads (loop_of g s) (loop_of g t)) (vector_of g t == vector_of g s) h in
      both_of (reads_loop g.reads (loop_of g s) (loop_of g t)) (vector_of g s == vector_of g t) b.0
      (eq-eqb (vector_of g s) (vector_of g t) (sym (eq_of (vector_of g t) (vector_of g s) b.1)))) in
      dite (dec_le (task_count g) (t + g.loops))
      (λ l. ap (λ b. times s (map (reader_of g) (cond b (outward g t) (pair_edges_out g t)))) (not_ltb (t + g.loops) (task_count g) l)
      ∙ (let z = bit_apart (t + g.loops) s (λ e. omega arith) in omega arith))
      (λ l. ap (λ b. times s (map (reader_of g) (cond b (outward g t) (pair_edges_out g t)))) (lt-ltb (t + g.loops) (task_count g) (omega arith))
      ∙ (let c = chain_reader (loop_of g t) (vector_of g t + 1) lt in
      let m = suc-mul (t / g.loops) g.loops in
      let q : (t / g.loops + 1) * g.loops ≡ suc (t / g.loops) * g.loops = ap (λ n. n * g.loops) (omega arith) in
      let same : bit (reader_of g (chain_edge g (loop_of g t) (vector_of g t + 1)) == s) ≡ bit ((t + g.loops) == s) =
      ap (λ k. bit (k == s)) (c ∙ omega arith) in omega arith))

  pub reads_law : (t : ℕ) → t < task_count g → ReadsLaw g t
  reads_law t there = record {
    reads = λ s h. reads t s there h;
    feeds = λ s h. feeds t s there h;
    sources_rise = sources_rise t;
    readers_rise = readers_rise t;
  }

  -- the edge through which a task reads another
  pub source_found : (t s : ℕ) → t < task_count g → s < task_count g → reads_task g (task_of g t) (task_of g s) ≡ true
      → (e : ℕ) × (0 < times e (needs_of g t)) × (source_of g e ≡ s)
  source_found t s there also h =
      let one = reads t s there also ∙ ap bit h in
      let at = place (map (source_of g) (needs_of g t)) s (omega arith) in
      let l : at.0 < length (needs_of g t) = let q = length_map (source_of g) (needs_of g t) in let m = at.1 in omega arith in (
        get_or (needs_of g t) at.0 0,
        stands (needs_of g t) (get_or (needs_of g t) at.0 0) at.0 0 l refl,
        sym (get_map (source_of g) (needs_of g t) at.0 0 l) ∙ at.2,
      )
