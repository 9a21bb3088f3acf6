-- The edges of a graph by their numbers: each stands once among those into its reader, and once among those out of its source.
use Rattle.std.proofs.Common.{◌≡◌, ◌≢◌, ℕ, suc, ◌+◌, ◌-◌, ◌*◌, ◌/◌, ◌%◌, ◌<◌, ◌≤◌, Bool, true, false, cond, not, ◌&&◌, ◌||◌, List, map, length, refl, sym, ap}
use Rattle.std.proofs.Common.{◌∙◌, arith, ltb, leb, lt-ltb, ltb-true, true≢false, ◌==◌, eq-eqb, mul-le-mul_right, suc-mul, div-add-mod', mod-lt}
use mathlib.Core.Logic.{dite}
use native.Mathlib.Decide.{ℕ_discrete, dec_le}
use Rattle.fv_outside.specs.headline.Tasks.{Tasks, bit}
use Rattle.fv_outside.specs.Tasks.{times, task_count}
use Rattle.fv_graph.specs.Words.{passing}
use Rattle.fv_graph.specs.Net.{IsNet}
use Rattle.fv_graph.specs.Graph.{IsGraph, pair_at, stride, edges_of, task_at, loop_of, vector_of, chain_edge, pair_edge, pair_edges_into, pair_edges_out}
use Rattle.fv_graph.specs.Graph.{inward, outward, place_in, source_of, reader_of, needs_of, feeds_of, is_entry, is_exit, net_of}
use Rattle.fv_graph.specs.Wires.{IsWires, wires_of}
use Rattle.fv_graph.proofs.lemmas.Counts.{bit_same, bit_apart, bit_le as bit_most, both_true, not_true, bit_left, bit_right, bits_agree, leb_of, of_leb}
use Rattle.fv_graph.proofs.lemmas.Counts.{either_left, either_right, one_of, times_above, times_passing, map_hit, map_miss, both_of, not_ltb, eq_of}

pub further : (x y n : ℕ) → x < y → x * n + n ≤ y * n
further x y n h = let a : suc x * n ≤ y * n = mul-le-mul_right n h in omega (arith, suc-mul x n)

pub unique : (a b c d n : ℕ) → b < n → d < n → a * n + b ≡ c * n + d → (a ≡ c) × (b ≡ d)
unique a b c d n hb hd e = dite (ℕ_discrete a c)
    (λ s. (s, (let q : a * n ≡ c * n = ap (λ k. k * n) s in omega arith)))
    (λ ne. dite (dec_le a c) (λ l. let f = further a c n (omega arith) in absurd (omega arith))
    (λ l. let f = further c a n (omega arith) in absurd (omega arith)))

-- below a product, a quotient is below the factor
pub low_quotient : (x m n : ℕ) → x < m * n → x / n < m
low_quotient x m n h = dite (dec_le m (x / n)) (λ l. let k = mul-le-mul_right n l in let p = div-add-mod' x n in absurd (omega arith)) (λ l. omega arith)

-- the pairs that pass, as edges of vector v
abbrev pairs_at : Tasks → (ℕ → Bool) → ℕ → List ℕ
pairs_at g p v = map (λ k. pair_edge g k v) (passing p 0 (length g.reads))

module _ (g : Tasks) (ig : IsGraph g) where
  module _ (e : ℕ) where
    at_e : e / stride g * stride g + e % stride g ≡ e
    at_e = div-add-mod' e (stride g)

    low : e % stride g < stride g
    low = let s = ig.some_loop in mod-lt e (omega arith)

    -- its vector and its place are those of its number
    edge_parts : (v p : ℕ) → p < stride g → v * stride g + p ≡ e → (v ≡ e / stride g) × (p ≡ e % stride g)
    edge_parts v p l is = unique v p (e / stride g) (e % stride g) (stride g) l low (is ∙ sym at_e)

    -- its reader and its source, by whether it is of a loop's own chain
    abbrev reader_by : Bool → ℕ
    reader_by b = cond b (task_at g (place_in g e) (e / stride g)) (task_at g (pair_at g (place_in g e - g.loops)).reader (e / stride g))

    abbrev source_by : Bool → ℕ
    source_by b = cond b (task_at g (place_in g e) (e / stride g - 1)) (task_at g (pair_at g (place_in g e - g.loops)).source (e / stride g))

    pub reader_chain : e % stride g < g.loops → reader_of g e ≡ e / stride g * g.loops + e % stride g
    reader_chain h = ap reader_by (lt-ltb (e % stride g) g.loops h)

    pub reader_pair : g.loops ≤ e % stride g → reader_of g e ≡ e / stride g * g.loops + (pair_at g (e % stride g - g.loops)).reader
    reader_pair h = ap reader_by (not_ltb (e % stride g) g.loops h)

    pub source_chain : e % stride g < g.loops → source_of g e ≡ (e / stride g - 1) * g.loops + e % stride g
    source_chain h = ap source_by (lt-ltb (e % stride g) g.loops h)

    pub source_pair : g.loops ≤ e % stride g → source_of g e ≡ e / stride g * g.loops + (pair_at g (e % stride g - g.loops)).source
    source_pair h = ap source_by (not_ltb (e % stride g) g.loops h)

    -- the pair of an edge that is of a pair
    pub pair_fits : g.loops ≤ e % stride g → ((pair_at g (e % stride g - g.loops)).source < (pair_at g (e % stride g - g.loops)).reader)
        × ((pair_at g (e % stride g - g.loops)).reader < g.loops)
    pair_fits h = let l = low in ig.in_order (e % stride g - g.loops) (omega arith)

    module _ (p : ℕ → Bool) (v : ℕ) where
      no_pair : e % stride g < g.loops → times e (pairs_at g p v) ≡ 0
      no_pair h = map_miss (λ k. pair_edge g k v) e (passing p 0 (length g.reads))
          (λ k some is. dite (dec_le (length g.reads) k)
          (λ l. let z = times_above p 0 (length g.reads) k (omega arith) in omega arith)
          (λ l. let u = edge_parts v (g.loops + k) (omega arith) is in omega arith))

      other_vector : e / stride g ≢ v → times e (pairs_at g p v) ≡ 0
      other_vector ne = map_miss (λ k. pair_edge g k v) e (passing p 0 (length g.reads))
          (λ k some is. dite (dec_le (length g.reads) k)
          (λ l. let z = times_above p 0 (length g.reads) k (omega arith) in omega arith)
          (λ l. let u = edge_parts v (g.loops + k) (omega arith) is in ne (sym u.0)))

      one_pair : e / stride g ≡ v → g.loops ≤ e % stride g → times e (pairs_at g p v) ≡ bit (p (e % stride g - g.loops))
      one_pair same h =
          let k = e % stride g - g.loops in
          let q : v * stride g ≡ e / stride g * stride g = ap (λ n. n * stride g) (sym same) in
          let s = at_e in let l = low in
          map_hit (λ j. pair_edge g j v) k e (omega arith) (λ j is. omega arith) (passing p 0 (length g.reads))
          ∙ times_passing p 0 (length g.reads) k (omega arith) (omega arith)

    module _ (t : ℕ) (there : t < task_count g) where
      at_t : t / g.loops * g.loops + t % g.loops ≡ t
      at_t = div-add-mod' t g.loops

      slow : t % g.loops < g.loops
      slow = mod-lt t ig.some_loop

      -- its vector and its loop are those of its number
      task_parts : (v j : ℕ) → j < g.loops → v * g.loops + j ≡ t → (v ≡ t / g.loops) × (j ≡ t % g.loops)
      task_parts v j l is = unique v j (t / g.loops) (t % g.loops) g.loops l slow (is ∙ sym at_t)

      -- the pair edges of a task among which e is, where the task is at e's vector and its loop is the pair's
      pairs_once : (end : ℕ → ℕ) → ((k : ℕ) → k < length g.reads → end k < g.loops) → (loop : ℕ) → g.loops ≤ e % stride g
          → loop ≡ e / stride g * g.loops + end (e % stride g - g.loops)
          → times e (pairs_at g (λ k. end k == loop_of g t) (vector_of g t)) ≡ bit (loop == t)
      pairs_once end small loop h is =
          let k = e % stride g - g.loops in let pt = at_t in
          let s = small k (let l = low in omega arith) in
          dite (ℕ_discrete (e / stride g) (t / g.loops))
          (λ v. let q : e / stride g * g.loops ≡ t / g.loops * g.loops = ap (λ n. n * g.loops) v in
          one_pair (λ k. end k == loop_of g t) (vector_of g t) v h
          ∙ bits_agree (end k == t % g.loops) (loop == t) (λ a. let b = eq_of (end k) (t % g.loops) a in eq-eqb loop t (omega arith))
          (λ a. let b = eq_of loop t a in eq-eqb (end k) (t % g.loops) (omega arith)))
          (λ ne. other_vector (λ k. end k == loop_of g t) (vector_of g t) ne
          ∙ sym (bit_apart loop t (λ a. let u = task_parts (e / stride g) (end k) s (sym is ∙ a) in ne u.0)))

      pub inward_all : times e (inward g t) ≡ bit (reader_of g e == t)
      inward_all = let pt = at_t in let pe = at_e in dite (dec_le g.loops (e % stride g))
          (λ l. let c = bit_apart (chain_edge g (loop_of g t) (vector_of g t)) e
          (λ s. let k = slow in let u = edge_parts (t / g.loops) (t % g.loops) (omega arith) s in omega arith) in
          let p = pairs_once (λ k. (pair_at g k).reader) (λ k h. (ig.in_order k h).1) (reader_of g e) l (reader_pair l) in omega arith)
          (λ l. let r = reader_chain (omega arith) in let n = no_pair (λ k. (pair_at g k).reader == loop_of g t) (vector_of g t) (omega arith) in
          let c = bits_agree (chain_edge g (loop_of g t) (vector_of g t) == e) (reader_of g e == t)
          (λ a. let u = edge_parts (t / g.loops) (t % g.loops) (let k = slow in omega arith) (eq_of (chain_edge g (loop_of g t) (vector_of g t)) e a) in
          let q : e / stride g * g.loops ≡ t / g.loops * g.loops = ap (λ n. n * g.loops) (sym u.0) in eq-eqb (reader_of g e) t (r ∙ omega arith))
          (λ a. let u = task_parts (e / stride g) (e % stride g) (omega arith) (sym r ∙ eq_of (reader_of g e) t a) in
          let q : t / g.loops * stride g ≡ e / stride g * stride g = ap (λ n. n * stride g) (sym u.0) in
          eq-eqb (chain_edge g (loop_of g t) (vector_of g t)) e (omega arith)) in omega arith)

      pub outward_all : times e (outward g t) ≡ bit (not (is_entry g e) && (source_of g e == t))
      outward_all = let pt = at_t in let pe = at_e in dite (dec_le g.loops (e % stride g))
          (λ l. let c = bit_apart (chain_edge g (loop_of g t) (vector_of g t + 1)) e
          (λ s. let k = slow in let u = edge_parts (t / g.loops + 1) (t % g.loops) (omega arith) s in omega arith) in
          let p = pairs_once (λ k. (pair_at g k).source) (λ k h. let o = ig.in_order k h in let a = o.0 in let b = o.1 in omega arith)
          (source_of g e) l (source_pair l) in
          let z = bit_left (not (is_entry g e)) (source_of g e == t) (ap not (not_ltb e g.loops (omega arith))) in omega arith)
          (λ l. let n = no_pair (λ k. (pair_at g k).source == loop_of g t) (vector_of g t) (omega arith) in
          let c = bits_agree (chain_edge g (loop_of g t) (vector_of g t + 1) == e) (not (is_entry g e) && (source_of g e == t))
          (λ a. let u = edge_parts (t / g.loops + 1) (t % g.loops) (let k = slow in omega arith) (eq_of (chain_edge g (loop_of g t) (vector_of g t + 1)) e a) in
          let q : (e / stride g - 1) * g.loops ≡ t / g.loops * g.loops = ap (λ n. n * g.loops) (omega arith) in
          let f = further 0 (e / stride g) (stride g) (omega arith) in
          both_of (not (is_entry g e)) (source_of g e == t) (ap not (not_ltb e g.loops (omega arith)))
          (eq-eqb (source_of g e) t (source_chain (omega arith) ∙ omega arith)))
          (λ a. let b = both_true (not (is_entry g e)) (source_of g e == t) a in
          let u = task_parts (e / stride g - 1) (e % stride g) (omega arith) (sym (source_chain (omega arith)) ∙ eq_of (source_of g e) t b.1) in
          let some : 0 < e / stride g = dite (ℕ_discrete (e / stride g) 0)
          (λ z. let m : e / stride g * stride g ≡ 0 * stride g = ap (λ n. n * stride g) z in
          absurd (true≢false (sym b.0 ∙ ap not (lt-ltb e g.loops (omega arith))))) (λ ne. omega arith) in
          let q : (t / g.loops + 1) * stride g ≡ e / stride g * stride g = ap (λ n. n * stride g) (omega arith) in
          eq-eqb (chain_edge g (loop_of g t) (vector_of g t + 1)) e (omega arith)) in omega arith)

  -- a task's edges lie in its vector
  reader_vector : (e t : ℕ) → t < task_count g → reader_of g e ≡ t → e / stride g ≡ t / g.loops
  reader_vector e t there is = dite (dec_le g.loops (e % stride g))
      (λ l. (task_parts e t there (e / stride g) (pair_at g (e % stride g - g.loops)).reader (pair_fits e l).1 (sym (reader_pair e l) ∙ is)).0)
      (λ l. (task_parts e t there (e / stride g) (e % stride g) (omega arith) (sym (reader_chain e (omega arith)) ∙ is)).0)

  -- an edge into a task is no exit edge
  read_below : (e t : ℕ) → t < task_count g → reader_of g e ≡ t → e < g.vectors * stride g
  read_below e t there is = let v = reader_vector e t there is in let l = low e in let p = at_e e in
      let q : e / stride g * stride g ≡ t / g.loops * stride g = ap (λ n. n * stride g) v in
      let f = further (t / g.loops) g.vectors (stride g) (low_quotient t g.vectors g.loops there) in omega arith

  -- there is a vector
  room : stride g ≤ g.vectors * stride g
  room = let f = further 0 g.vectors (stride g) ig.some_vector in omega arith

  -- the tasks of the first vector are read through their own numbers
  entry_reader : (e : ℕ) → e < g.loops → reader_of g e ≡ e
  entry_reader e h = let p = at_e e in let l = low e in
      let z : e / stride g ≡ 0 = (unique (e / stride g) (e % stride g) 0 e (stride g) l (omega arith) (omega arith)).0 in
      let q : e / stride g * stride g ≡ 0 * stride g = ap (λ n. n * stride g) z in
      let q' : e / stride g * g.loops ≡ 0 * g.loops = ap (λ n. n * g.loops) z in
      reader_chain e (omega arith) ∙ omega arith

  inner_is : (e : ℕ) → g.loops ≤ e → e < g.vectors * stride g → (net_of g).is_inner e ≡ true
  inner_is e a b = both_of (not (is_entry g e)) (ltb e (g.vectors * stride g)) (ap not (not_ltb e g.loops a)) (lt-ltb e (g.vectors * stride g) b)

  inner_low : (e : ℕ) → (net_of g).is_inner e ≡ true → g.loops ≤ e
  inner_low e i = dite (dec_le g.loops e) (λ l. l)
      (λ n. absurd (true≢false (sym (both_true (not (is_entry g e)) (ltb e (g.vectors * stride g)) i).0 ∙ ap not (lt-ltb e g.loops (omega arith)))))

  inner_high : (e : ℕ) → (net_of g).is_inner e ≡ true → e < g.vectors * stride g
  inner_high e i = ltb-true e (g.vectors * stride g) (both_true (not (is_entry g e)) (ltb e (g.vectors * stride g)) i).1

  exit_is : (e : ℕ) → g.vectors * stride g ≤ e → e < edges_of g → is_exit g e ≡ true
  exit_is e a b = both_of (leb (g.vectors * stride g) e) (ltb e (edges_of g)) (leb_of (g.vectors * stride g) e a) (lt-ltb e (edges_of g) b)

  exit_low : (e : ℕ) → is_exit g e ≡ true → g.vectors * stride g ≤ e
  exit_low e i = of_leb (g.vectors * stride g) e (both_true (leb (g.vectors * stride g) e) (ltb e (edges_of g)) i).0

  exit_high : (e : ℕ) → is_exit g e ≡ true → e < edges_of g
  exit_high e i = ltb-true e (edges_of g) (both_true (leb (g.vectors * stride g) e) (ltb e (edges_of g)) i).1

  inward_once : (t e : ℕ) → t < task_count g → times e (inward g t) ≡ bit (((net_of g).is_inner e || is_entry g e) && (reader_of g e == t))
  inward_once t e there = inward_all e t there ∙ bits_agree (reader_of g e == t) (((net_of g).is_inner e || is_entry g e) && (reader_of g e == t))
      (λ a. both_of ((net_of g).is_inner e || is_entry g e) (reader_of g e == t)
      (dite (dec_le g.loops e)
      (λ l. either_left ((net_of g).is_inner e) (is_entry g e) (inner_is e l (read_below e t there (eq_of (reader_of g e) t a))))
      (λ l. either_right ((net_of g).is_inner e) (is_entry g e) (lt-ltb e g.loops (omega arith)))) a)
      (λ a. (both_true ((net_of g).is_inner e || is_entry g e) (reader_of g e == t) a).1)

  pub needs_once : (t e : ℕ) → t < task_count g → times e (needs_of g t) ≡ bit ((net_of g).is_inner e && (reader_of g e == t))
  needs_once t e there = dite (dec_le g.loops t)
      (λ l. ap (λ b. times e (cond b (pair_edges_into g t) (inward g t))) (not_ltb t g.loops l) ∙ inward_all e t there
      ∙ bits_agree (reader_of g e == t) ((net_of g).is_inner e && (reader_of g e == t))
      (λ a. let r = eq_of (reader_of g e) t a in
      both_of ((net_of g).is_inner e) (reader_of g e == t)
      (inner_is e (dite (dec_le g.loops e) (λ k. k) (λ k. let s = entry_reader e (omega arith) in omega arith)) (read_below e t there r)) a)
      (λ a. (both_true ((net_of g).is_inner e) (reader_of g e == t) a).1))
      (λ l. let s = lt-ltb t g.loops (omega arith) in
      let c : chain_edge g (loop_of g t) (vector_of g t) ≡ t = first_chain t there (omega arith) in
      let i = inward_all e t there in
      let m : times e (inward g t) ≡ bit (chain_edge g (loop_of g t) (vector_of g t) == e) + times e (pair_edges_into g t) = refl in
      let q : bit (chain_edge g (loop_of g t) (vector_of g t) == e) ≡ bit (t == e) = ap (λ k. bit (k == e)) c in
      ap (λ b. times e (cond b (pair_edges_into g t) (inward g t))) s
      ∙ dite (ℕ_discrete t e)
      (λ same. let o = bit_same t e same in let r = bit_same (reader_of g e) t (entry_reader e (omega arith) ∙ sym same) in
      let z : bit ((net_of g).is_inner e && (reader_of g e == t)) ≡ 0 =
      ap (λ b. bit (not b && ltb e (g.vectors * stride g) && (reader_of g e == t))) (lt-ltb e g.loops (omega arith)) in omega arith)
      (λ ne. let o = bit_apart t e ne in
      let b = bits_agree (reader_of g e == t) ((net_of g).is_inner e && (reader_of g e == t))
      (λ a. let r = eq_of (reader_of g e) t a in
      both_of ((net_of g).is_inner e) (reader_of g e == t)
      (inner_is e (dite (dec_le g.loops e) (λ k. k) (λ k. absurd (ne (sym r ∙ entry_reader e (omega arith))))) (read_below e t there r)) a)
      (λ a. (both_true ((net_of g).is_inner e) (reader_of g e == t) a).1) in omega arith))
    where
      first_chain : (t : ℕ) → t < task_count g → t < g.loops → chain_edge g (loop_of g t) (vector_of g t) ≡ t
      first_chain t there h = let p = at_t 0 t there in
          let u = unique (t / g.loops) (t % g.loops) 0 t g.loops (slow 0 t there) h (omega arith) in
          let q : t / g.loops * stride g ≡ 0 * stride g = ap (λ n. n * stride g) u.0 in omega arith

  -- the vectors of the source and of the reader of an inner edge
  inner_some : (e : ℕ) → g.loops ≤ e → e % stride g < g.loops → 0 < e / stride g
  inner_some e a b = let p = at_e e in dite (ℕ_discrete (e / stride g) 0)
      (λ z. let q : e / stride g * stride g ≡ 0 * stride g = ap (λ n. n * stride g) z in absurd (omega arith)) (λ n. omega arith)

  task_below : (v j : ℕ) → v < g.vectors → j < g.loops → v * g.loops + j < task_count g
  task_below v j h l = let f = further v g.vectors g.loops h in omega arith

  pub rises : (e : ℕ) → (net_of g).is_inner e ≡ true → (source_of g e < reader_of g e) × (reader_of g e < task_count g)
  rises e i =
      let a = inner_low e i in let l = low e in
      let v = low_quotient e g.vectors (stride g) (inner_high e i) in
      dite (dec_le g.loops (e % stride g))
      (λ h. let f = pair_fits e h in let r = reader_pair e h in let s = source_pair e h in
      let t = task_below (e / stride g) (pair_at g (e % stride g - g.loops)).reader v f.1 in let o = f.0 in (omega arith, omega arith))
      (λ h. let some = inner_some e a (omega arith) in let r = reader_chain e (omega arith) in let s = source_chain e (omega arith) in
      let k = further (e / stride g - 1) (e / stride g) g.loops (omega arith) in let one = ig.some_loop in
      let t = task_below (e / stride g) (e % stride g) v (omega arith) in (omega arith, omega arith))

  exit_source : (e : ℕ) → is_exit g e ≡ true → (e % stride g < g.loops) × (e / stride g ≡ g.vectors)
  exit_source e i =
      let a = exit_low e i in let b = exit_high e i in let p = at_e e in let l = low e in
      let u = unique (e / stride g) (e % stride g) g.vectors (e - g.vectors * stride g) (stride g) l (omega arith) (omega arith) in
      let q = u.1 in (omega arith, u.0)

  exits_from : (e : ℕ) → is_exit g e ≡ true → source_of g e < task_count g
  exits_from e i = let x = exit_source e i in let v = x.1 in let o = ig.some_vector in
      let t = task_below (e / stride g - 1) (e % stride g) (omega arith) x.0 in let s = source_chain e x.0 in omega arith

  -- an edge out of a task ends at most after the last vector
  fed_below : (e t : ℕ) → t < task_count g → is_entry g e ≡ false → source_of g e ≡ t → e < edges_of g
  fed_below e t there begins is =
      let pt = at_t e t there in let p = at_e e in let l = low e in let w = low_quotient t g.vectors g.loops there in
      dite (dec_le g.loops (e % stride g))
      (λ h. let f = pair_fits e h in let c = f.0 in let d = f.1 in
      let u = task_parts e t there (e / stride g) (pair_at g (e % stride g - g.loops)).source (omega arith) (sym (source_pair e h) ∙ is) in
      let x = further (e / stride g) g.vectors (stride g) (let q = u.0 in omega arith) in omega arith)
      (λ h. let u = task_parts e t there (e / stride g - 1) (e % stride g) (omega arith) (sym (source_chain e (omega arith)) ∙ is) in
      let le : e / stride g ≤ g.vectors = let q = u.0 in omega arith in
      let m = mul-le-mul_right (stride g) le in omega arith)

  not_entry : (e : ℕ) → not (is_entry g e) ≡ true → g.loops ≤ e
  not_entry e i = dite (dec_le g.loops e) (λ l. l) (λ n. absurd (true≢false (sym i ∙ ap not (lt-ltb e g.loops (omega arith)))))

  outer_is : (e t : ℕ) → t < task_count g → (not (is_entry g e) && (source_of g e == t)) ≡ true → ((net_of g).is_inner e || is_exit g e) ≡ true
  outer_is e t there a =
      let b = both_true (not (is_entry g e)) (source_of g e == t) a in
      dite (dec_le (g.vectors * stride g) e)
      (λ l. either_right ((net_of g).is_inner e) (is_exit g e) (exit_is e l (fed_below e t there (not_true (is_entry g e) b.0) (eq_of (source_of g e) t b.1))))
      (λ l. either_left ((net_of g).is_inner e) (is_exit g e) (inner_is e (not_entry e b.0) (omega arith)))

  outer_not : (e : ℕ) → ((net_of g).is_inner e || is_exit g e) ≡ true → not (is_entry g e) ≡ true
  outer_not e h =
      ap not (not_ltb e g.loops (one_of ((net_of g).is_inner e) (is_exit g e) (g.loops ≤ e) h (inner_low e)
      (λ x. let l = exit_low e x in let r = room in omega arith)))

  outward_once : (t e : ℕ) → t < task_count g → times e (outward g t) ≡ bit (((net_of g).is_inner e || is_exit g e) && (source_of g e == t))
  outward_once t e there = outward_all e t there
      ∙ bits_agree (not (is_entry g e) && (source_of g e == t)) (((net_of g).is_inner e || is_exit g e) && (source_of g e == t))
      (λ a. both_of ((net_of g).is_inner e || is_exit g e) (source_of g e == t) (outer_is e t there a)
      (both_true (not (is_entry g e)) (source_of g e == t) a).1)
      (λ a. let b = both_true ((net_of g).is_inner e || is_exit g e) (source_of g e == t) a in
      both_of (not (is_entry g e)) (source_of g e == t) (outer_not e b.0) b.1)

  -- the chain edge out of a task is inner where the task has a next vector
  last_vector : (t : ℕ) → t < task_count g → task_count g ≤ t + g.loops → t / g.loops + 1 ≡ g.vectors
  last_vector t there h = let pt = at_t 0 t there in let w = low_quotient t g.vectors g.loops there in let s = slow 0 t there in
      dite (dec_le g.vectors (t / g.loops + 1)) (λ l. omega arith)
      (λ l. let f = further (t / g.loops + 1) g.vectors g.loops (omega arith) in let m = suc-mul (t / g.loops) g.loops in
      let q : (t / g.loops + 1) * g.loops ≡ suc (t / g.loops) * g.loops = ap (λ n. n * g.loops) (omega arith) in absurd (omega arith))

  early_vector : (t : ℕ) → t < task_count g → t + g.loops < task_count g → t / g.loops + 1 < g.vectors
  early_vector t there h = let pt = at_t 0 t there in
      let q : (t / g.loops + 1) * g.loops ≡ suc (t / g.loops) * g.loops = ap (λ n. n * g.loops) (omega arith) in
      dite (dec_le g.vectors (t / g.loops + 1)) (λ l. let m = mul-le-mul_right g.loops l in let k = suc-mul (t / g.loops) g.loops in let s = slow 0 t there in
      absurd (omega arith)) (λ l. omega arith)

  fed_vector : (e t : ℕ) → t < task_count g → source_of g e ≡ t → e / stride g ≤ t / g.loops + 1
  fed_vector e t there is =
      dite (dec_le g.loops (e % stride g))
      (λ h. let f = pair_fits e h in let c = f.0 in let d = f.1 in
      let u = task_parts e t there (e / stride g) (pair_at g (e % stride g - g.loops)).source (omega arith) (sym (source_pair e h) ∙ is) in
      let q = u.0 in omega arith)
      (λ h. let u = task_parts e t there (e / stride g - 1) (e % stride g) (omega arith) (sym (source_chain e (omega arith)) ∙ is) in
      let q = u.0 in omega arith)

  -- of a task of the last vector, the chain edge is an exit edge
  late : (t e : ℕ) → t < task_count g → task_count g ≤ t + g.loops → times e (pair_edges_out g t) ≡ bit ((net_of g).is_inner e && (source_of g e == t))
  late t e there h =
      let v = last_vector t there h in let s = slow e t there in let pt = at_t e t there in
      let chain = chain_edge g (loop_of g t) (vector_of g t + 1) in
      let q : chain ≡ g.vectors * stride g + t % g.loops = ap (λ n. n * stride g + t % g.loops) v in
      let a = outward_all e t there in
      let m : times e (outward g t) ≡ bit (chain == e) + times e (pair_edges_out g t) = refl in
      dite (ℕ_discrete chain e)
      (λ is. let o = bit_same chain e is in let k = bit_most (not (is_entry g e) && (source_of g e == t)) in
      let z : bit ((net_of g).is_inner e && (source_of g e == t)) ≡ 0 = bits_agree ((net_of g).is_inner e && (source_of g e == t)) false
      (λ b. let i = inner_high e (both_true ((net_of g).is_inner e) (source_of g e == t) b).0 in absurd (omega arith))
      (λ b. absurd (true≢false (sym b))) in omega arith)
      (λ ne. let o = bit_apart chain e ne in
      let b = bits_agree (not (is_entry g e) && (source_of g e == t)) ((net_of g).is_inner e && (source_of g e == t))
      (λ b. let c = both_true (not (is_entry g e)) (source_of g e == t) b in let is = eq_of (source_of g e) t c.1 in
      both_of ((net_of g).is_inner e) (source_of g e == t) (inner_is e (not_entry e c.0) (dite (dec_le (g.vectors * stride g) e)
      (λ l. let x = exit_source e (exit_is e l (fed_below e t there (not_true (is_entry g e) c.0) is)) in let w = x.1 in
      let u = task_parts e t there (e / stride g - 1) (e % stride g) x.0 (sym (source_chain e x.0) ∙ is) in
      let r : e / stride g * stride g ≡ g.vectors * stride g = ap (λ n. n * stride g) w in let p = at_e e in let y = u.1 in absurd (ne (omega arith)))
      (λ l. omega arith))) c.1)
      (λ b. let c = both_true ((net_of g).is_inner e) (source_of g e == t) b in
      both_of (not (is_entry g e)) (source_of g e == t) (both_true (not (is_entry g e)) (ltb e (g.vectors * stride g)) c.0).0 c.1) in omega arith)

  pub feeds_once : (t e : ℕ) → t < task_count g → times e (feeds_of g t) ≡ bit ((net_of g).is_inner e && (source_of g e == t))
  feeds_once t e there = dite (dec_le (task_count g) (t + g.loops))
      (λ l. ap (λ b. times e (cond b (outward g t) (pair_edges_out g t))) (not_ltb (t + g.loops) (task_count g) l) ∙ late t e there l)
      (λ l. ap (λ b. times e (cond b (outward g t) (pair_edges_out g t))) (lt-ltb (t + g.loops) (task_count g) (omega arith)) ∙ outward_all e t there
      ∙ bits_agree (not (is_entry g e) && (source_of g e == t)) ((net_of g).is_inner e && (source_of g e == t))
      (λ a. let b = both_true (not (is_entry g e)) (source_of g e == t) a in
      let v = fed_vector e t there (eq_of (source_of g e) t b.1) in let w = early_vector t there (omega arith) in
      let f = further (e / stride g) g.vectors (stride g) (omega arith) in let p = at_e e in let k = low e in
      both_of ((net_of g).is_inner e) (source_of g e == t) (inner_is e (not_entry e b.0) (omega arith)) b.1)
      (λ a. let b = both_true ((net_of g).is_inner e) (source_of g e == t) a in
      both_of (not (is_entry g e)) (source_of g e == t) (both_true (not (is_entry g e)) (ltb e (g.vectors * stride g)) b.0).0 b.1))

  pub is_net : IsNet (net_of g)
  is_net = record { needs_once = needs_once; feeds_once = feeds_once; rises = rises }

  pub is_wires : IsWires (wires_of g)
  is_wires = record {
    is_net = is_net;
    inward_once = inward_once;
    outward_once = outward_once;
    in_range = λ e h. one_of ((net_of g).is_inner e || is_entry g e) (is_exit g e) (e < edges_of g) h
        (λ a. one_of ((net_of g).is_inner e) (is_entry g e) (e < edges_of g) a (λ i. let l = inner_high e i in omega arith)
        (λ n. let l = ltb-true e g.loops n in omega arith))
        (λ x. exit_high e x);
    exits_from = exits_from;
    apart = λ e. let r = room in dite (dec_le g.loops e)
        (λ l. let n : bit (is_entry g e) ≡ 0 = ap bit (not_ltb e g.loops l) in
        dite (dec_le (g.vectors * stride g) e)
        (λ h. let z : bit ((net_of g).is_inner e) ≡ 0 = ap (λ b. bit (not (is_entry g e) && b)) (not_ltb e (g.vectors * stride g) h)
        ∙ bit_right (not (is_entry g e)) false refl in let b = bit_most (is_exit g e) in omega arith)
        (λ h. let z : bit (is_exit g e) ≡ 0 = bits_agree (is_exit g e) false (λ x. let k = exit_low e x in
        absurd (omega arith)) (λ x. absurd (true≢false (sym x))) in let b = bit_most ((net_of g).is_inner e) in omega arith))
        (λ l. let z : bit (is_exit g e) ≡ 0 = bits_agree (is_exit g e) false (λ x. let k = exit_low e x in absurd (omega arith))
        (λ x. absurd (true≢false (sym x))) in
        let i : bit ((net_of g).is_inner e) ≡ 0 = bits_agree ((net_of g).is_inner e) false (λ x. let k = inner_low e x in absurd (omega arith))
        (λ x. absurd (true≢false (sym x))) in
        let b = bit_most (is_entry g e) in omega arith);
  }
