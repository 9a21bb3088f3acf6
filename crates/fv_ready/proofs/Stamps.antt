-- A stamp, which moves no slot, keeps the whole rule but for what is shown.
use Rattle.std.proofs.Common.{◌≡◌, ◌≢◌, ℕ, suc, ◌+◌, ◌<◌, ◌≤◌, Bool, true, false, not, ◌&&◌, ◌⊎◌, inl, inr, ⊎_elim, List, [], ◌∷◌}
use Rattle.std.proofs.Common.{length, set, slice_index, refl, sym, ap, ◌∙◌, subst, arith, ◌==◌}
use Rattle.std.proofs.Common.{Option, Some, length-set, ltb, lt-ltb, ltb-true, true≢false, get_or-set_same}
use Rattle.std.proofs.Math.Dec.{leb}
use Rattle.std.specs.List.Sorted.{IsStrictlyIncreasing}
use mathlib.Core.Option.{some}
use mathlib.Core.Logic.{dite}
use native.Mathlib.Decide.{ℕ_discrete, dec_le}
use lib.ListN.{get_elem?}
use Rattle.atomic_table.specs.Table.{State}
use Rattle.atomic_table.proofs.Lists.{at_set}
use Rattle.fv_graph.specs.Tasks.{bit, total}
use Rattle.fv_graph.specs.TasksBeside.{times}
use Rattle.fv_graph.specs.Net.{Net}
use Rattle.fv_graph.specs.Graph.{Graph}
use Rattle.fv_graph.specs.Core.{numbers}
use Rattle.fv_graph.proofs.lemmas.Counts.{bit_same, bit_apart, bit_one, bit_true, total_append, total_add, get_set, full}
use Rattle.fv_graph.proofs.lemmas.Counts.{times_passing}
use Rattle.fv_graph.proofs.lemmas.Counts.{bit_right}
use Rattle.fv_graph.specs.Wires.{Wires, IsWires}
use Rattle.fv_ready.specs.declared.view.Deed.{Deed}
use Rattle.fv_ready.specs.declared.view.Deed.TheVariants.{Stamped, Arrived, Saw, Claimed}
use Rattle.fv_ready.specs.declared.view.About.{About}
use Rattle.fv_ready.specs.declared.view.View.{View}
use Rattle.fv_ready.specs.Rule.{count_word, claim_word, wins, loses, sees, arrives, stamps, starts, finishes, done_by, all, noted, IsSpent, IsOwn, Fits}
use Rattle.fv_ready.specs.Rule.{IsKept, saw, arrives_with}
use Rattle.fv_ready.specs.Shown.{Reached}
use Rattle.fv_ready.specs.Whole.{starts_at, finishes_at, IsWhole}
use Rattle.fv_ready.proofs.Noted.{known_before}
use Rattle.fv_ready.proofs.lemmas.Claim.{all_noted, all_at, total_ext}
use Rattle.fv_ready.proofs.Back.{all_gap}
use Rattle.fv_ready.proofs.lemmas.Begins.{not_below}

-- numbers below the next number
below_next : (j k : ℕ) → bit (ltb j (k + 1)) ≡ bit (ltb j k) + bit (k == j)
below_next j k = dite (ℕ_discrete k j)
    (λ e. let a = bit_same k j e in let b = ap bit (lt-ltb j (k + 1) (omega arith)) in let c = ap bit (not_below j k (omega arith)) in omega arith)
    (λ n. let a = bit_apart k j n in dite (dec_le k j)
    (λ l. let b = ap bit (not_below j (k + 1) (omega arith)) in let c = ap bit (not_below j k l) in omega arith)
    (λ l. let b = ap bit (lt-ltb j (k + 1) (omega arith)) in let c = ap bit (lt-ltb j k (omega arith)) in omega arith))

-- where each deed that counts has a stamp, so has a list in which one counts
stamped_in : (f : Deed → ℕ) (g : ℕ → Deed → ℕ) → ((d : Deed) → 0 < f d → (m : ℕ) × (0 < g m d) × (0 < stamps m d)) → (ds : List Deed) →
    0 < total f ds → (m : ℕ) × (0 < total (g m) ds) × (0 < total (stamps m) ds)
stamped_in f g each [] pos = absurd (omega arith)
stamped_in f g each (d ∷ ds) pos = dite (ℕ_discrete (f d) 0)
    (λ z. let r = stamped_in f g each ds (omega arith) in (r.0, (let x = r.1 in omega arith), (let x = r.2 in omega arith)))
    (λ n. let k = each d (omega arith) in (k.0, (let x = k.1 in omega arith), (let x = k.2 in omega arith)))

all_three : (x y z : Bool) → 0 < bit (x && y) → bit z ≡ 1 → 0 < bit (x && y && z)
all_three true true z e g = omega arith
all_three false y z e g = absurd (omega arith)
all_three true false z e g = absurd (omega arith)

-- of each start there is a number
start_number : (t : ℕ) (ds : List Deed) → 0 < total (starts t) ds → (m : ℕ) × (0 < total (starts_at m t) ds) × (0 < total (stamps m) ds)
start_number t ds pos = stamped_in (starts t) (λ m. starts_at m t) start_of ds pos
  where
    start_of : (d : Deed) → 0 < starts t d → (m : ℕ) × (0 < starts_at m t d) × (0 < stamps m d)
    start_of (Stamped k u b) pos = let o = bit_same k k refl in (k, all_three b (u == t) (k == k) pos o, omega arith)
    start_of (Arrived e c) pos = absurd (omega arith)
    start_of (Saw u c) pos = absurd (omega arith)
    start_of (Claimed u b) pos = absurd (omega arith)

-- and of each finish
finish_number : (t : ℕ) (ds : List Deed) → 0 < total (finishes t) ds → (m : ℕ) × (0 < total (finishes_at m t) ds) × (0 < total (stamps m) ds)
finish_number t ds pos = stamped_in (finishes t) (λ m. finishes_at m t) finish_of ds pos
  where
    finish_of : (d : Deed) → 0 < finishes t d → (m : ℕ) × (0 < finishes_at m t d) × (0 < stamps m d)
    finish_of (Stamped k u b) pos = let o = bit_same k k refl in (k, all_three (not b) (u == t) (k == k) pos o, omega arith)
    finish_of (Arrived e c) pos = absurd (omega arith)
    finish_of (Saw u c) pos = absurd (omega arith)
    finish_of (Claimed u b) pos = absurd (omega arith)

-- in some list
some_list : {C : Type 0} (f : Deed → ℕ) (views : List (View C)) → 0 < all f views → (id : ℕ) ×
    ((v : View C) × (get_elem? views id ≡ some v) × (0 < done_by f v))
some_list f [] pos = absurd (omega arith)
some_list f (x ∷ xs) pos = dite (ℕ_discrete (done_by f x) 0)
    (λ z. let r = some_list f xs (omega arith) in (suc r.0, (r.1.0, r.1.1, r.1.2)))
    (λ n. (0, (x, refl, omega arith)))

module _ {C Key : Type 0} (wires : Graph → Wires) (edge_of : C → ℕ) (key_of : C → Key) (a : About C) (ws : IsWires (wires a.tasks.value))
    (s : State (Option C) (View C)) (h : IsWhole wires edge_of key_of a s)
    (id : ℕ) (v : View C) (at : get_elem? s.views id ≡ some v) (ab : v.board ≡ Some a)
    (t : ℕ) (there : t < (wires a.tasks.value).net.tasks) (won : 0 < done_by (wins t) v) (b : Bool)
    (start : b ≡ true → done_by (starts t) v ≡ 0) (finish : b ≡ false → (0 < done_by (starts t) v) × (done_by (finishes t) v ≡ 0))
    (exit_home : b ≡ false → (e : ℕ) → (wires a.tasks.value).is_exit e ≡ true → (wires a.tasks.value).net.source e ≡ t → (x : Option C) ×
    (get_elem? s.homes e ≡ some (some x)) × Fits wires edge_of key_of a e x) where
  abbrev n : Net
  n = (wires a.tasks.value).net

  abbrev k : ℕ
  k = slice_index s.words 0

  abbrev d : Deed
  d = Stamped (slice_index s.words 0) t b

  abbrev views' : List (View C)
  views' = set s.views id (noted v d)

  abbrev s' : State (Option C) (View C)
  s' = record { words = set s.words 0 (slice_index s.words 0 + 1); homes = s.homes; views = set s.views id (noted v d) }

  A : (f : Deed → ℕ) → all f views' ≡ all f s.views + f d
  A f = all_noted f s.views id v d at

  in_words : 0 < length s.words
  in_words = let l = h.kept.words_long in omega arith

  word_here : slice_index (set s.words 0 (k + 1)) 0 ≡ k + 1
  word_here = get_or-set_same s.words 0 (k + 1) 0 in_words

  word_else : (j : ℕ) → j ≢ 0 → slice_index (set s.words 0 (k + 1)) j ≡ slice_index s.words j
  word_else j ne = get_set (λ i. i ≡ slice_index s.words j) s.words 0 j (k + 1) 0 in_words (λ e. absurd (ne e)) (λ _. refl)

  -- what the stamp adds, of a task
  data Adds (x : ℕ) : Type 0 where
    other : x ≢ t → bit (b && (t == x)) ≡ 0 → bit (not b && (t == x)) ≡ 0 → Adds x
    starts_it : x ≡ t → b ≡ true → bit (b && (t == x)) ≡ 1 → bit (not b && (t == x)) ≡ 0 → Adds x
    finishes_it : x ≡ t → b ≡ false → bit (b && (t == x)) ≡ 0 → bit (not b && (t == x)) ≡ 1 → Adds x

  adds : (x : ℕ) → Adds x
  adds x = dite (ℕ_discrete x t)
      (λ e. let o = bit_same t x (sym e) in elim b as (λ c. (b ≡ c) → Adds x) [
        | true ↦ (λ is. starts_it e is (ap (λ c. bit (c && (t == x))) is ∙ o) (ap (λ c. bit (not c && (t == x))) is))
        | false ↦ (λ is. finishes_it e is (ap (λ c. bit (c && (t == x))) is) (ap (λ c. bit (not c && (t == x))) is ∙ o))
      ] refl)
      (λ ne. let o = bit_apart t x (λ q. ne (sym q)) in other ne (bit_right b (t == x) o) (bit_right (not b) (t == x) o))

  own_after : IsOwn n (noted v d)
  own_after = let o = h.kept.own id v at in record {
    won_seen = λ x pos. let p = total_append (wins x) v.deeds (d ∷ []) in let q = total_append (sees x) v.deeds (d ∷ []) in
        let r = o.won_seen x (omega arith) in omega arith;
    arrived_won = λ e. let p = total_append (wins (n.source e)) v.deeds (d ∷ []) in let q = total_append (arrives e) v.deeds (d ∷ []) in
        let r = o.arrived_won e in omega arith;
    started_won = λ x. let p = total_append (wins x) v.deeds (d ∷ []) in let q = total_append (starts x) v.deeds (d ∷ []) in let r = o.started_won x in
        elim (adds x) [
          | other ne z y ↦ omega arith
          | starts_it e is z y ↦ (let u = start is in
              let m : done_by (starts x) v ≡ done_by (starts t) v = ap (λ i. done_by (starts i) v) e in
              let w : done_by (wins x) v ≡ done_by (wins t) v = ap (λ i. done_by (wins i) v) e in omega arith)
          | finishes_it e is z y ↦ omega arith
        ];
    finished_started = λ x. let p = total_append (finishes x) v.deeds (d ∷ []) in let q = total_append (starts x) v.deeds (d ∷ []) in
        let r = o.finished_started x in
        elim (adds x) [
          | other ne z y ↦ omega arith
          | starts_it e is z y ↦ omega arith
          | finishes_it e is z y ↦ (let u = finish is in let u0 = u.0 in let u1 = u.1 in
              let m : done_by (starts x) v ≡ done_by (starts t) v = ap (λ i. done_by (starts i) v) e in
              let w : done_by (finishes x) v ≡ done_by (finishes t) v = ap (λ i. done_by (finishes i) v) e in omega arith)
        ];
  }

  each : (P : View C → Type 0) → P (noted v d) → ((j : ℕ) (y : View C) → get_elem? s.views j ≡ some y → P y) → (j : ℕ) (y : View C) →
      get_elem? views' j ≡ some y → P y
  each P here others j y e = ⊎_elim (λ (z : (j ≡ id) × (noted v d ≡ y)). subst P z.1 here) (λ z. others j y z.1) (at_set s.views id j (noted v d) y e)

  kept_after : IsKept wires edge_of key_of a s'
  kept_after = let g = h.kept in record {
    words_long = length-set s.words 0 (k + 1) ∙ g.words_long;
    homes_long = g.homes_long;
    same = each (λ y. (y.board ≡ Some a) ⊎ IsSpent y) (inl ab) g.same;
    own = each (λ y. IsOwn n y) own_after g.own;
    stamped = λ j. let r = A (stamps j) in let p = g.stamped j in let z = ap (λ i. bit (ltb j i)) word_here in let q = below_next j k in omega arith;
    won_once = λ x. let r = A (wins x) in let p = g.won_once x in omega arith;
    claimed = λ x hx. let r = A (wins x) in word_else (claim_word n.tasks x) (λ e. omega arith) ∙ g.claimed x hx ∙ omega arith;
    lost = λ x hx pos. word_else (claim_word n.tasks x) (λ e. omega arith) ∙ g.lost x hx (let r = A (loses x) in omega arith);
    counted = λ x hx. let z = word_else (count_word x) (λ e. omega arith) in let p = g.counted x hx in
        let r = total_ext (λ e. all (arrives e) views') (λ e. all (arrives e) s.views) (λ e. let q = A (arrives e) in omega arith) (n.needs x) in omega arith;
    arrived_once = λ e. let r = A (arrives e) in let p = g.arrived_once e in omega arith;
    seen = λ x hx pos. word_else (count_word x) (λ e. omega arith) ∙ g.seen x hx (let r = A (sees x) in omega arith);
    empty_slots = λ e he no none. g.empty_slots e he no (let r = A (wins (n.source e)) in omega arith);
    full_slots = λ e come none. g.full_slots e (⊎_elim (λ i. inl i) (λ i. inr (let r = A (arrives e) in omega arith)) come)
        (let r = A (wins (n.reader e)) in omega arith);
    exit_slots = λ e is fin. let r = A (finishes (n.source e)) in elim (adds (n.source e)) [
      | other ne z y ↦ g.exit_slots e is (omega arith)
      | starts_it q i z y ↦ g.exit_slots e is (omega arith)
      | finishes_it q i z y ↦ exit_home i e is q
    ];
    keyed = g.keyed;
  }

  -- a stamp in a list is below the word
  drawn_below : (j : ℕ) (u : View C) (m : ℕ) → get_elem? s.views j ≡ some u → 0 < done_by (stamps m) u → m < k
  drawn_below j u m e pos = let p = all_at (stamps m) s.views j u e in let q = h.kept.stamped m in ltb-true m k (bit_true (ltb m k) (omega arith))

  -- of the task nothing was stamped by others
  starts_all : all (starts t) s.views + done_by (wins t) v ≤ all (wins t) s.views + done_by (starts t) v
  starts_all = all_gap (starts t) (wins t) s.views id v at (λ j u e. (h.kept.own j u e).started_won t)

  finishes_all : all (finishes t) s.views + done_by (wins t) v ≤ all (wins t) s.views + done_by (finishes t) v
  finishes_all = all_gap (finishes t) (wins t) s.views id v at (λ j u e. let o = h.kept.own j u e in let x = o.started_won t in
      let y = o.finished_started t in omega arith)

  -- the inner edges into t have arrived, so their sources are finished
  finished_source : (e : ℕ) → 0 < times e (n.needs t) → (m : ℕ) × (m < k) × (0 < all (finishes_at m (n.source e)) s.views)
  finished_source e needs =
      let saw = (h.kept.own id v at).won_seen t won in
      let z = h.kept.seen t there (let p = all_at (sees t) s.views id v at in omega arith) in
      let c = h.kept.counted t there in
      let one : all (arrives e) s.views ≡ 1 = full (λ x. all (arrives x) s.views) (λ x. let o = h.kept.arrived_once x in
      omega arith) (n.needs t) (omega arith) e needs in
      let f = h.arrived_done e in
      let l = some_list (finishes (n.source e)) s.views (omega arith) in
      let m = finish_number (n.source e) l.1.0.deeds l.1.2 in
      (m.0, drawn_below l.0 l.1.0 m.0 l.1.1 m.2, (let p = all_at (finishes_at m.0 (n.source e)) s.views l.0 l.1.0 l.1.1 in let q = m.1 in omega arith))

  pub whole_stamped : (((j : ℕ) (u : View C) → get_elem? views' j ≡ some u → u.board ≡ Some a) → Reached {C = C} {S = Option C} n a.workers
      s') → IsWhole wires edge_of key_of a s'
  whole_stamped reached = record {
    kept = kept_after;
    numbered = λ j. (let r = Rattle.fv_ready.proofs.lemmas.Splits.sum_set (λ (y : View C). times j y.numbers) s.views id v (noted v d) at in
        let z : total (λ (y : View C). times j y.numbers) views' ≡ total (λ (y : View C). times j y.numbers) s.views = omega arith in z) ∙ h.numbered j;
    has_one = each (λ y. y.board ≡ Some a → 0 < length y.numbers) (h.has_one id v at) h.has_one;
    in_order = λ boards. let o = h.in_order (known_before a s.views id v d at ab boards) in each (λ y. IsStrictlyIncreasing y.numbers) (o id v at) o;
    drawn = let e = h.drawn in let one = times_passing (λ _. true) 0 n.tasks t (omega arith) (omega arith) in
        let r = total_ext (λ x. all (starts x) views' + all (finishes x) views')
        (λ x. (all (starts x) s.views + all (finishes x) s.views) + bit (x == t)) (λ x. let p = A (starts x) in let q = A (finishes x) in elim (adds x) [
          | other ne z y ↦ (let o = bit_apart x t ne in omega arith)
          | starts_it i _ z y ↦ (let o = bit_same x t i in omega arith)
          | finishes_it i _ z y ↦ (let o = bit_same x t i in omega arith)
        ]) (numbers n.tasks) in
        let m = total_add (λ x. all (starts x) s.views + all (finishes x) s.views) (λ x. bit (x == t)) (numbers n.tasks) in word_here ∙ omega arith;
    stamped_once = λ x. let p = A (starts x) in let q = A (finishes x) in let o = h.stamped_once x in let o0 = o.0 in let o1 = o.1 in
        let w = h.kept.won_once t in elim (adds x) [
          | other ne z y ↦ (omega arith, omega arith)
          | starts_it e i z y ↦ (let u = start i in let g = starts_all in
              let m : all (starts x) s.views ≡ all (starts t) s.views = ap (λ j. all (starts j) s.views) e in (omega arith, omega arith))
          | finishes_it e i z y ↦ (let u = (finish i).1 in let g = finishes_all in
              let m : all (finishes x) s.views ≡ all (finishes t) s.views = ap (λ j. all (finishes j) s.views) e in (omega arith, omega arith))
        ];
    start_below = λ j x pos. let p = A (finishes_at j x) in dite (ℕ_discrete (all (finishes_at j x) s.views) 0)
        (λ none. let q = stamped_finish j x (omega arith) in
        let r = start_number t v.deeds (finish q.0).0 in (
          r.0,
          subst (λ i. r.0 < i) q.2 (drawn_below id v r.0 at r.2),
          subst (λ i. 0 < all (starts_at r.0 i) views') (sym q.1)
              (let g = A (starts_at r.0 t) in let m = all_at (starts_at r.0 t) s.views id v at in let i = r.1 in omega arith),
        ))
        (λ some'. let r = h.start_below j x (omega arith) in (r.0, r.1, (let g = A (starts_at r.0 x) in let m = r.2 in omega arith)));
    counts_once = λ x c hx. let p = A (arrives_with n x c) in let z = word_else (count_word x) (λ e. omega arith) in
        let q = ap (λ i. bit (leb i c && ltb c (length (n.needs x)))) z in let r = h.counts_once x c hx in omega arith;
    seen_between = λ x c hx pos. let p = A (saw x c) in let z = word_else (count_word x) (λ e. omega arith) in
        let r = h.seen_between x c hx (omega arith) in let r0 = r.0 in (omega arith, r.1);
    arrived_done = λ e. let p = A (arrives e) in let q = A (finishes (n.source e)) in let r = h.arrived_done e in omega arith;
    after_reads = λ j x e hx pos needs. let p = A (starts_at j x) in dite (ℕ_discrete (all (starts_at j x) s.views) 0)
        (λ none. let q = stamped_start j x (omega arith) in let r = finished_source e (subst (λ i. 0 < times e (n.needs i)) q.1 needs) in
        (r.0, subst (λ i. r.0 < i) q.2 r.1, (let g = A (finishes_at r.0 (n.source e)) in let m = r.2 in omega arith)))
        (λ some'. let r = h.after_reads j x e hx (omega arith) needs in (r.0, r.1, (let g = A (finishes_at r.0 (n.source e)) in let m = r.2 in omega arith)));
    reached = reached;
  }
    where
      three : (x y z : Bool) → 0 < bit (x && y && z) → (x ≡ true) × (y ≡ true) × (z ≡ true)
      three true true true pos = (refl, refl, refl)
      three false y z pos = absurd (omega arith)
      three true false z pos = absurd (omega arith)
      three true true false pos = absurd (omega arith)

      not_false : (c : Bool) → not c ≡ true → c ≡ false
      not_false true e = absurd (true≢false (sym e))
      not_false false e = refl

      same_of : (x y : ℕ) → (x == y) ≡ true → x ≡ y
      same_of x y e = bit_one x y (let z = ap bit e in omega arith)

      stamped_finish : (j x : ℕ) → 0 < finishes_at j x d → (b ≡ false) × (x ≡ t) × (k ≡ j)
      stamped_finish j x pos = let p = three (not b) (t == x) (k == j) pos in (not_false b p.0, sym (same_of t x p.1), same_of k j p.2)

      stamped_start : (j x : ℕ) → 0 < starts_at j x d → (b ≡ true) × (x ≡ t) × (k ≡ j)
      stamped_start j x pos = let p = three b (t == x) (k == j) pos in (p.0, sym (same_of t x p.1), same_of k j p.2)
