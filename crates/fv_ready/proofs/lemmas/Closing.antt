-- A seat gives its slots back, seats are joined, and a seat with all numbers knows what all have done.
use Rattle.std.proofs.Common.{◌≡◌, ◌≢◌, ℕ, zero, suc, ◌+◌, ◌-◌, ◌*◌, ◌<◌, ◌≤◌, true, ◌&&◌, ◌⊎◌, ⊎_elim, List, []}
use Rattle.std.proofs.Common.{◌∷◌, ◌++◌, length, get_or, set, slice_index, refl, sym, ap, ◌∙◌}
use Rattle.std.proofs.Common.{subst, arith, ◌==◌, eq-eqb, Option, Some, None, ltb, lt-ltb}
use Rattle.std.proofs.lemmas.List.{set-get_or}
use mathlib.Core.Option.{some, some-injective, some-ne-none}
use mathlib.Core.Logic.{dite}
use native.Mathlib.Decide.{ℕ_discrete, dec_le}
use lib.ListN.{get_elem?}
use Rattle.atomic_table.specs.Table.{State, Me, Allows, Joins, homes_after}
use Rattle.atomic_table.proofs.Lists.{at_set, set_again, set_here}
use Rattle.fv_graph.specs.Tasks.{bit, total}
use Rattle.fv_graph.specs.TasksBeside.{times}
use Rattle.fv_graph.specs.Net.{Net}
use Rattle.fv_graph.specs.Graph.{Graph}
use Rattle.fv_graph.specs.Core.{numbers}
use Rattle.fv_graph.specs.Words.{passing}
use Rattle.fv_graph.proofs.lemmas.Counts.{full, full_total}
use Rattle.fv_graph.proofs.lemmas.Counts.{times_passing}
use Rattle.fv_graph.specs.Wires.{Wires, IsWires}
use Rattle.fv_ready.specs.declared.view.Deed.{Deed}
use Rattle.fv_ready.specs.declared.view.About.{About}
use Rattle.fv_ready.specs.declared.view.View.{View}
use Rattle.fv_ready.specs.Rule.{count_word, wins, loses, sees, arrives, stamps, starts, finishes, done_by, all, together, spent, Each, IsSpent, zeroes}
use Rattle.fv_ready.specs.Whole.{starts_at, finishes_at, AllKnow, IsWhole}
use Rattle.fv_ready.specs.Promised.{Tells}
use Rattle.fv_ready.proofs.lemmas.Numbers.{long_numbers}
use Rattle.fv_ready.proofs.lemmas.Claim.{all_le, total_ext}
use Rattle.fv_ready.proofs.lemmas.Taking.{give_all, none_left, valid_gives, at_below}
use Rattle.fv_ready.specs.Carried.{IsMine, HasKey}
use Rattle.fv_ready.proofs.Back.{back}
use Rattle.fv_ready.proofs.Joined.{joins, all_joined, had_joined}
use Rattle.fv_ready.proofs.Regrouped.{whole_so}
use Rattle.fv_ready.proofs.Gaps.{zero_once}
use Rattle.fv_ready.proofs.lemmas.Splits.{sum_two, has_first}

-- where the others have nothing, the whole is that of one
pub alone_total : {X : Type 0} (g : X → ℕ) (xs : List X) (i : ℕ) (v : X) → get_elem? xs i ≡ some v →
    ((j : ℕ) (u : X) → j ≢ i → get_elem? xs j ≡ some u → g u ≡ 0) → total g xs ≡ g v
alone_total g [] i v at no_else = absurd (some-ne-none v (sym at))
alone_total g (x ∷ xs) zero v at no_else = let e : g x ≡ g v = ap g (some-injective x v at) in
    let r = rest xs (λ j u h. no_else (suc j) u (λ q. omega arith) h) in omega arith
  where
    rest : (xs : List _) → ((j : ℕ) (u : _) → get_elem? xs j ≡ some u → g u ≡ 0) → total g xs ≡ 0
    rest [] h = refl
    rest (y ∷ ys) h = let a = h 0 y refl in let r = rest ys (λ j u k. h (suc j) u k) in omega arith
alone_total g (x ∷ xs) (suc i) v at no_else = let a = no_else 0 x (λ q. omega arith) refl in
    let r = alone_total g xs i v at (λ j u n h. no_else (suc j) u (λ q. n (omega arith)) h) in omega arith

module _ {C Key : Type 0} (wires : Graph → Wires) (edge_of : C → ℕ) (key_of : C → Key) (a : About C) where
  abbrev n : Net
  n = (wires a.tasks.value).net

  abbrev Holds : State (Option C) (View C) → Type 0
  Holds s = IsWhole wires edge_of key_of a s

  -- the slots are given back, and nothing else changes
  pub given : (ws : IsWires (wires a.tasks.value)) (s : State (Option C) (View C)) (h : Holds s) (id : ℕ) (v : View C) → get_elem? s.views
      id ≡ some v → v.board ≡ Some a → (c : List (ℕ × Option C))
      → Each (λ e _. IsMine wires edge_of key_of a v e) c → Each (λ _ x. HasKey wires edge_of key_of a v x) c → Holds record
      { words = s.words; homes = homes_after s.homes c (give_all c); views = s.views }
  given ws s h id v at ab c mine keys = record {
    kept = back wires edge_of key_of a v ws s h.kept id at ab c mine keys;
    numbered = h.numbered;
    has_one = h.has_one;
    in_order = h.in_order;
    drawn = h.drawn;
    stamped_once = h.stamped_once;
    start_below = h.start_below;
    counts_once = h.counts_once;
    seen_between = h.seen_between;
    arrived_done = h.arrived_done;
    after_reads = h.after_reads;
    reached = λ boards. let r = h.reached boards in let q = r.3 in
        (r.0, r.1, r.2, record { long = q.long; counts = q.counts; done = q.done; running = q.running; seat = q.seat; apart = q.apart; idle = q.idle });
  }

  -- a load of word 0 by which a seat gives all back
  pub gives_back : (ws : IsWires (wires a.tasks.value)) (m : Me (Option C) (View C)) (slots id : ℕ) → m.0.board ≡ Some a → Each
      (λ e _. IsMine wires edge_of key_of a m.0 e) m.1 → Each (λ _ x. HasKey wires edge_of key_of a m.0 x) m.1
      → Allows Holds slots id m 0 (λ k. k) (λ k me. (me.0 ≡ m.0) × (me.1 ≡ []))
  gives_back ws m slots id ab mine keys s h long at wide = (
    m.0,
    give_all m.1,
    valid_gives m.1 s.homes,
    subst (λ (p : List ℕ × List (View C)). Holds record { words = p.0; homes = homes_after s.homes m.1 (give_all m.1); views = p.1 })
        (λ i. (sym (set-get_or s.words 0 0) i, sym (set_again s.views id m.0 at) i)) (given ws s h id m.0 at ab m.1 mine keys),
    (refl, none_left m.1),
  )

  -- seats are joined
  pub whole_joins : (id other : ℕ) (v w : View C) → v.board ≡ Some a → Joins {S = Option C} Holds id v other w (together v w) spent
  whole_joins id other v w ab s h at apart at' =
      let views' = set (set s.views id (together v w)) other spent in
      whole_so wires edge_of key_of a s views' (λ f. all_joined f s.views id other v w at at') h record {
        kept = joins wires edge_of key_of a id other v w ab s h.kept at apart at';
        numbered = λ k. had_joined k s.views id other v w at at' ∙ h.numbered k;
        has_one = λ j y e b. ⊎_elim (λ (z : (j ≡ other) × (spent ≡ y)). absurd (no_board y (ap (λ (x : View C). x.board) (sym z.1)) b))
            (λ (z : (j ≢ other) × (get_elem? (set s.views id (together v w)) j ≡ some y)). ⊎_elim
            (λ (x : (j ≡ id) × (together v w ≡ y)). subst (λ (u : View C). 0 < length u.numbers) x.1 (let l = h.has_one id v at ab in
            omega (arith, Rattle.std.proofs.Common.length-append v.numbers w.numbers)))
            (λ (x : (j ≢ id) × (get_elem? s.views j ≡ some y)). h.has_one j y x.1 b) (at_set s.views id j (together v w) y z.1))
            (at_set (set s.views id (together v w)) other j spent y e);
        in_order = λ boards. absurd (spent_there boards);
        reached = λ boards. absurd (spent_there boards);
      }
    where
      no_board : (y : View C) → y.board ≡ None → y.board ≡ Some a → ⊥
      no_board y e f = let g : None ≡ Some a = sym e ∙ f in cc

      spent_there : AllKnow {C = C} {S = Option C} a (record s { views = set (set s.views id (together v w)) other spent }) → ⊥
      spent_there boards = no_board spent refl (boards other spent
          (set_here (set s.views id (together v w)) other spent (at_below (set s.views id (together v w)) other w at')))

  module _ (s : State (Option C) (View C)) (h : Holds s) (id : ℕ) (v : View C) (at : get_elem? s.views id ≡ some v)
      (all_numbers : (k : ℕ) → k < a.workers → 0 < times k v.numbers) where
    others_spent : (j : ℕ) (u : View C) → j ≢ id → get_elem? s.views j ≡ some u → u.deeds ≡ []
    others_spent j u ne e = ⊎_elim
        (λ (b : u.board ≡ Some a). let k = get_or u.numbers 0 0 in let p = has_first u.numbers (h.has_one j u e b) in
        let m = sum_two (λ (y : View C). times k y.numbers) s.views j id u v ne e at in let q = h.numbered k in
        absurd (dite (dec_le a.workers k)
        (λ l. let z : bit (ltb k a.workers) ≡ 0 = ap bit (Rattle.fv_ready.proofs.lemmas.Begins.not_below k a.workers l) in omega arith)
        (λ l. let y = all_numbers k (omega arith) in let z : bit (ltb k a.workers) ≡ 1 = ap bit (lt-ltb k a.workers (omega arith)) in omega arith)))
        (λ (b : IsSpent u). b.1) (h.kept.same j u e)

    -- all that was done stands in this list
    pub whole_is : (f : Deed → ℕ) → all f s.views ≡ done_by f v
    whole_is f = alone_total (λ (y : View C). done_by f y) s.views id v at (λ j u ne e. ap (total f) (others_spent j u ne e))

    all_drawn : total (λ t. all (starts t) s.views + all (finishes t) s.views) (numbers n.tasks) ≡ total
        (λ t. done_by (starts t) v + done_by (finishes t) v) (numbers n.tasks)
    all_drawn = total_ext (λ t. all (starts t) s.views + all (finishes t) s.views) (λ t. done_by (starts t) v + done_by (finishes t) v)
        (λ t. let x = whole_is (starts t) in let y = whole_is (finishes t) in omega arith) (numbers n.tasks)

    pub tells : Tells n (λ f. done_by f v)
    tells = let W = whole_is in record {
      stamped = λ k. sym (W (stamps k)) ∙ h.kept.stamped k ∙ ap (λ m. bit (ltb k m)) (h.drawn ∙ all_drawn);
      won_once = λ t. let w = W (wins t) in let p = h.kept.won_once t in omega arith;
      lost_won = λ t there pos. let w = W (wins t) in let l = W (loses t) in let p = h.kept.lost t there (omega arith) in
          let q = h.kept.claimed t there in omega arith;
      started_won = λ t. (h.kept.own id v at).started_won t;
      finished_started = λ t. (h.kept.own id v at).finished_started t;
      arrived_once = λ e. let w = W (arrives e) in let p = h.kept.arrived_once e in omega arith;
      arrived_done = λ e. let w = W (arrives e) in let x = W (finishes (n.source e)) in let p = h.arrived_done e in omega arith;
      start_below = λ k t pos. let p = h.start_below k t (let w = W (finishes_at k t) in omega arith) in
          (p.0, p.1, (let w = W (starts_at p.0 t) in let y = p.2 in omega arith));
      after_reads = λ k t e there pos needs. let p = h.after_reads k t e there (let w = W (starts_at k t) in omega arith) needs in
          (p.0, p.1, (let w = W (finishes_at p.0 (n.source e)) in let y = p.2 in omega arith));
      seen_ready = λ t there pos e needs. let z = h.kept.seen t there (let w = W (sees t) in omega arith) in let c = h.kept.counted t there in
          sym (W (arrives e)) ∙ full (λ x. all (arrives x) s.views) (λ x. let o = h.kept.arrived_once x in omega arith) (n.needs t) (omega arith) e needs;
      zeroed = λ t there some' came. let c = h.kept.counted t there in let w = W (zeroes n t) in
          let all_came : total (λ e. all (arrives e) s.views) (n.needs t) ≡ length (n.needs t) = full_total (λ e. all (arrives e) s.views)
          (n.needs t) (λ e p. W (arrives e) ∙ came e p) in
          let z : slice_index s.words (count_word t) ≡ 0 = omega arith in
          sym w ∙ zero_once wires edge_of key_of a s h t there some' ∙ ap bit (eq-eqb (slice_index s.words (count_word t)) 0 z);
      won_seen = λ t pos. (h.kept.own id v at).won_seen t pos;
      zeroes_once = λ t there some'. let w = W (zeroes n t) in let z = zero_once wires edge_of key_of a s h t there some' in
          let b = Rattle.fv_graph.proofs.lemmas.Counts.bit_le (slice_index s.words (count_word t) == 0) in omega arith;
      zeroes_all = λ t there some' pos e needs. let w = W (zeroes n t) in let o = zero_once wires edge_of key_of a s h t there some' in
          let z = Rattle.fv_graph.proofs.lemmas.Counts.bit_one (slice_index s.words (count_word t)) 0 (omega arith) in let c = h.kept.counted t there in
          sym (W (arrives e)) ∙ full (λ x. all (arrives x) s.views) (λ x. let o = h.kept.arrived_once x in omega arith) (n.needs t) (omega arith) e needs;
    }

    -- the stamp word is twice the number of tasks exactly where all are finished
    each_two : (x : ℕ) → all (starts x) s.views + all (finishes x) s.views ≤ 2
    each_two x = let o = h.stamped_once x in let p = o.0 in let q = o.1 in omega arith

    pub all_finished : slice_index s.words 0 ≡ 2 * n.tasks → (t : ℕ) → t < n.tasks → all (finishes t) s.views ≡ 1
    all_finished e t there = let d = h.drawn in let l = long_numbers 0 n.tasks in
        let two = two_full (λ x. all (starts x) s.views + all (finishes x) s.views) each_two (numbers n.tasks) (omega arith) t
        (let z = times_passing (λ _. true) 0 n.tasks t (omega arith) (omega arith) in omega arith) in
        let o = h.stamped_once t in let p = o.0 in let q = o.1 in omega arith
      where
        two_spare : (g : ℕ → ℕ) → ((x : ℕ) → g x ≤ 2) → (xs : List ℕ) → total g xs ≤ 2 * length xs
        two_spare g most [] = omega arith
        two_spare g most (y ∷ ys) = let r = two_spare g most ys in let m = most y in omega arith

        two_full : (g : ℕ → ℕ) → ((x : ℕ) → g x ≤ 2) → (xs : List ℕ) → 2 * length xs ≤ total g xs → (x : ℕ) → 0 < times x xs → g x ≡ 2
        two_full g most [] h x pos = absurd (omega arith)
        two_full g most (y ∷ ys) h x pos = let r = two_spare g most ys in let m = most y in dite (ℕ_discrete y x)
            (λ s. let e : g y ≡ g x = ap g s in omega arith) (λ ne. let o = Rattle.fv_graph.proofs.lemmas.Counts.bit_apart y x ne in
            two_full g most ys (omega arith) x (omega arith))

    -- the other way
    pub finished_all : ((t : ℕ) → t < n.tasks → all (finishes t) s.views ≡ 1) → slice_index s.words 0 ≡ 2 * n.tasks
    finished_all done = h.drawn ∙ sum_two_all 0 n.tasks (λ t l. let d = done t (omega arith) in
        let f : all (finishes t) s.views ≤ all (starts t) s.views = all_le (finishes t) (starts t) s.views
        (λ j y k. (h.kept.own j y k).finished_started t) in let o = h.stamped_once t in let p = o.0 in omega arith)
      where
        sum_two_all : (from k : ℕ) → ((t : ℕ) → t < from + k → all (starts t) s.views + all (finishes t) s.views ≡ 2) → total
            (λ t. all (starts t) s.views + all (finishes t) s.views) (passing (λ _. true) from k) ≡ 2 * k
        sum_two_all from zero g = refl
        sum_two_all from (suc k) g = let a' = g from (omega arith) in let r = sum_two_all (suc from) k (λ t l. g t (omega arith)) in omega arith
