-- A seat with nothing done is cut in two, and the whole rule stays.
use Rattle.std.proofs.Common.{◌≡◌, ◌≢◌, ℕ, zero, suc, ◌+◌, ◌<◌, ◌≤◌, Bool, true, false, ◌&&◌, ◌⊎◌, inl, ⊎_elim, List}
use Rattle.std.proofs.Common.{[], ◌∷◌, ◌++◌, length, get_or, set, refl, sym, ap, ◌∙◌, subst, arith, Option, Some, ltb, ltb-true}
use Rattle.std.specs.List.Sorted.{IsStrictlyIncreasing}
use mathlib.Core.Option.{some, some-injective, some-ne-none}
use mathlib.Core.Logic.{dite}
use native.Mathlib.Decide.{ℕ_discrete}
use lib.ListN.{get_elem?}
use Rattle.atomic_table.specs.Table.{State, Splits}
use Rattle.atomic_table.proofs.Lists.{at_set, at_snoc, at_longer, set_else, set_here}
use Rattle.fv_graph.specs.Tasks.{bit, total}
use Rattle.fv_graph.specs.TasksBeside.{times}
use Rattle.fv_graph.specs.Net.{Net}
use Rattle.fv_graph.specs.Graph.{Graph}
use Rattle.fv_graph.specs.Core.{Now, is_run, run_of, owes_of}
use Rattle.fv_graph.proofs.lemmas.Counts.{bit_same, bit_true, total_append}
use Rattle.fv_graph.proofs.lemmas.Counts.{bit_right}
use Rattle.fv_graph.specs.Wires.{Wires}
use Rattle.fv_ready.specs.declared.view.Deed.{Deed}
use Rattle.fv_ready.specs.declared.view.About.{About}
use Rattle.fv_ready.specs.declared.view.View.{View}
use Rattle.fv_ready.specs.Rule.{wins, arrives, finishes, done_by, all, IsSpent, IsOwn, IsKept}
use Rattle.fv_ready.specs.Shown.{worker_of, ShowsSeat, Shows, IsIdle}
use Rattle.fv_ready.specs.Whole.{first_number, other_numbers, left_part, right_part, IsWhole}
use Rattle.fv_ready.proofs.lemmas.Taking.{at_below}
use Rattle.fv_ready.proofs.Regrouped.{kept_so, whole_so}

module _ {X : Type 0} (g : X → ℕ) where
  pub sum_set : (xs : List X) (i : ℕ) (v w : X) → get_elem? xs i ≡ some v → total g (set xs i w) + g v ≡ total g xs + g w
  sum_set [] i v w at = absurd (some-ne-none v (sym at))
  sum_set (x ∷ xs) zero v w at = let e : g x ≡ g v = ap g (some-injective x v at) in omega arith
  sum_set (x ∷ xs) (suc i) v w at = let r = sum_set xs i v w at in omega arith

  pub sum_at : (xs : List X) (i : ℕ) (v : X) → get_elem? xs i ≡ some v → g v ≤ total g xs
  sum_at [] i v at = absurd (some-ne-none v (sym at))
  sum_at (x ∷ xs) zero v at = let e : g x ≡ g v = ap g (some-injective x v at) in omega arith
  sum_at (x ∷ xs) (suc i) v at = let r = sum_at xs i v at in omega arith

  -- two places are at most the whole
  pub sum_two : (xs : List X) (i j : ℕ) (v u : X) → i ≢ j → get_elem? xs i ≡ some v → get_elem? xs j ≡ some u → g v + g u ≤ total g xs
  sum_two [] i j v u ne a b = absurd (some-ne-none v (sym a))
  sum_two (x ∷ xs) zero zero v u ne a b = absurd (ne refl)
  sum_two (x ∷ xs) zero (suc j) v u ne a b = let e : g x ≡ g v = ap g (some-injective x v a) in let r = sum_at xs j u b in omega arith
  sum_two (x ∷ xs) (suc i) zero v u ne a b = let e : g x ≡ g u = ap g (some-injective x u b) in let r = sum_at xs i v a in omega arith
  sum_two (x ∷ xs) (suc i) (suc j) v u ne a b = let r = sum_two xs i j v u (λ e. ne (ap suc e)) a b in omega arith

first_same : (ns : List ℕ) → get_or (first_number ns) 0 0 ≡ get_or ns 0 0
first_same [] = refl
first_same (k ∷ ks) = refl

cut_times : (k : ℕ) (ns : List ℕ) → times k (first_number ns) + times k (other_numbers ns) ≡ times k ns
cut_times k [] = refl
cut_times k (x ∷ xs) = omega arith

-- a list with a first number has it
pub has_first : (ns : List ℕ) → 0 < length ns → 0 < times (get_or ns 0 0) ns
has_first [] h = absurd (omega arith)
has_first (k ∷ ks) h = let o = bit_same k k refl in omega arith

left_long : (ns : List ℕ) → 0 < length ns → 0 < length (first_number ns)
left_long [] h = h
left_long (k ∷ ks) h = omega arith

right_long : (ns : List ℕ) → 1 < length ns → 0 < length (other_numbers ns)
right_long [] h = absurd (omega arith)
right_long (k ∷ ks) h = omega arith

left_rises : (ns : List ℕ) → IsStrictlyIncreasing (first_number ns)
left_rises [] k l = absurd (omega arith)
left_rises (x ∷ xs) k l = absurd (omega arith)

right_rises : (ns : List ℕ) → IsStrictlyIncreasing ns → IsStrictlyIncreasing (other_numbers ns)
right_rises [] h = h
right_rises (x ∷ xs) h = λ k l. subst (λ i. get_or xs k 0 < get_or (x ∷ xs) i 0) (let q : suc k + 1 ≡ suc (k + 1) = omega arith in q)
    (h (suc k) (omega arith))

-- where the second is the first too, it stands there twice
twice : (ns : List ℕ) → 1 < length ns → get_or ns 0 0 ≡ get_or (other_numbers ns) 0 0 → 1 < times (get_or (other_numbers ns) 0 0) ns
twice [] h e = absurd (omega arith)
twice (x ∷ []) h e = absurd (omega arith)
twice (x ∷ y ∷ ys) h e = let a = bit_same x y e in let b = bit_same y y refl in omega arith

module _ {C : Type 0} where
  pub seat_like : (n : Net) (z : Now) (v u : View C) → worker_of u ≡ worker_of v → u.deeds ≡ v.deeds → ShowsSeat n z v → ShowsSeat n z u
  seat_like n z v u w d h = record {
    there = subst (λ k. k < length z.runs) (sym w) h.there;
    stays = ap (λ k. get_or z.left k true) w ∙ h.stays;
    runs = λ t. subst (λ (p : ℕ × List Deed). bit (is_run t (run_of z p.0)) + total (finishes t) p.1 ≡ total (wins t) p.1) (λ i. (sym w i, sym d i)) (h.runs t);
    owes = λ e. subst (λ (p : ℕ × List Deed). times e (owes_of z p.0) + total (arrives e) p.1 ≡ bit
        (n.is_inner e && ltb 0 (total (finishes (n.source e)) p.1))) (λ i. (sym w i, sym d i)) (h.owes e);
  }

  pub seat_idle : (n : Net) (z : Now) (u : View C) → u.deeds ≡ [] → IsIdle z (worker_of u) → ShowsSeat n z u
  seat_idle n z u d h = record {
    there = h.there;
    stays = h.stays;
    runs = λ t. subst (λ (p : Option ℕ × List Deed). bit (is_run t p.0) + total (finishes t) p.1 ≡ total (wins t) p.1) (λ i. (sym h.runs i, sym d i)) refl;
    owes = λ e. subst (λ (p : List ℕ × List Deed). times e p.0 + total (arrives e) p.1 ≡ bit
        (n.is_inner e && ltb 0 (total (finishes (n.source e)) p.1))) (λ i. (sym h.owes i, sym d i)) (sym (bit_right (n.is_inner e) false refl));
  }

  abbrev pub cut : List (View C) → ℕ → View C → List (View C)
  cut views id v = set views id (left_part v) ++ right_part v ∷ []

  pub all_cut : (f : Deed → ℕ) (views : List (View C)) (id : ℕ) (v : View C) → get_elem? views id ≡ some v → all f (cut views id v) ≡ all f views
  all_cut f views id v at = let a = sum_set (λ (y : View C). done_by f y) views id v (left_part v) at in
      let b = total_append (λ (y : View C). done_by f y) (set views id (left_part v)) (right_part v ∷ []) in omega arith

  pub had_cut : (k : ℕ) (views : List (View C)) (id : ℕ) (v : View C) → get_elem? views id ≡ some v → total
      (λ (y : View C). times k y.numbers) (cut views id v) ≡ total (λ (y : View C). times k y.numbers) views
  had_cut k views id v at = let a = sum_set (λ (y : View C). times k y.numbers) views id v (left_part v) at in
      let b = total_append (λ (y : View C). times k y.numbers) (set views id (left_part v)) (right_part v ∷ []) in let c = cut_times k v.numbers in omega arith

  pub each_cut : (views : List (View C)) (id : ℕ) (v : View C) (P : View C → Type 0) → P (left_part v) → P (right_part v) →
      ((j : ℕ) (y : View C) → get_elem? views j ≡ some y → P y) → (j : ℕ) (y : View C) → get_elem? (cut views id v) j ≡ some y → P y
  each_cut views id v P l r o j y e = ⊎_elim
      (λ (p : get_elem? (set views id (left_part v)) j ≡ some y). ⊎_elim (λ (q : (j ≡ id) × (left_part v ≡ y)). subst P q.1 l)
      (λ (q : (j ≢ id) × (get_elem? views j ≡ some y)). o j y q.1) (at_set views id j (left_part v) y p))
      (λ (p : right_part v ≡ y). subst P p r) (at_snoc (set views id (left_part v)) (right_part v) y j e)

  -- a seat of before stands there, or is the one that was cut
  pub in_cut : (views : List (View C)) (id : ℕ) (v : View C) → get_elem? views id ≡ some v → (P : View C → Type 0) →
      ((j : ℕ) (y : View C) → get_elem? (cut views id v) j ≡ some y → P y) → (P (left_part v) → P v) → (j : ℕ) (y : View C) → get_elem? views j ≡ some y → P y
  in_cut views id v at P h back j y e = dite (ℕ_discrete j id)
      (λ is. subst P (some-injective v y (sym at ∙ ap (get_elem? views) (sym is) ∙ e))
      (back (h id (left_part v) (at_longer (set views id (left_part v)) (right_part v ∷ []) id (left_part v)
      (set_here views id (left_part v) (at_below views id v at))))))
      (λ ne. h j y (at_longer (set views id (left_part v)) (right_part v ∷ []) j y (set_else views id j (left_part v) ne ∙ e)))

  -- no two seats have one number
  pub apart_of : (views : List (View C)) → ((k : ℕ) → total (λ (y : View C). times k y.numbers) views < 2) →
      ((j : ℕ) (y : View C) → get_elem? views j ≡ some y → 0 < length y.numbers)
      → (i j : ℕ) (u y : View C) → get_elem? views i ≡ some u → get_elem? views j ≡ some y → worker_of u ≡ worker_of y → i ≡ j
  apart_of views few some_number i j u y a b w = dite (ℕ_discrete i j) (λ e. e) (λ ne.
      let s = sum_two (λ (y : View C). times (worker_of u) y.numbers) views i j u y ne a b in let f = few (worker_of u) in
      let p = has_first u.numbers (some_number i u a) in let q = has_first y.numbers (some_number j y b) in
      let r : times (worker_of y) y.numbers ≡ times (worker_of u) y.numbers = ap (λ k. times k y.numbers) (sym w) in absurd (omega arith))

few_of : (b : Bool) → bit b < 2
few_of true = omega arith
few_of false = omega arith

module _ {C Key : Type 0} (wires : Graph → Wires) (edge_of : C → ℕ) (key_of : C → Key) where
  module _ (a : About C) (id : ℕ) (v : View C) (ab : v.board ≡ Some a) (fresh : v.deeds ≡ []) (more : 1 < length v.numbers)
      (s : State (Option C) (View C)) (h : IsWhole wires edge_of key_of a s) (at : get_elem? s.views id ≡ some v) where
    abbrev n : Net
    n = (wires a.tasks.value).net

    abbrev s' : State (Option C) (View C)
    s' = record { words = s.words; homes = s.homes; views = cut s.views id v }

    abbrev E : (f : Deed → ℕ) → all f (cut s.views id v) ≡ all f s.views
    E f = all_cut f s.views id v at

    own_right : IsOwn n (right_part v)
    own_right = record { won_seen = λ t pos. pos; arrived_won = λ e. omega arith; started_won = λ t. omega arith; finished_started = λ t. omega arith }

    own_left : IsOwn n (left_part v)
    own_left = let o = h.kept.own id v at in record {
      won_seen = o.won_seen;
      arrived_won = o.arrived_won;
      started_won = o.started_won;
      finished_started = o.finished_started;
    }

    pub kept_cut : IsKept wires edge_of key_of a s'
    kept_cut = kept_so wires edge_of key_of a s (cut s.views id v) E h.kept record {
      same = each_cut s.views id v (λ y. (y.board ≡ Some a) ⊎ IsSpent y) (inl ab) (inl ab) h.kept.same;
      own = each_cut s.views id v (λ y. IsOwn n y) own_left own_right h.kept.own;
    }

    numbered' : (k : ℕ) → total (λ (y : View C). times k y.numbers) (cut s.views id v) ≡ bit (ltb k a.workers)
    numbered' k = had_cut k s.views id v at ∙ h.numbered k

    second : ℕ
    second = worker_of (right_part v)

    has_one' : (j : ℕ) (y : View C) → get_elem? (cut s.views id v) j ≡ some y → y.board ≡ Some a → 0 < length y.numbers
    has_one' = each_cut s.views id v (λ y. y.board ≡ Some a → 0 < length y.numbers) (λ _. left_long v.numbers (omega arith))
        (λ _. right_long v.numbers more) h.has_one

    module _ (boards : (j : ℕ) (y : View C) → get_elem? (cut s.views id v) j ≡ some y → y.board ≡ Some a) where
      old_boards : (j : ℕ) (y : View C) → get_elem? s.views j ≡ some y → y.board ≡ Some a
      old_boards = in_cut s.views id v at (λ y. y.board ≡ Some a) boards (λ p. p)

      has_second : 0 < times (worker_of (right_part v)) v.numbers
      has_second = let p = has_first (other_numbers v.numbers) (right_long v.numbers more) in
          let c = cut_times (worker_of (right_part v)) v.numbers in omega arith

      second_small : worker_of (right_part v) < a.workers
      second_small = let k = worker_of (right_part v) in let m = sum_at (λ (y : View C). times k y.numbers) s.views id v at in
          let p = has_second in let q = h.numbered k in
          ltb-true k a.workers (bit_true (ltb k a.workers) (omega arith))

      alone : (j : ℕ) (u : View C) → get_elem? s.views j ≡ some u → worker_of u ≢ worker_of (right_part v)
      alone j u e w = let k = worker_of (right_part v) in let q = h.numbered k in let f = few_of (ltb k a.workers) in dite (ℕ_discrete j id)
          (λ is. let same : v ≡ u = some-injective v u (sym at ∙ ap (get_elem? s.views) (sym is) ∙ e) in
          let t = twice v.numbers more (ap (λ (y : View C). worker_of y) same ∙ w) in
          let m = sum_at (λ (y : View C). times k y.numbers) s.views id v at in absurd (omega arith))
          (λ ne. let m = sum_two (λ (y : View C). times k y.numbers) s.views j id u v ne e at in let p = has_second in
          let r = has_first u.numbers (h.has_one j u e (old_boards j u e)) in
          let z : times (worker_of u) u.numbers ≡ times k u.numbers = ap (λ i. times i u.numbers) w in absurd (omega arith))

      pub shows_cut : (z : Now) → Shows {C = C} {S = Option C} n a.workers s z → Shows {C = C} {S = Option C} n a.workers s' z
      shows_cut z q = record {
        long = q.long;
        counts = q.counts;
        done = λ t. q.done t ∙ sym (E (finishes t));
        running = λ t. let x = E (finishes t) in let y = E (wins t) in let r = q.running t in omega arith;
        seat = each_cut s.views id v (λ y. ShowsSeat n z y)
            (seat_like n z v (left_part v) (first_same v.numbers) refl (q.seat id v at))
            (seat_idle n z (right_part v) refl (q.idle (worker_of (right_part v)) second_small alone))
            q.seat;
        apart = apart_of (cut s.views id v) (λ k. let p = numbered' k in let f = few_of (ltb k a.workers) in
            omega arith) (λ j y e. has_one' j y e (boards j y e));
        idle = λ k hk no. q.idle k hk (in_cut s.views id v at (λ y. worker_of y ≢ k) no (λ f w. f (first_same v.numbers ∙ w)));
      }

    pub whole_cut : IsWhole wires edge_of key_of a s'
    whole_cut = whole_so wires edge_of key_of a s (cut s.views id v) E h record {
      kept = kept_cut;
      numbered = numbered';
      has_one = has_one';
      in_order = λ boards. let o = h.in_order (old_boards boards) in each_cut s.views id v (λ y. IsStrictlyIncreasing y.numbers)
          (left_rises v.numbers) (right_rises v.numbers (o id v at)) o;
      reached = λ boards. let r = h.reached (old_boards boards) in (r.0, r.1, r.2, shows_cut boards r.1 r.3);
    }

  pub splits : (a : About C) (id : ℕ) (v : View C) → v.board ≡ Some a → v.deeds ≡ [] → 1 < length v.numbers → Splits {S = Option C}
      (λ s. IsWhole wires edge_of key_of a s) id v (left_part v) (right_part v)
  splits a id v ab fresh more s h at = whole_cut a id v ab fresh more s h at
