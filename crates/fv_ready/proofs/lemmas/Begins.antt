-- A new board meets the whole rule.
use Rattle.std.proofs.Common.{◌≡◌, ℕ, zero, suc, ◌+◌, ◌<◌, ◌≤◌, Bool, true, false, ◌⊎◌, inl, inr, ⊎_elim, List, [], ◌∷◌, ◌++◌, map}
use Rattle.std.proofs.Common.{length, replicate, get_or, slice_index, refl, sym, ap, ◌∙◌, subst}
use Rattle.std.proofs.Common.{arith, Option, Some, None, ltb, lt-ltb, ltb-true, length-append}
use Rattle.std.proofs.lemmas.List.{length-map}
use Rattle.std.specs.List.Sorted.{IsStrictlyIncreasing}
use mathlib.Core.Option.{some, some-injective, some-ne-none}
use mathlib.Core.Logic.{dite}
use native.Mathlib.Decide.{dec_le}
use lib.ListN.{get_elem?}
use Rattle.atomic_table.specs.Table.{State, opening}
use Rattle.fv_graph.specs.Tasks.{bit, total}
use Rattle.fv_graph.specs.TasksBeside.{times}
use Rattle.fv_graph.specs.Net.{Net}
use Rattle.fv_graph.specs.Core as core
use Rattle.fv_graph.specs.Core.{numbers, is_run}
use Rattle.fv_graph.specs.Net.{need_count}
use Rattle.fv_graph.proofs.lemmas.Opens.{get_same, get_in, length_same, length_numbers, get_numbers, total_same}
use Rattle.fv_graph.proofs.lemmas.Counts.{total_none, times_passing, times_above}
use Rattle.fv_graph.proofs.lemmas.Counts.{bit_right}
use Rattle.fv_graph.specs.Wires.{Wires}
use Rattle.fv_graph.specs.Graph.{Graph}
use Rattle.fv_ready.proofs.lemmas.Numbers.{rising_numbers}
use Rattle.fv_ready.specs.declared.view.About.{About}
use Rattle.fv_ready.specs.declared.view.View.{View}
use Rattle.fv_ready.specs.Rule.{count_word, claim_word, IsOwn, Fits, IsKept}
use Rattle.fv_ready.specs.Shown.{worker_of, ShowsSeat, Shows}
use Rattle.fv_ready.specs.Whole.{first_words, first_view, IsWhole}
use Rattle.fv_ready.proofs.Gaps.{between_none}
use Rattle.fv_ready.proofs.lemmas.Taking.{at_below}

get_left : (xs ys : List ℕ) (i : ℕ) → i < length xs → get_or (xs ++ ys) i 0 ≡ get_or xs i 1
get_left [] ys i h = absurd (omega arith)
get_left (x ∷ xs) ys zero h = refl
get_left (x ∷ xs) ys (suc i) h = get_left xs ys i (omega arith)

get_right : (xs ys : List ℕ) (i : ℕ) → get_or (xs ++ ys) (length xs + i) 0 ≡ get_or ys i 0
get_right [] ys i = ap (λ k. get_or ys k 0) (omega arith)
get_right (x ∷ xs) ys i = ap (λ k. get_or (x ∷ xs ++ ys) k 0) (let q : suc (length xs) + i ≡ suc (length xs + i) = omega arith in q) ∙ get_right xs ys i

module _ {S : Type 0} where
  home_at : (xs : List S) (e : ℕ) (y : S) → get_elem? xs e ≡ some y → get_elem? (map some xs) e ≡ some (some y)
  home_at [] e y h = absurd (some-ne-none y (sym h))
  home_at (x ∷ xs) zero y h = ap some h
  home_at (x ∷ xs) (suc e) y h = home_at xs e y h

  at_home : (xs : List S) (e : ℕ) (y : S) → get_elem? (map some xs) e ≡ some (some y) → get_elem? xs e ≡ some y
  at_home [] e y h = absurd (some-ne-none (some y) (sym h))
  at_home (x ∷ xs) zero y h = some-injective (some x) (some y) h
  at_home (x ∷ xs) (suc e) y h = at_home xs e y h

  only : (x y : S) (id : ℕ) → get_elem? (x ∷ []) id ≡ some y → (id ≡ 0) × (x ≡ y)
  only x y zero h = (refl, some-injective x y h)
  only x y (suc id) h = absurd (some-ne-none y (sym h))

total_nones : (f : ℕ → ℕ) → ((t : ℕ) → f t ≡ 0) → (xs : List ℕ) → total f xs ≡ 0
total_nones f h [] = refl
total_nones f h (x ∷ xs) = let a = h x in let r = total_nones f h xs in omega arith

false_of : (b : Bool) → (b ≡ true → ⊥) → b ≡ false
false_of true f = absurd (f refl)
false_of false f = refl

pub not_below : (a b : ℕ) → b ≤ a → ltb a b ≡ false
not_below a b h = false_of (ltb a b) (λ e. let l = ltb-true a b e in omega arith)

pub first_is : (n : ℕ) → 0 < n → get_or (numbers n) 0 0 ≡ 0
first_is zero h = absurd (omega arith)
first_is (suc n) h = refl

is_or_not : (b : Bool) → (b ≡ true) ⊎ (b ≡ false)
is_or_not true = inl refl
is_or_not false = inr refl

some_none : {C : Type 0} (p : C) → some (Some p) ≡ some None → ⊥
some_none p e = cc

module _ {C Key : Type 0} (wires : Graph → Wires) (edge_of : C → ℕ) (key_of : C → Key) (a : About C) where
  -- the slots of a new board: the entries, and nothing
  pub record Laid (slots : List (Option C)) : Type 0 where
    pub long : length slots ≡ (wires a.tasks.value).edges
    pub full : (e : ℕ) → (wires a.tasks.value).is_entry e ≡ true → (x : Option C) × (get_elem? slots e ≡ some x) × Fits wires edge_of key_of a e x
    pub empty : (e : ℕ) → e < (wires a.tasks.value).edges → (wires a.tasks.value).is_entry e ≡ false → get_elem? slots e ≡ some None

  module _ (slots : List (Option C)) (laid : Laid slots) (some_worker : 0 < a.workers) where
    abbrev n : Net
    n = (wires a.tasks.value).net

    abbrev s : State (Option C) (View C)
    s = opening (first_words n) slots (first_view a)

    counts_long : length (map (need_count n) (numbers n.tasks)) ≡ n.tasks
    counts_long = length_numbers 0 n.tasks (need_count n)

    pub count_is : (t : ℕ) → t < n.tasks → slice_index (first_words n) (count_word t) ≡ need_count n t
    count_is t h = ap (λ k. get_or (first_words n) k 0) (let q : 1 + t ≡ suc t = omega arith in q)
        ∙ get_left (map (need_count n) (numbers n.tasks)) (replicate n.tasks 0) t (let l = counts_long in omega arith)
        ∙ get_numbers 0 n.tasks (need_count n) t 1 h ∙ ap (need_count n) (omega arith)

    claim_is : (t : ℕ) → slice_index (first_words n) (claim_word n.tasks t) ≡ 0
    claim_is t = ap (λ k. get_or (first_words n) k 0) (let l = counts_long in
        let q : 1 + n.tasks + t ≡ suc (length (map (need_count n) (numbers n.tasks)) + t) = omega arith in q)
        ∙ get_right (map (need_count n) (numbers n.tasks)) (replicate n.tasks 0) t ∙ get_same n.tasks 0 t

    each : (P : View C → Type 0) → P (first_view a) → (id : ℕ) (v : View C) → get_elem? s.views id ≡ some v → P v
    each P h id v e = subst P (only (first_view a) v id e).1 h

    own : IsOwn n (first_view a)
    own = record { won_seen = λ t pos. pos; arrived_won = λ e. omega arith; started_won = λ t. omega arith; finished_started = λ t. omega arith }

    kept : IsKept wires edge_of key_of a s
    kept = record {
      words_long = let l = counts_long in omega (
        arith,
        length-append (map (need_count n) (numbers n.tasks)) (replicate n.tasks 0),
        length_same {X = ℕ} n.tasks 0,
      );
      homes_long = length-map slots some ∙ laid.long;
      same = each (λ v. (v.board ≡ Some a) ⊎ Rattle.fv_ready.specs.Rule.IsSpent v) (inl refl);
      own = each (λ v. IsOwn n v) own;
      stamped = λ k. sym (ap bit (not_below k 0 (omega arith)));
      won_once = λ t. omega arith;
      claimed = λ t h. claim_is t;
      lost = λ t h pos. absurd (omega arith);
      counted = λ t h. let c = count_is t h in let z = total_none (n.needs t) in omega arith;
      arrived_once = λ e. omega arith;
      seen = λ t h pos. absurd (omega arith);
      empty_slots = λ e he no none'. home_at slots e None (laid.empty e he no);
      full_slots = λ e come none'. ⊎_elim (λ i. let p = laid.full e i in (p.0, home_at slots e p.0 p.1, p.2)) (λ (i : 0 ≡ 1). absurd (omega arith)) come;
      exit_slots = λ e is (fin : 0 ≡ 1). absurd (omega arith);
      keyed = λ e p is. let at = at_home slots e (Some p) is in
          ⊎_elim (λ i. let q = laid.full e i in let f = q.2 in
          let same : f.0 ≡ p = cc in subst (λ x. key_of x ≡ key_of a.sample.value) same f.3)
          (λ i. absurd (some_none p (sym at ∙ laid.empty e (let l = at_below slots e (Some p) at in let m = laid.long in omega arith) i)))
          (is_or_not ((wires a.tasks.value).is_entry e));
    }

    first_there : worker_of (first_view a) < a.workers
    first_there = let f = first_is a.workers some_worker in omega arith

    shows : Shows {C = C} {S = Option C} n a.workers s (core.opening n a.workers)
    shows = record {
      long = (
        length_numbers 0 n.tasks (need_count n),
        length_same n.tasks false,
        length_same {X = List ℕ} a.workers [] ∙ sym
            (length_same {X = Option ℕ} a.workers None),
      );
      counts = λ t h. get_numbers 0 n.tasks (need_count n) t 1 h ∙ ap (need_count n) (let q : 0 + t ≡ t = omega arith in q) ∙ sym (count_is t h);
      done = λ t. ap bit (get_same n.tasks false t);
      running = λ t. let z = total_same (λ r. bit (is_run t r)) a.workers None refl in omega arith;
      seat = each (λ v. ShowsSeat n (core.opening n a.workers) v) (record {
        there = omega (arith, length_same {X = Option ℕ} a.workers None, first_there);
        stays = get_in a.workers false true (worker_of (first_view a)) first_there;
        runs = λ t. ap (λ r. bit (is_run t r) + 0) (get_same a.workers None (worker_of (first_view a)));
        owes = λ e. ap (λ l. times e l + 0) (get_same a.workers [] (worker_of (first_view a))) ∙ sym (bit_right (n.is_inner e) false refl);
      });
      apart = λ i j u y e f w. let p = only (first_view a) u i e in let q = only (first_view a) y j f in p.0 ∙ sym q.0;
      idle = λ k h no. record {
        there = omega (arith, length_same {X = Option ℕ} a.workers None);
        stays = get_in a.workers false true k h;
        runs = get_same a.workers None k;
        owes = get_same a.workers [] k;
      };
    }

    pub begins : IsWhole wires edge_of key_of a s
    begins = record {
      kept = kept;
      numbered = λ k. dite (dec_le a.workers k) (λ l. let z = times_above (λ _. true) 0 a.workers k (omega arith) in
          let q = ap bit (not_below k a.workers l) in omega arith)
          (λ l. let z = times_passing (λ _. true) 0 a.workers k (omega arith) (omega arith) in
          let q = ap bit (lt-ltb k a.workers (omega arith)) in omega arith);
      has_one = each (λ v. v.board ≡ Some a → 0 < length v.numbers) (λ _. let l = length_numbers 0 a.workers (λ k. k) in
          omega (arith, length-map (numbers a.workers) (λ k. k)));
      in_order = λ _. each (λ v. IsStrictlyIncreasing v.numbers) (rising_numbers 0 a.workers);
      drawn = sym (total_nones (λ t. 0) (λ t. refl) (numbers n.tasks));
      stamped_once = λ t. (omega arith, omega arith);
      start_below = λ k t pos. absurd (omega arith);
      counts_once = λ t c h. sym (between_none (slice_index (first_words n) (count_word t)) c (need_count n t) (count_is t h));
      seen_between = λ t c h pos. absurd (omega arith);
      arrived_done = λ e. omega arith;
      after_reads = λ k t e h pos. absurd (omega arith);
      reached = λ _. ([], core.opening n a.workers, refl, shows);
    }
