-- The steps under the whole rule, from their parts.
use Rattle.std.proofs.Common.{◌≡◌, ℕ, ◌+◌, ◌-◌, ◌<◌, Bool, true, false, ◌&&◌, ⊎_elim, List, [], ◌∷◌, ◌++◌}
use Rattle.std.proofs.Common.{length, set, slice_index, refl, sym, ap, ◌∙◌, subst, arith, ◌==◌, Option, Some, ltb}
use Rattle.std.proofs.Math.Dec.{leb}
use Rattle.std.specs.List.Sorted.{IsStrictlyIncreasing}
use mathlib.Core.Option.{some}
use mathlib.Core.Logic.{dite}
use native.Mathlib.Decide.{ℕ_discrete}
use lib.ListN.{get_elem?}
use Rattle.atomic_table.specs.Table.{State}
use Rattle.atomic_table.proofs.Lists.{at_set}
use Rattle.fv_graph.specs.Tasks.{bit, total}
use Rattle.fv_graph.specs.TasksBeside.{times}
use Rattle.fv_graph.specs.Net.{Net, IsNet}
use Rattle.fv_graph.specs.Graph.{Graph}
use Rattle.fv_graph.specs.Core.{Now, numbers, opening}
use Rattle.fv_graph.specs.Lean.{lean_after}
use Rattle.fv_graph.specs.declared.event.Event.TheVariants.{Finish, Arrive}
use Rattle.fv_graph.proofs.lemmas.Counts.{bit_same, bit_apart}
use Rattle.fv_graph.proofs.lemmas.Counts.{bit_right}
use Rattle.fv_graph.specs.Wires.{Wires}
use Rattle.fv_ready.specs.declared.view.Deed.{Deed}
use Rattle.fv_ready.specs.declared.view.Deed.TheVariants.{Stamped, Arrived, Saw, Claimed}
use Rattle.fv_ready.specs.declared.view.About.{About}
use Rattle.fv_ready.specs.declared.view.View.{View}
use Rattle.fv_ready.specs.Rule.{count_word, wins, arrives, starts, finishes, done_by, all, noted, IsKept, saw, arrives_with}
use Rattle.fv_ready.specs.Shown.{worker_of, Shows, Reached, OwesNothing}
use Rattle.fv_ready.specs.Whole.{starts_at, finishes_at, IsWhole}
use Rattle.fv_ready.proofs.Noted.{known_before}
use Rattle.fv_ready.proofs.lemmas.Claim.{all_noted, all_at, total_ext}
use Rattle.fv_ready.proofs.lemmas.Splits.{sum_set}
use Rattle.fv_ready.proofs.Gaps.{between_less}
use Rattle.fv_ready.proofs.Regrouped.{whole_steady, LookedBetween}
use Rattle.fv_ready.proofs.Shows.{lean_more, reached_claim}
use Rattle.fv_ready.proofs.Finishes.{IsFinish, shows_same, shows_finished, may_finish}
use Rattle.fv_ready.proofs.Arrives.{IsArrival, shows_arrived, may_arrive}

-- a deed that is no stamp and no arrival
pub record IsQuiet (n : Net) (d : Deed) : Type 0 where
  pub starts : (x : ℕ) → starts x d ≡ 0
  pub finishes : (x : ℕ) → finishes x d ≡ 0
  pub starts_at : (m x : ℕ) → starts_at m x d ≡ 0
  pub finishes_at : (m x : ℕ) → finishes_at m x d ≡ 0
  pub arrives_with : (x c : ℕ) → arrives_with n x c d ≡ 0
  pub arrives : (e : ℕ) → arrives e d ≡ 0

pub saw_quiet : (n : Net) (t c : ℕ) → IsQuiet n (Saw t c)
saw_quiet n t c = record {
  starts = λ x. refl;
  finishes = λ x. refl;
  starts_at = λ m x. refl;
  finishes_at = λ m x. refl;
  arrives_with = λ x c. refl;
  arrives = λ e. refl;
}

pub claim_quiet : (n : Net) (t : ℕ) (b : Bool) → IsQuiet n (Claimed t b)
claim_quiet n t b = record {
  starts = λ x. refl;
  finishes = λ x. refl;
  starts_at = λ m x. refl;
  finishes_at = λ m x. refl;
  arrives_with = λ x c. refl;
  arrives = λ e. refl;
}

-- what is shown does not see the words beyond the counts, nor the slots
pub shows_words : {C S : Type 0} (n : Net) (workers : ℕ) (s : State S (View C)) (z : Now) → Shows {C = C} {S = S} n workers s z →
    (words' : List ℕ) (homes' : List (mathlib.Core.Option.Option S)) → ((x : ℕ) → x < n.tasks → slice_index words' (count_word x) ≡
    slice_index s.words (count_word x))
    → Shows {C = C} {S = S} n workers (record s { words = words'; homes = homes' }) z
shows_words n workers s z h words' homes' same = record {
  long = h.long;
  counts = λ x l. h.counts x l ∙ sym (same x l);
  done = h.done;
  running = h.running;
  seat = h.seat;
  apart = h.apart;
  idle = h.idle;
}

module _ {C Key : Type 0} (wires : Graph → Wires) (edge_of : C → ℕ) (key_of : C → Key) (a : About C) (s : State (Option C) (View C))
    (h : IsWhole wires edge_of key_of a s)
    (id : ℕ) (v : View C) (at : get_elem? s.views id ≡ some v) (ab : v.board ≡ Some a) where
  abbrev n : Net
  n = (wires a.tasks.value).net

  each : (d : Deed) (P : View C → Type 0) → P (noted v d) → ((j : ℕ) (y : View C) → get_elem? s.views j ≡ some y → P y) → (j : ℕ)
      (y : View C) → get_elem? (set s.views id (noted v d)) j ≡ some y → P y
  each d P here others j y e = ⊎_elim (λ (z : (j ≡ id) × (noted v d ≡ y)). subst P z.1 here) (λ z. others j y z.1) (at_set s.views id j (noted v d) y e)

  pub old_boards : (d : Deed) → ((j : ℕ) (y : View C) → get_elem? (set s.views id (noted v d)) j ≡ some y → y.board ≡ Some a) → (j : ℕ)
      (y : View C) → get_elem? s.views j ≡ some y → y.board ≡ Some a
  old_boards d boards = known_before a s.views id v d at ab boards

  numbered' : (d : Deed) (k : ℕ) → total (λ (y : View C). times k y.numbers) (set s.views id (noted v d)) ≡ bit (ltb k a.workers)
  numbered' d k = (let r = sum_set (λ (y : View C). times k y.numbers) s.views id v (noted v d) at in
      let z : total (λ (y : View C). times k y.numbers) (set s.views id (noted v d)) ≡ total (λ (y : View C). times k y.numbers) s.views =
      omega arith in z) ∙ h.numbered k

  -- claims and loads
  module _ (d : Deed) (quiet : IsQuiet n d) (words' : List ℕ) (homes' : List (mathlib.Core.Option.Option (Option C)))
      (kept' : IsKept wires edge_of key_of a record { words = words'; homes = homes'; views = set s.views id (noted v d) })
      (word_0 : slice_index words' 0 ≡ slice_index s.words 0) (counts : (x : ℕ) → x < n.tasks → slice_index words' (count_word x) ≡
      slice_index s.words (count_word x))
      (looked : LookedBetween wires edge_of key_of a s record { words = words'; homes = homes'; views = set s.views id (noted v d) })
      (reached' : ((j : ℕ) (y : View C) → get_elem? (set s.views id (noted v d)) j ≡ some y → y.board ≡ Some a) → Reached {C = C}
      {S = Option C} n a.workers record { words = words'; homes = homes'; views = set s.views id (noted v d) }) where
    A : (f : Deed → ℕ) → f d ≡ 0 → all f (set s.views id (noted v d)) ≡ all f s.views
    A f e = let r = all_noted f s.views id v d at in omega arith

    pub whole_quiet : IsWhole wires edge_of key_of a record { words = words'; homes = homes'; views = set s.views id (noted v d) }
    whole_quiet = whole_steady wires edge_of key_of a s record { words = words'; homes = homes'; views = set s.views id (noted v d) } h record {
      starts = λ t. A (starts t) (quiet.starts t);
      finishes = λ t. A (finishes t) (quiet.finishes t);
      starts_at = λ k t. A (starts_at k t) (quiet.starts_at k t);
      finishes_at = λ k t. A (finishes_at k t) (quiet.finishes_at k t);
      arrives_with = λ t c. A (arrives_with n t c) (quiet.arrives_with t c);
      arrives = λ e. A (arrives e) (quiet.arrives e);
      stamp_word = word_0;
      count_words = counts;
    } looked record {
      kept = kept';
      numbered = numbered' d;
      has_one = each d (λ y. y.board ≡ Some a → 0 < length y.numbers) (h.has_one id v at) h.has_one;
      in_order = λ boards. let o = h.in_order (old_boards d boards) in each d (λ y. IsStrictlyIncreasing y.numbers) (o id v at) o;
      reached = reached';
    }

  -- what is shown after a load, a lost claim or a start
  pub reached_same : (d : Deed) → ((x : ℕ) → wins x d ≡ 0) → ((x : ℕ) → finishes x d ≡ 0) → ((x : ℕ) → arrives x d ≡ 0) → (words' : List ℕ)
      → ((x : ℕ) → x < n.tasks → slice_index words' (count_word x) ≡ slice_index s.words (count_word x))
      → ((j : ℕ) (y : View C) → get_elem? (set s.views id (noted v d)) j ≡ some y → y.board ≡ Some a) → Reached {C = C} {S = Option C} n
      a.workers record { words = words'; homes = s.homes; views = set s.views id (noted v d) }
  reached_same d w f ar words' counts boards = let r = h.reached (old_boards d boards) in (
    r.0,
    r.1,
    r.2,
    shows_same {C = C} {S = Option C} n a.workers s r.1 r.3 {id = id} {v = v} {d = d} {words' = words'} record
        { at = at; no_win = w; no_finish = f; no_arrival = ar; word_is = counts },
  )

  -- after a won claim
  pub reached_won : (t : ℕ) → t < n.tasks → slice_index s.words (count_word t) ≡ 0 → all (wins t) s.views ≡ 0 → OwesNothing n v →
      (words' : List ℕ) (homes' : List (mathlib.Core.Option.Option (Option C))) →
      ((x : ℕ) → x < n.tasks → slice_index words' (count_word x) ≡ slice_index s.words (count_word x))
      → ((j : ℕ) (y : View C) → get_elem? (set s.views id (noted v (Claimed t true))) j ≡ some y → y.board ≡ Some a) → Reached {C = C}
      {S = Option C} n a.workers record { words = words'; homes = homes'; views = set s.views id (noted v (Claimed t true)) }
  reached_won t there ready first free words' homes' counts boards = let r = reached_claim {C = C} {S = Option C} n a.workers s {id = id} {t = t} {v = v}
      (h.reached (old_boards (Claimed t true) boards)) record { at = at; there = there; ready = ready; first = first; owes = free } in (
        r.0,
        r.1,
        r.2,
        shows_words {C = C} {S = Option C} n a.workers record
            { words = s.words; homes = s.homes; views = set s.views id (noted v (Claimed t true)) } r.1 r.3 words' homes' counts,
      )

  -- after a finish
  pub reached_finish : (t k : ℕ) → IsNet n → t < n.tasks → done_by (wins t) v ≡ 1 → done_by (finishes t) v ≡ 0 → all (finishes t) s.views ≡
      0 → (words' : List ℕ) → ((x : ℕ) → x < n.tasks → slice_index words' (count_word x) ≡ slice_index s.words (count_word x))
      → ((j : ℕ) (y : View C) → get_elem? (set s.views id (noted v (Stamped k t false))) j ≡ some y → y.board ≡ Some a) → Reached {C = C}
      {S = Option C} n a.workers record { words = words'; homes = s.homes; views = set s.views id (noted v (Stamped k t false)) }
  reached_finish t k net there won unfinished nobody words' counts boards = let r = h.reached (old_boards (Stamped k t false) boards) in
      let finish : IsFinish {C = C} {S = Option C} n s id t v words' = record
      { at = at; there = there; won = won; unfinished = unfinished; nobody = nobody; word_is = counts } in (
        r.0 ++ Finish (worker_of v) t ∷ [],
        lean_after n r.1 (Finish (worker_of v) t),
        lean_more n r.0 (Finish (worker_of v) t) (opening n a.workers) r.1 r.2
            (may_finish {C = C} {S = Option C} n net a.workers s r.1 r.3 finish k),
        shows_finished {C = C} {S = Option C} n net a.workers s r.1 r.3 finish k,
      )

  -- an arrival
  module _ (e : ℕ) (net : IsNet n) (inner : n.is_inner e ≡ true) (done : 0 < done_by (finishes (n.source e)) v)
      (new : done_by (arrives e) v ≡ 0) (nobody : all (arrives e) s.views ≡ 0)
      (words' : List ℕ) (homes' : List (mathlib.Core.Option.Option (Option C))) (some_left : 0 < slice_index s.words (count_word (n.reader e)))
      (word_0 : slice_index words' 0 ≡ slice_index s.words 0) (word_is : (t : ℕ) → t < n.tasks → slice_index words' (count_word t) + bit
      (n.reader e == t) ≡ slice_index s.words (count_word t))
      (kept' : IsKept wires edge_of key_of a record {
        words = words';
        homes = homes';
        views = set s.views id
            (noted v (Arrived e (slice_index s.words (count_word (n.reader e)) - 1)));
      }) where
    abbrev c : ℕ
    c = slice_index s.words (count_word (n.reader e)) - 1

    abbrev d : Deed
    d = Arrived e (slice_index s.words (count_word (n.reader e)) - 1)

    B : (f : Deed → ℕ) → all f (set s.views id (noted v d)) ≡ all f s.views + f d
    B f = all_noted f s.views id v d at

    reached_arrive : ((j : ℕ) (y : View C) → get_elem? (set s.views id (noted v d)) j ≡ some y → y.board ≡ Some a) → Reached {C = C}
        {S = Option C} n a.workers record { words = words'; homes = homes'; views = set s.views id (noted v d) }
    reached_arrive boards = let r = h.reached (old_boards d boards) in
        let arrival : IsArrival {C = C} {S = Option C} n s id e v words' = record { at = at; inner = inner; done = done; new = new; word_is = word_is } in (
          r.0 ++ Arrive (worker_of v) e ∷ [],
          lean_after n r.1 (Arrive (worker_of v) e),
          lean_more n r.0 (Arrive (worker_of v) e) (opening n a.workers) r.1 r.2
              (may_arrive {C = C} {S = Option C} n net a.workers s r.1 r.3 arrival c),
          shows_words {C = C} {S = Option C} n a.workers record { words = words'; homes = s.homes; views = set s.views id (noted v d) }
              (lean_after n r.1 (Arrive (worker_of v) e)) (shows_arrived {C = C} {S = Option C} n net a.workers s r.1 r.3 arrival c)
              words' homes' (λ x l. refl),
        )

    pub whole_arrived : IsWhole wires edge_of key_of a record { words = words'; homes = homes'; views = set s.views id (noted v d) }
    whole_arrived = record {
      kept = kept';
      numbered = numbered' d;
      has_one = each d (λ y. y.board ≡ Some a → 0 < length y.numbers) (h.has_one id v at) h.has_one;
      in_order = λ boards. let o = h.in_order (old_boards d boards) in each d (λ y. IsStrictlyIncreasing y.numbers) (o id v at) o;
      drawn = word_0 ∙ h.drawn ∙ sym (total_ext (λ t. all (starts t) (set s.views id (noted v d)) + all (finishes t)
          (set s.views id (noted v d))) (λ t. all (starts t) s.views + all (finishes t) s.views) (λ t. let x = B (starts t) in
          let y = B (finishes t) in omega arith) (numbers n.tasks));
      stamped_once = λ t. let x = B (starts t) in let y = B (finishes t) in let o = h.stamped_once t in let o0 = o.0 in let o1 = o.1 in
          (omega arith, omega arith);
      start_below = λ k t pos. let p = h.start_below k t (let x = B (finishes_at k t) in omega arith) in
          (p.0, p.1, (let x = B (starts_at p.0 t) in let y = p.2 in omega arith));
      counts_once = λ t l there. let z = B (arrives_with n t l) in let o = h.counts_once t l there in let w = word_is t there in
          let m = h.kept.counted t there in dite (ℕ_discrete (n.reader e) t)
          (λ is. let q = bit_same (n.reader e) t is in
          let same : slice_index s.words (count_word (n.reader e)) ≡ slice_index s.words (count_word t) = ap (λ i. slice_index s.words (count_word i)) is in
          let add : bit ((c == l) && (n.reader e == t)) ≡ bit (slice_index s.words (count_word t) - 1 == l) = last_true (c == l) (n.reader e == t) q
          ∙ ap (λ i. bit (i - 1 == l)) same in
          let less = between_less (slice_index s.words (count_word t)) l (length (n.needs t)) (omega arith) (omega arith) in
          let here : slice_index words' (count_word t) ≡ slice_index s.words (count_word t) - 1 = omega arith in
          let now = ap (λ i. bit (leb i l && ltb l (length (n.needs t)))) here in omega arith)
          (λ ne. let q = bit_apart (n.reader e) t ne in let add = bit_right (c == l) (n.reader e == t) q in
          let same : slice_index words' (count_word t) ≡ slice_index s.words (count_word t) = omega arith in
          let now = ap (λ i. bit (leb i l && ltb l (length (n.needs t)))) same in omega arith);
      seen_between = λ t l there pos. let z = B (saw t l) in let p = h.seen_between t l there (omega arith) in let w = word_is t there in
          let p0 = p.0 in let p1 = p.1 in (omega arith, omega arith);
      arrived_done = λ x. let p = B (arrives x) in let q = B (finishes (n.source x)) in let o = h.arrived_done x in dite (ℕ_discrete e x)
          (λ is. let b = bit_same e x is in let z : all (arrives x) s.views ≡ all (arrives e) s.views = ap (λ i. all (arrives i) s.views) (sym is) in
          let f : all (finishes (n.source x)) s.views ≡ all (finishes (n.source e)) s.views = ap (λ i. all (finishes (n.source i)) s.views)
          (sym is) in let m = all_at (finishes (n.source e)) s.views id v at in omega arith)
          (λ ne. let b = bit_apart e x ne in omega arith);
      after_reads = λ k t x there pos needs. let p = h.after_reads k t x there (let y = B (starts_at k t) in omega arith) needs in
          (p.0, p.1, (let y = B (finishes_at p.0 (n.source x)) in let z = p.2 in omega arith));
      reached = reached_arrive;
    }
      where
        last_true : (x y : Bool) → bit y ≡ 1 → bit (x && y) ≡ bit x
        last_true true y q = q
        last_true false y q = refl
