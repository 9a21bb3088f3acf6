-- The invariant of the core, and that each legal event keeps it.
use Rattle.std.proofs.Common.{◌≡◌, ℕ, ◌+◌, ◌-◌, ◌<◌, ◌≤◌, Bool, true, false, cond, not, ◌&&◌, List, [], ◌∷◌, ◌++◌, length, get_or, set}
use Rattle.std.proofs.Common.{refl, sym, ap, ◌∙◌, subst, arith, true≢false, ◌==◌, Option, Some, None, is_none, length-set, eq-eqb}
use mathlib.Core.Logic.{dite}
use native.Mathlib.Decide.{ℕ_discrete}
use Rattle.fv_graph.specs.Tasks.{bit}
use Rattle.fv_graph.specs.TasksBeside.{times}
use Rattle.fv_graph.specs.Ends.{without, is_empty}
use Rattle.fv_graph.specs.Net.{Net, IsNet}
use Rattle.fv_graph.specs.declared.event.Event.TheVariants.{Arrive}
use Rattle.fv_graph.specs.Core.{Now, is_run, deque_of, run_of, owes_of, is_done, count_of, is_free, joined, after}
use Rattle.fv_graph.specs.Valid.{Valid, runs_it, runs_some}
use Rattle.fv_graph.proofs.lemmas.Counts.{bit_le, bit_same, bit_apart, bit_swap, bit_one, bit_true, bit_false, bit_left, bit_right, bit_wide, bit_both}
use Rattle.fv_graph.proofs.lemmas.Counts.{both_true, not_true, total_set, total_at, total_append, total_add, get_set, done_set, count_set, spare}
use Rattle.fv_graph.proofs.lemmas.EndsLemmas.{times_without}

pub record Free (s : Now) (w : ℕ) : Type 0 where
  pub here : get_or s.left w true ≡ false
  pub idle : run_of s w ≡ None
  pub clear : owes_of s w ≡ []

none_is : (r : Option ℕ) → is_none r ≡ true → r ≡ None
none_is None e = refl
none_is (Some t) e = absurd (true≢false (sym e))

empty_is : {X : Type 0} (xs : List X) → is_empty xs ≡ true → xs ≡ []
empty_is [] e = refl
empty_is (x ∷ xs) e = absurd (true≢false (sym e))

pub free_is : (s : Now) (w : ℕ) → is_free s w ≡ true → Free s w
free_is s w e = let a = both_true _ (is_empty (owes_of s w)) e in let b = both_true (not (get_or s.left w true)) (is_none (run_of s w)) a.0 in
    record { here = not_true (get_or s.left w true) b.0; idle = none_is (run_of s w) b.1; clear = empty_is (owes_of s w) a.1 }

-- a worker whose place is not away has not left
pub stays : {X : Type 0} (left : List Bool) (xs : List X) (d : X) (w : ℕ) (y : X) → w < length xs → get_or left w true ≡ false → (v : ℕ)
    → get_or left v true ≡ true → get_or xs v d ≡ d → get_or (set xs w y) v d ≡ d
stays left xs d w y h here v gone was =
    get_set (λ z. z ≡ d) xs w v y d h (λ e. absurd (true≢false (sym (ap (λ k. get_or left k true) (sym e) ∙ gone) ∙ here))) (λ _. was)

joined_times : (b : Bool) (t : ℕ) (d : List ℕ) (x : ℕ) → times x (cond b (d ++ t ∷ []) d) ≡ times x d + bit (b && (t == x))
joined_times true t d x = let r = total_append (λ y. bit (y == x)) d (t ∷ []) in omega arith
joined_times false t d x = omega arith

-- a count that falls by one is 0 where it was, and where it was 1
zero_set : (counts : List ℕ) (r : ℕ) → r < length counts → 0 < get_or counts r 1 → (x : ℕ)
    → bit (get_or (set counts r (get_or counts r 1 - 1)) x 1 == 0) ≡ bit (get_or counts x 1 == 0) + bit ((get_or counts r 1 - 1 == 0) && (r == x))
zero_set counts r h some x = get_set (λ k. bit (k == 0) ≡ bit (get_or counts x 1 == 0) + bit ((get_or counts r 1 - 1 == 0) && (r == x))) counts r x
    (get_or counts r 1 - 1) 1 h
    (λ e. let same : get_or counts x 1 ≡ get_or counts r 1 = ap (λ k. get_or counts k 1) e in let z = bit_apart (get_or counts x 1) 0 (λ q. omega arith) in
    let o = bit_wide (get_or counts r 1 - 1 == 0) (r == x) (bit_same r x (sym e)) in omega arith)
    (λ n. let z = bit_right (get_or counts r 1 - 1 == 0) (r == x) (bit_apart r x (λ q. n (sym q))) in omega arith)

not_away : (b : Bool) → (b ≡ true → b ≡ false) → b ≡ false
not_away true f = f refl
not_away false f = refl

module _ (n : Net) (workers : ℕ) (arrived took : ℕ → ℕ) (amount : ℕ) (s : Now) (i : Valid n workers arrived took amount s) where
  -- a task that lies in a deque is there, and has the count 0
  pub waits : (w t : ℕ) → w < workers → 0 < times t (deque_of s w) → (t < n.tasks) × (count_of s t ≡ 0)
  waits w t h some = let a = total_at (times t) s.deques w [] (subst (λ k. w < k) (sym i.deques_long) h) in
      dite (native.Mathlib.Decide.dec_le n.tasks t)
      (λ out. let z = i.inside t out in absurd (omega arith))
      (λ no. let l : t < n.tasks = omega arith in let p = i.placed t l in (l, sym (sym (bit_one (count_of s t) 0 (omega arith)))))

  -- a worker whose deque holds something has not left
  pub holder : (w t : ℕ) → 0 < times t (deque_of s w) → get_or s.left w true ≡ false
  holder w t some = not_away (get_or s.left w true) (λ gone. let z = ap (times t) (i.away w gone).0 in absurd (omega arith))

  pub ower : (w e : ℕ) → 0 < times e (owes_of s w) → get_or s.left w true ≡ false
  ower w e some = not_away (get_or s.left w true) (λ gone. let z = ap (times e) (i.away w gone).2 in absurd (omega arith))

  pub runner : (w t : ℕ) → is_run t (run_of s w) ≡ true → get_or s.left w true ≡ false
  runner w t is = not_away (get_or s.left w true) (λ gone. let z = ap (is_run t) (i.away w gone).1 in absurd (true≢false (sym is ∙ z)))

  -- the worker w takes t, which then leaves the deque of v
  pub taking : (v w t : ℕ) (d : List ℕ) → v < workers → w < workers → Free s w → 0 < times t (deque_of s v)
      → ((x : ℕ) → times x d + bit (t == x) ≡ times x (deque_of s v))
      → Valid n workers arrived (λ x. took x + bit (t == x)) (amount + 1) (record s { deques = set s.deques v d; runs = set s.runs w (Some t) })
  taking v w t d hv hw free some less =
      let vd : v < length s.deques = subst (λ k. v < k) (sym i.deques_long) hv in
      let wr : w < length s.runs = subst (λ k. w < k) (sym i.runs_long) hw in
      let there = waits v t hv some in
      record {
        counts_long = i.counts_long;
        done_long = i.done_long;
        deques_long = length-set s.deques v d ∙ i.deques_long;
        runs_long = length-set s.runs w (Some t) ∙ i.runs_long;
        owes_long = i.owes_long;
        left_long = i.left_long;
        placed = λ x h. let a = total_set (times x) s.deques v d [] vd in let b = total_set (runs_it x) s.runs w (Some t) None wr in let l = less x in
            let z : runs_it x (get_or s.runs w None) ≡ 0 = ap (runs_it x) free.idle in let p = i.placed x h in omega arith;
        inside = λ x h. let a = total_set (times x) s.deques v d [] vd in let b = total_set (runs_it x) s.runs w (Some t) None wr in let l = less x in
            let z : runs_it x (get_or s.runs w None) ≡ 0 = ap (runs_it x) free.idle in let p = i.inside x h in
            let o = bit_apart t x (λ e. let k = there.0 in omega arith) in omega arith;
        edges = i.edges;
        counted = i.counted;
        away = λ u gone. let a = i.away u gone in
            (stays s.left s.deques [] v d vd (holder v t some) u gone a.0, stays s.left s.runs None w (Some t) wr free.here u gone a.1, a.2);
        told = λ x. let b = total_set (runs_it x) s.runs w (Some t) None wr in let z : runs_it x (get_or s.runs w None) ≡ 0 = ap (runs_it x) free.idle in
            let p = i.told x in omega arith;
        in_all = let b = total_set runs_some s.runs w (Some t) None wr in let z : runs_some (get_or s.runs w None) ≡ 0 = ap runs_some free.idle in
            let p = i.in_all in omega arith;
      }

  pub most : (x : ℕ) → arrived x ≤ 1
  most x = let p = i.edges x in let b = bit_le (n.is_inner x && is_done s (n.source x)) in omega arith

  pub ran : (w t : ℕ) → w < length s.runs → run_of s w ≡ Some t → t < n.tasks
  ran w t wr runs = dite (native.Mathlib.Decide.dec_le n.tasks t)
      (λ out. let p = i.inside t out in let a = total_at (runs_it t) s.runs w None wr in
      let l : runs_it t (get_or s.runs w None) ≡ 1 = ap (runs_it t) runs ∙ bit_same t t refl in absurd (omega arith))
      (λ no. omega arith)

  pub not_done : (w t : ℕ) → w < length s.runs → run_of s w ≡ Some t → t < n.tasks → is_done s t ≡ false
  not_done w t wr runs there = let p = i.placed t there in let a = total_at (runs_it t) s.runs w None wr in
      let l : runs_it t (get_or s.runs w None) ≡ 1 = ap (runs_it t) runs ∙ bit_same t t refl in
      let b = bit_le (count_of s t == 0) in bit_false (is_done s t) (omega arith)

  -- an owed edge is an inner one, which has not arrived
  pub owed : (w e : ℕ) → w < length s.owes → 0 < times e (owes_of s w) → (n.is_inner e ≡ true) × (arrived e ≡ 0)
  owed w e wo some = let p = i.edges e in let a = total_at (times e) s.owes w [] wo in let b = bit_le (n.is_inner e && is_done s (n.source e)) in
      ((both_true (n.is_inner e) (is_done s (n.source e)) (bit_true (n.is_inner e && is_done s (n.source e)) (omega arith))).0, omega arith)

  -- the worker w has run t
  pub finishing : IsNet n → (w t : ℕ) → w < workers → run_of s w ≡ Some t
      → Valid n workers arrived took amount (record s { done = set s.done t true; runs = set s.runs w None; owes = set s.owes w (owes_of s w ++ n.feeds t) })
  finishing net w t hw runs =
      let wr : w < length s.runs = subst (λ k. w < k) (sym i.runs_long) hw in
      let wo : w < length s.owes = subst (λ k. w < k) (sym i.owes_long) hw in
      let it : (x : ℕ) → runs_it x (get_or s.runs w None) ≡ bit (t == x) = λ x. ap (runs_it x) runs in
      let here = runner w t (ap (is_run t) runs ∙ eq-eqb t t refl) in
      let there : t < n.tasks = ran w t wr runs in
      let was : is_done s t ≡ false = not_done w t wr runs there in
      let td : t < length s.done = subst (λ k. t < k) (sym i.done_long) there in
      record {
        counts_long = i.counts_long;
        done_long = length-set s.done t true ∙ i.done_long;
        deques_long = i.deques_long;
        runs_long = length-set s.runs w None ∙ i.runs_long;
        owes_long = length-set s.owes w (owes_of s w ++ n.feeds t) ∙ i.owes_long;
        left_long = i.left_long;
        placed = λ x h. let b = total_set (runs_it x) s.runs w None None wr in let l = it x in let q = done_set s.done t td was x in let sw = bit_swap t x in
            let p = i.placed x h in omega arith;
        inside = λ x h. let b = total_set (runs_it x) s.runs w None None wr in let p = i.inside x h in omega arith;
        edges = λ x. let a = total_set (times x) s.owes w (owes_of s w ++ n.feeds t) [] wo in
            let c = total_append (λ y. bit (y == x)) (owes_of s w) (n.feeds t) in
            let f = net.feeds_once t x there in
            let q = bit_both (n.is_inner x) (get_or (set s.done t true) (n.source x) false) (is_done s (n.source x)) (n.source x == t)
            (done_set s.done t td was (n.source x)) in
            let p = i.edges x in omega arith;
        counted = i.counted;
        away = λ u gone. let a = i.away u gone in
            (a.0, stays s.left s.runs None w None wr here u gone a.1, stays s.left s.owes [] w (owes_of s w ++ n.feeds t) wo here u gone a.2);
        told = λ x. let b = total_set (runs_it x) s.runs w None None wr in let l = it x in let q = done_set s.done t td was x in let sw = bit_swap t x in
            let p = i.told x in omega arith;
        in_all = let b = total_set runs_some s.runs w None None wr in let l : runs_some (get_or s.runs w None) ≡ 1 = ap runs_some runs in
            let q = total_set bit s.done t true false td in
            let z : bit (get_or s.done t false) ≡ 0 = ap bit was in let p = i.in_all in omega arith;
      }

  -- the edge arrives
  pub arriving : IsNet n → (w e : ℕ) → w < workers → 0 < times e (owes_of s w)
      → Valid n workers (λ x. arrived x + bit (x == e)) took amount (after n s (Arrive w e))
  arriving net w e hw some =
      let r = n.reader e in
      let c = count_of s r in
      let wd : w < length s.deques = subst (λ k. w < k) (sym i.deques_long) hw in
      let wo : w < length s.owes = subst (λ k. w < k) (sym i.owes_long) hw in
      let here = ower w e some in
      let known = owed w e wo some in
      let rt : r < n.tasks = (net.rises e known.0).1 in
      let rc : r < length s.counts = subst (λ k. r < k) (sym i.counts_long) rt in
      let once : (x : ℕ) → x < n.tasks → times e (n.needs x) ≡ bit (r == x) = λ x h. net.needs_once x e h ∙ bit_left (n.is_inner e) (r == x) known.0 in
      let high : 0 < c = let sp = spare arrived most e known.1 (n.needs r) in let o = once r rt in let q = bit_same r r refl in
      let p = i.counted r rt in omega arith in
      record {
        counts_long = length-set s.counts r (c - 1) ∙ i.counts_long;
        done_long = i.done_long;
        deques_long = length-set s.deques w (joined r (c - 1) (deque_of s w)) ∙ i.deques_long;
        runs_long = i.runs_long;
        owes_long = length-set s.owes w (without e (owes_of s w)) ∙ i.owes_long;
        left_long = i.left_long;
        placed = λ x h. let a = total_set (times x) s.deques w (joined r (c - 1) (deque_of s w)) [] wd in
            let j = joined_times (c - 1 == 0) r (deque_of s w) x in
            let q = zero_set s.counts r rc high x in let p = i.placed x h in omega arith;
        inside = λ x h. let a = total_set (times x) s.deques w (joined r (c - 1) (deque_of s w)) [] wd in
            let j = joined_times (c - 1 == 0) r (deque_of s w) x in
            let z = bit_right (c - 1 == 0) (r == x) (bit_apart r x (λ q. omega arith)) in let p = i.inside x h in omega arith;
        edges = λ x. let a = total_set (times x) s.owes w (without e (owes_of s w)) [] wo in let o = times_without (owes_of s w) e some x in
            let sw = bit_swap e x in let p = i.edges x in omega arith;
        counted = λ x h. let a = count_set s.counts r rc high x in let t = total_add arrived (λ y. bit (y == e)) (n.needs x) in let o = once x h in
            let p = i.counted x h in omega arith;
        away = λ u gone. let a = i.away u gone in (
          stays s.left s.deques [] w (joined r (c - 1) (deque_of s w)) wd here u gone a.0,
          a.1,
          stays s.left s.owes [] w (without e (owes_of s w)) wo here u gone a.2,
        );
        told = i.told;
        in_all = i.in_all;
      }

  pub leaving : (w : ℕ) → w < workers → Free s w → deque_of s w ≡ [] → Valid n workers arrived took amount (record s { left = set s.left w true })
  leaving w hw free nothing = record {
    counts_long = i.counts_long;
    done_long = i.done_long;
    deques_long = i.deques_long;
    runs_long = i.runs_long;
    owes_long = i.owes_long;
    left_long = length-set s.left w true ∙ i.left_long;
    placed = i.placed;
    inside = i.inside;
    edges = i.edges;
    counted = i.counted;
    away = λ u gone. dite (ℕ_discrete u w)
        (λ e. subst (λ k. (deque_of s k ≡ []) × (run_of s k ≡ None) × (owes_of s k ≡ [])) (sym e) (nothing, free.idle, free.clear))
        (λ ne. i.away u (get_set (λ b. b ≡ true → get_or s.left u true ≡ true) s.left w u true true (subst (λ k. w < k) (sym i.left_long) hw)
        (λ e _. absurd (ne e)) (λ _ h. h) gone));
    told = i.told;
    in_all = i.in_all;
  }
