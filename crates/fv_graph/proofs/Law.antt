-- The law of the core: each task once, after all that it reads; and where all have left, all of them.
use Rattle.std.proofs.Common.{◌≡◌, ℕ, zero, suc, ◌+◌, ◌<◌, Bool, true, false, cond, not, ◌&&◌, List, [], ◌∷◌, ◌++◌, length, get_or}
use Rattle.std.proofs.Common.{refl, sym, ap, ◌∙◌, subst, arith, true≢false, ◌==◌, Option, Some, None, ltb, ltb-true}
use native.Mathlib.Decide.{dec_le}
use mathlib.Core.Logic.{dite}
use Rattle.fv_graph.specs.Tasks.{bit, total}
use Rattle.fv_graph.specs.TasksBeside.{times}
use Rattle.fv_graph.specs.Ends.{is_empty, back_is, front_is, but_back, but_front}
use Rattle.fv_graph.specs.Net.{Net, IsNet}
use Rattle.fv_graph.specs.declared.event.Event.{Event}
use Rattle.fv_graph.specs.declared.event.Event.TheVariants.{Take, Steal, Finish, Arrive, Leave}
use Rattle.fv_graph.specs.Core.{Now, is_run, deque_of, run_of, owes_of, is_done, count_of, is_free, is_legal, after, replayed, opening, takes, is_take}
use Rattle.fv_graph.specs.Law.{AllLeft, CoreLaw}
use Rattle.fv_graph.proofs.lemmas.Counts.{bit_le, bit_same, bit_one, bit_true, bit_false, bit_left, total_at, both_true, total_zero, full, full_total}
use Rattle.fv_graph.proofs.lemmas.EndsLemmas.{times_back, times_front}
use Rattle.fv_graph.specs.Valid.{Valid, runs_it, runs_some}
use Rattle.fv_graph.proofs.Valid.{free_is, waits, most, taking, finishing, arriving, leaving}
use Rattle.fv_graph.proofs.lemmas.Opens.{opens, get_out}

pub retold : (n : Net) (workers : ℕ) (arrived took new : ℕ → ℕ) (amount more : ℕ) (s : Now) → ((t : ℕ) → new t ≡ took t) → more ≡ amount
    → Valid n workers arrived took amount s → Valid n workers arrived new more s
retold n workers arrived took new amount more s e q i = record {
  counts_long = i.counts_long;
  done_long = i.done_long;
  deques_long = i.deques_long;
  runs_long = i.runs_long;
  owes_long = i.owes_long;
  left_long = i.left_long;
  placed = i.placed;
  inside = i.inside;
  edges = i.edges;
  counted = i.counted;
  away = i.away;
  told = λ t. e t ∙ i.told t;
  in_all = q ∙ i.in_all;
}

pub is_run_of : (t : ℕ) (r : Option ℕ) → is_run t r ≡ true → r ≡ Some t
is_run_of t None e = absurd (true≢false (sym e))
is_run_of t (Some u) e = let h : u ≡ t = grind arith in ap Some h

empty_of : {X : Type 0} (xs : List X) → is_empty xs ≡ true → xs ≡ []
empty_of [] e = refl
empty_of (x ∷ xs) e = absurd (true≢false (sym e))

pub some_of : (k : ℕ) → not (k == 0) ≡ true → 0 < k
some_of zero e = absurd (true≢false (sym e))
some_of (suc k) e = omega arith

-- what the invariant becomes at one event
abbrev pub Next : Net → ℕ → (ℕ → ℕ) → ℕ → Event → Now → Type 0
Next n workers took amount e z = (arrived : ℕ → ℕ) × Valid n workers arrived (λ t. took t + takes t e) (amount + is_take e) z

module _ (n : Net) (net : IsNet n) (workers : ℕ) where
  pub steps : (arrived took : ℕ → ℕ) (amount : ℕ) (s : Now) (e : Event) → Valid n workers arrived took amount s → is_legal n s e ≡ true
      → Next n workers took amount e (after n s e)
  steps arrived took amount s (Take w t) i legal =
      let a = both_true (ltb w (length s.runs) && is_free s w) (back_is (deque_of s w) t) legal in
      let b = both_true (ltb w (length s.runs)) (is_free s w) a.0 in
      let hw : w < workers = subst (λ k. w < k) i.runs_long (ltb-true w (length s.runs) b.0) in
      let less = times_back (deque_of s w) t a.1 in
      let some : 0 < times t (deque_of s w) = let o = bit_same t t refl in let l = less t in omega arith in
      (arrived, taking n workers arrived took amount s i w w t (but_back (deque_of s w)) hw hw (free_is s w b.1) some less)
  steps arrived took amount s (Steal w v t) i legal =
      let a = both_true (ltb w (length s.runs) && ltb v (length s.runs) && is_free s w && not (w == v)) (front_is (deque_of s v) t) legal in
      let b = both_true (ltb w (length s.runs) && ltb v (length s.runs) && is_free s w) (not (w == v)) a.0 in
      let c = both_true (ltb w (length s.runs) && ltb v (length s.runs)) (is_free s w) b.0 in
      let d = both_true (ltb w (length s.runs)) (ltb v (length s.runs)) c.0 in
      let hw : w < workers = subst (λ k. w < k) i.runs_long (ltb-true w (length s.runs) d.0) in
      let hv : v < workers = subst (λ k. v < k) i.runs_long (ltb-true v (length s.runs) d.1) in
      let less = times_front (deque_of s v) t a.1 in
      let some : 0 < times t (deque_of s v) = let o = bit_same t t refl in let l = less t in omega arith in
      (arrived, taking n workers arrived took amount s i v w t (but_front (deque_of s v)) hv hw (free_is s w c.1) some less)
  steps arrived took amount s (Finish w t) i legal =
      let a = both_true (ltb w (length s.runs)) (is_run t (run_of s w)) legal in
      let hw : w < workers = subst (λ k. w < k) i.runs_long (ltb-true w (length s.runs) a.0) in (
        arrived,
        retold n workers arrived took (λ x. took x + 0) amount (amount + 0) (after n s (Finish w t)) (λ x. omega arith) (omega arith)
            (finishing n workers arrived took amount s i net w t hw (is_run_of t (run_of s w) a.1)),
      )
  steps arrived took amount s (Arrive w e) i legal =
      let a = both_true (ltb w (length s.runs)) (not (times e (owes_of s w) == 0)) legal in
      let hw : w < workers = subst (λ k. w < k) i.runs_long (ltb-true w (length s.runs) a.0) in
      let next : ℕ → ℕ = λ x. arrived x + bit (x == e) in (
        next,
        retold n workers next took (λ x. took x + 0) amount (amount + 0) (after n s (Arrive w e)) (λ x. omega arith) (omega arith)
            (arriving n workers arrived took amount s i net w e hw (some_of (times e (owes_of s w)) a.1)),
      )
  steps arrived took amount s (Leave w) i legal =
      let a = both_true (ltb w (length s.runs) && is_free s w) (is_empty (deque_of s w)) legal in
      let b = both_true (ltb w (length s.runs)) (is_free s w) a.0 in
      let hw : w < workers = subst (λ k. w < k) i.runs_long (ltb-true w (length s.runs) b.0) in (
        arrived,
        retold n workers arrived took (λ x. took x + 0) amount (amount + 0) (after n s (Leave w)) (λ x. omega arith) (omega arith)
            (leaving n workers arrived took amount s i w hw (free_is s w b.1) (empty_of (deque_of s w) a.1)),
      )

  pub chosen : (b : Bool) (o : Option Now) (z : Now) → cond b o None ≡ Some z → (b ≡ true) × (o ≡ Some z)
  chosen true o z e = (refl, e)
  chosen false o z e = absurd (cc)

  pub replays : (es : List Event) (arrived took : ℕ → ℕ) (amount : ℕ) (s z : Now) → Valid n workers arrived took amount s → replayed n s es ≡ Some z
      → (last : ℕ → ℕ) × Valid n workers last (λ t. took t + total (takes t) es) (amount + total is_take es) z
  replays [] arrived took amount s z i e = let same : s ≡ z = cc in (
    arrived,
    subst (λ (x : Now). Valid n workers arrived (λ t. took t + 0) (amount + 0) x) same
        (retold n workers arrived took (λ x. took x + 0) amount (amount + 0) s (λ x. omega arith) (omega arith) i),
  )
  replays (x ∷ xs) arrived took amount s z i e =
      let c = chosen (is_legal n s x) (replayed n (after n s x) xs) z e in
      let m = steps arrived took amount s x i c.0 in
      let r = replays xs m.0 (λ t. took t + takes t x) (amount + is_take x) (after n s x) z m.1 c.1 in (
        r.0,
        retold n workers r.0 (λ t. took t + takes t x + total (takes t) xs) (λ t. took t + (takes t x + total (takes t) xs))
            (amount + is_take x + total is_take xs) (amount + (is_take x + total is_take xs)) z (λ t. omega arith) (omega arith) r.1,
      )

  -- the state between two parts of the events
  pub between : (xs ys : List Event) (s z : Now) → replayed n s (xs ++ ys) ≡ Some z → (m : Now) × (replayed n s xs ≡ Some m) × (replayed n m ys ≡ Some z)
  between [] ys s z e = (s, refl, e)
  between (x ∷ xs) ys s z e =
      let c = chosen (is_legal n s x) (replayed n (after n s x) (xs ++ ys)) z e in
      let r = between xs ys (after n s x) z c.1 in
      (r.0, subst (λ b. cond b (replayed n (after n s x) xs) None ≡ Some r.0) (sym c.0) r.1, r.2)

  -- where the count is 0, all that the task reads is done
  pub ready_reads : (arrived took : ℕ → ℕ) (amount : ℕ) (s : Now) → Valid n workers arrived took amount s → (t : ℕ) → t < n.tasks → count_of s t ≡ 0
      → (e : ℕ) → 0 < times e (n.needs t) → is_done s (n.source e) ≡ true
  ready_reads arrived took amount s i t there none e some =
      let c = i.counted t there in
      let o = full arrived (most n workers arrived took amount s i) (n.needs t) (omega arith) e some in
      let p = i.edges e in
      (both_true (n.is_inner e) (is_done s (n.source e)) (bit_true (n.is_inner e && is_done s (n.source e)) (omega arith))).1

  -- a task that is taken has the count 0
  pub taken_ready : (arrived took : ℕ → ℕ) (amount : ℕ) (s : Now) → Valid n workers arrived took amount s → (e : Event) → is_legal n s e ≡ true
      → (t : ℕ) → takes t e ≡ 1 → (t < n.tasks) × (count_of s t ≡ 0)
  taken_ready arrived took amount s i (Take w u) legal t is =
      let same = bit_one u t (omega arith) in
      let a = both_true (ltb w (length s.runs) && is_free s w) (back_is (deque_of s w) u) legal in
      let b = both_true (ltb w (length s.runs)) (is_free s w) a.0 in
      let hw : w < workers = subst (λ k. w < k) i.runs_long (ltb-true w (length s.runs) b.0) in
      let some : 0 < times t (deque_of s w) = let l = times_back (deque_of s w) u a.1 t in omega arith in
      waits n workers arrived took amount s i w t hw some
  taken_ready arrived took amount s i (Steal w v u) legal t is =
      let same = bit_one u t (omega arith) in
      let a = both_true (ltb w (length s.runs) && ltb v (length s.runs) && is_free s w && not (w == v)) (front_is (deque_of s v) u) legal in
      let b = both_true (ltb w (length s.runs) && ltb v (length s.runs) && is_free s w) (not (w == v)) a.0 in
      let c = both_true (ltb w (length s.runs) && ltb v (length s.runs)) (is_free s w) b.0 in
      let d = both_true (ltb w (length s.runs)) (ltb v (length s.runs)) c.0 in
      let hv : v < workers = subst (λ k. v < k) i.runs_long (ltb-true v (length s.runs) d.1) in
      let some : 0 < times t (deque_of s v) = let l = times_front (deque_of s v) u a.1 t in omega arith in
      waits n workers arrived took amount s i v t hv some
  taken_ready arrived took amount s i (Finish w u) legal t is = absurd (omega arith)
  taken_ready arrived took amount s i (Arrive w e) legal t is = absurd (omega arith)
  taken_ready arrived took amount s i (Leave w) legal t is = absurd (omega arith)

  -- a task that lies in a deque is not done, and nobody runs it
  lying : (arrived took : ℕ → ℕ) (amount : ℕ) (s : Now) → Valid n workers arrived took amount s → (w t : ℕ) → w < workers → 0 < times t (deque_of s w)
      → (is_done s t ≡ false) × (total (runs_it t) s.runs ≡ 0)
  lying arrived took amount s i w t hw some =
      let k = waits n workers arrived took amount s i w t hw some in
      let p = i.placed t k.0 in
      let a = total_at (times t) s.deques w [] (let l = i.deques_long in omega arith) in
      let b = bit_le (count_of s t == 0) in
      (bit_false (is_done s t) (omega arith), omega arith)

  -- so is one that is taken
  pub fresh_taken : (arrived took : ℕ → ℕ) (amount : ℕ) (s : Now) → Valid n workers arrived took amount s → (e : Event) → is_legal n s e ≡ true
      → (t : ℕ) → takes t e ≡ 1 → (is_done s t ≡ false) × (total (runs_it t) s.runs ≡ 0)
  fresh_taken arrived took amount s i (Take w u) legal t is =
      let same = bit_one u t (omega arith) in
      let a = both_true (ltb w (length s.runs) && is_free s w) (back_is (deque_of s w) u) legal in
      let b = both_true (ltb w (length s.runs)) (is_free s w) a.0 in
      let hw : w < workers = subst (λ k. w < k) i.runs_long (ltb-true w (length s.runs) b.0) in
      lying arrived took amount s i w t hw (let l = times_back (deque_of s w) u a.1 t in omega arith)
  fresh_taken arrived took amount s i (Steal w v u) legal t is =
      let same = bit_one u t (omega arith) in
      let a = both_true (ltb w (length s.runs) && ltb v (length s.runs) && is_free s w && not (w == v)) (front_is (deque_of s v) u) legal in
      let b = both_true (ltb w (length s.runs) && ltb v (length s.runs) && is_free s w) (not (w == v)) a.0 in
      let c = both_true (ltb w (length s.runs) && ltb v (length s.runs)) (is_free s w) b.0 in
      let d = both_true (ltb w (length s.runs)) (ltb v (length s.runs)) c.0 in
      let hv : v < workers = subst (λ k. v < k) i.runs_long (ltb-true v (length s.runs) d.1) in
      lying arrived took amount s i v t hv (let l = times_front (deque_of s v) u a.1 t in omega arith)
  fresh_taken arrived took amount s i (Finish w u) legal t is = absurd (omega arith)
  fresh_taken arrived took amount s i (Arrive w e) legal t is = absurd (omega arith)
  fresh_taken arrived took amount s i (Leave w) legal t is = absurd (omega arith)

  module _ (arrived took : ℕ → ℕ) (amount : ℕ) (z : Now) (i : Valid n workers arrived took amount z) (gone : AllLeft z workers) where
    nothing_lies : (t : ℕ) → total (times t) z.deques ≡ 0
    nothing_lies t = total_zero (times t) z.deques [] (λ w h. ap (times t) (i.away w (gone w (omega (arith, i.deques_long)))).0)

    nothing_runs : (t : ℕ) → total (runs_it t) z.runs ≡ 0
    nothing_runs t = total_zero (runs_it t) z.runs None (λ w h. ap (runs_it t) (i.away w (gone w (omega (arith, i.runs_long)))).1)

    nobody_runs : total runs_some z.runs ≡ 0
    nobody_runs = total_zero runs_some z.runs None (λ w h. ap runs_some (i.away w (gone w (omega (arith, i.runs_long)))).1)

    nothing_owed : (e : ℕ) → total (times e) z.owes ≡ 0
    nothing_owed e = total_zero (times e) z.owes [] (λ w h. ap (times e) (i.away w (gone w (omega (arith, i.owes_long)))).2)

    done_below : (k t : ℕ) → t < k → t < n.tasks → is_done z t ≡ true
    done_below zero t h there = absurd (omega arith)
    done_below (suc k) t h there =
        let each : (e : ℕ) → 0 < times e (n.needs t) → arrived e ≡ 1 = λ e some.
        let o = net.needs_once t e there in
        let b = both_true (n.is_inner e) (n.reader e == t) (bit_true (n.is_inner e && (n.reader e == t)) (omega arith)) in
        let r : n.reader e ≡ t = bit_one (n.reader e) t (let q : bit (n.reader e == t) ≡ 1 = ap bit b.1 in omega arith) in
        let up = net.rises e b.0 in
        let d = done_below k (n.source e) (omega arith) (omega arith) in
        let p = i.edges e in
        let no = nothing_owed e in
        let q : bit (n.is_inner e && is_done z (n.source e)) ≡ 1 = bit_left (n.is_inner e) (is_done z (n.source e)) b.0 ∙ ap bit d in omega arith in
        let f = full_total arrived (n.needs t) each in
        let c = i.counted t there in
        let none : count_of z t ≡ 0 = omega arith in
        let p = i.placed t there in
        let l = nothing_lies t in
        let r = nothing_runs t in
        let q = bit_same (count_of z t) 0 none in
        bit_true (is_done z t) (omega arith)

    pub all_are_done : (t : ℕ) → t < n.tasks → is_done z t ≡ true
    all_are_done t there = done_below (suc t) t (omega arith) there

    total_ones : (xs : List Bool) → ((k : ℕ) → k < length xs → get_or xs k false ≡ true) → total bit xs ≡ length xs
    total_ones [] h = refl
    total_ones (x ∷ xs) h = let a : bit x ≡ 1 = ap bit (h 0 (omega arith)) in let r = total_ones xs (λ k l. h (suc k) (omega arith)) in omega arith

    pub as_many_taken : amount ≡ n.tasks
    as_many_taken = let a = i.in_all in let r = nobody_runs in let o = total_ones z.done (λ k h. all_are_done k (omega (arith, i.done_long))) in
        let l = i.done_long in omega arith

  pub core_law : (events : List Event) (z : Now) → 0 < workers → replayed n (opening n workers) events ≡ Some z → CoreLaw n workers events z
  core_law events z some e =
      let r = replays events (λ _. 0) (λ _. 0) 0 (opening n workers) z (opens n workers some) e in
      record {
        once = λ t. let told = r.1.told t in
            dite (dec_le n.tasks t)
            (λ out. let a = r.1.inside t out in let b : bit (is_done z t) ≡ 0 = ap bit (get_out z.done t false (omega (arith, r.1.done_long))) in omega arith)
            (λ here. let p = r.1.placed t (omega arith) in let b = bit_le (count_of z t == 0) in omega arith);
        after_reads = λ before rest x t is one.
            let m = between before (x ∷ rest) (opening n workers) z (subst (λ (l : List Event). replayed n (opening n workers) l ≡ Some z) is e) in
            let s = replays before (λ _. 0) (λ _. 0) 0 (opening n workers) m.0 (opens n workers some) m.1 in
            let c = chosen (is_legal n m.0 x) (replayed n (after n m.0 x) rest) z m.2 in
            let k = taken_ready s.0 (λ u. 0 + total (takes u) before) (0 + total is_take before) m.0 s.1 x c.0 t one in
            (k.0, (m.0, m.1, ready_reads s.0 (λ u. 0 + total (takes u) before) (0 + total is_take before) m.0 s.1 t k.0 k.1));
        all_done = λ gone. all_are_done r.0 (λ u. 0 + total (takes u) events) (0 + total is_take events) z r.1 gone;
        as_many = λ gone. let a = as_many_taken r.0 (λ u. 0 + total (takes u) events) (0 + total is_take events) z r.1 gone in omega arith;
      }
