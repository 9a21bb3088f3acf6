-- When an event is legal, by what the code looks at; and what a legal event finds.
use Rattle.std.proofs.Common.{◌≡◌, ℕ, ◌<◌, Bool, true, false, ◌&&◌, not, List, [], ◌∷◌, length, get_or, Option, Some, None}
use Rattle.std.proofs.Common.{is_none, is_some, refl, sym, ap, ◌∙◌, subst, arith, ltb, lt-ltb, true≢false, ◌==◌}
use mathlib.Core.Logic.{dite}
use native.Mathlib.Decide.{dec_le}
use Rattle.fv_graph.specs.Tasks.{Tasks}
use Rattle.fv_graph.specs.TasksBeside.{times, task_count}
use Rattle.fv_graph.specs.Net.{Net}
use Rattle.fv_graph.specs.Graph.{IsGraph, net_of}
use Rattle.fv_graph.proofs.lemmas.Counts.{both_true, both_of, bit_same, bools_agree}
use Rattle.fv_graph.proofs.lemmas.Graphs.{is_net}
use Rattle.fv_graph.proofs.lemmas.ReadsLemmas.{source_found}
use Rattle.fv_graph.specs.Ends.{is_empty, back_is, back_of, front_is, front_of}
use Rattle.fv_graph.specs.Core.{Now, is_run, deque_of, run_of, owes_of, is_done, is_free, is_legal, after, takes}
use Rattle.fv_graph.specs.Ready.{TakesReady, FindsReady}
use Rattle.fv_graph.specs.Law.{AllLeft}
use Rattle.fv_graph.specs.declared.event.Event.{Event}
use Rattle.fv_graph.specs.declared.event.Event.TheVariants.{Take, Steal, Finish, Arrive, Leave}
use Rattle.fv_graph.specs.Valid.{IsValid, arrived_of, took_of, amount_of}
use Rattle.fv_graph.specs.Running.{Running, IsRunning}
use Rattle.fv_graph.proofs.lemmas.Opens.{get_out}
use Rattle.fv_graph.proofs.Stepping.{valid_after}
use Rattle.fv_graph.proofs.Law.{taken_ready, fresh_taken, ready_reads, all_are_done}

back_named : (xs : List ℕ) (t : ℕ) → is_run t (back_of xs) ≡ back_is xs t
back_named [] t = refl
back_named (x ∷ []) t = refl
back_named (x ∷ y ∷ ys) t = back_named (y ∷ ys) t

front_named : (xs : List ℕ) (t : ℕ) → is_run t (front_of xs) ≡ front_is xs t
front_named [] t = refl
front_named (x ∷ xs) t = refl

no_back : (xs : List ℕ) → is_none (back_of xs) ≡ is_empty xs
no_back [] = refl
no_back (x ∷ []) = refl
no_back (x ∷ y ∷ ys) = no_back (y ∷ ys)

-- what is not as where nothing is stands in the list
there : {X : Type 0} (xs : List X) (w : ℕ) (d : X) (P : X → Type 0) → (P d → ⊥) → P (get_or xs w d) → w < length xs
there xs w d P not_d p = dite (dec_le (length xs) w) (λ l. absurd (not_d (subst P (get_out xs w d l) p))) (λ l. omega arith)

pub none_from : (o : Option ℕ) (b : Bool) → is_some o ≡ not b → b ≡ is_none o
none_from None true h = refl
none_from None false h = absurd (true≢false (sym h))
none_from (Some x) true h = absurd (true≢false h)
none_from (Some x) false h = refl

module _ (n : Net) (workers : ℕ) (s : Now) (i : IsValid n workers s) where
  is_there : (w : ℕ) → w < workers → ltb w (length s.runs) ≡ true
  is_there w h = lt-ltb w (length s.runs) (let l = i.runs_long in omega arith)

  free_there : (w : ℕ) → is_free s w ≡ true → w < workers
  free_there w e =
      let a = both_true (not (get_or s.left w true) && is_none (run_of s w)) (is_empty (owes_of s w)) e in
      let b = both_true (not (get_or s.left w true)) (is_none (run_of s w)) a.0 in
      let l = there s.left w true (λ b. not b ≡ true) (λ q. true≢false (sym q)) b.0 in let k = i.left_long in omega arith

  run_there : (w t : ℕ) → is_run t (run_of s w) ≡ true → w < workers
  run_there w t e = let l = there s.runs w None (λ r. is_run t r ≡ true) (λ q. true≢false (sym q)) e in let k = i.runs_long in omega arith

  owe_there : (w e : ℕ) → not (times e (owes_of s w) == 0) ≡ true → w < workers
  owe_there w e h = let l = there s.owes w [] (λ xs. not (times e xs == 0) ≡ true) (λ q. true≢false (sym q)) h in let k = i.owes_long in omega arith

  front_there : (v t : ℕ) → front_is (deque_of s v) t ≡ true → v < workers
  front_there v t h = let l = there s.deques v [] (λ xs. front_is xs t ≡ true) (λ q. true≢false (sym q)) h in let k = i.deques_long in omega arith

  pub take_legal : (w t : ℕ) → (is_free s w && is_run t (back_of (deque_of s w))) ≡ is_legal n s (Take w t)
  take_legal w t = ap (λ b. is_free s w && b) (back_named (deque_of s w) t)
      ∙ bools_agree (is_free s w && back_is (deque_of s w) t) (is_legal n s (Take w t))
      (λ h. let a = both_true (is_free s w) (back_is (deque_of s w) t) h in
      both_of (ltb w (length s.runs) && is_free s w) (back_is (deque_of s w) t)
      (both_of (ltb w (length s.runs)) (is_free s w) (is_there w (free_there w a.0)) a.0) a.1)
      (λ h. let a = both_true (ltb w (length s.runs) && is_free s w) (back_is (deque_of s w) t) h in
      both_of (is_free s w) (back_is (deque_of s w) t) (both_true (ltb w (length s.runs)) (is_free s w) a.0).1 a.1)

  pub steal_legal : (w v t : ℕ) → (is_free s w && not (w == v) && is_run t (front_of (deque_of s v))) ≡ is_legal n s (Steal w v t)
  steal_legal w v t = ap (λ b. is_free s w && not (w == v) && b) (front_named (deque_of s v) t)
      ∙ bools_agree (is_free s w && not (w == v) && front_is (deque_of s v) t) (is_legal n s (Steal w v t))
      (λ h. let a = both_true (is_free s w && not (w == v)) (front_is (deque_of s v) t) h in let b = both_true (is_free s w) (not (w == v)) a.0 in
      both_of (ltb w (length s.runs) && ltb v (length s.runs) && is_free s w && not (w == v)) (front_is (deque_of s v) t)
      (both_of (ltb w (length s.runs) && ltb v (length s.runs) && is_free s w) (not (w == v))
      (both_of (ltb w (length s.runs) && ltb v (length s.runs)) (is_free s w)
      (both_of (ltb w (length s.runs)) (ltb v (length s.runs)) (is_there w (free_there w b.0)) (is_there v (front_there v t a.1))) b.0) b.1) a.1)
      (λ h. let a = both_true (ltb w (length s.runs) && ltb v (length s.runs) && is_free s w && not (w == v)) (front_is (deque_of s v) t) h in
      let b = both_true (ltb w (length s.runs) && ltb v (length s.runs) && is_free s w) (not (w == v)) a.0 in
      both_of (is_free s w && not (w == v)) (front_is (deque_of s v) t)
      (both_of (is_free s w) (not (w == v)) (both_true (ltb w (length s.runs) && ltb v (length s.runs)) (is_free s w) b.0).1 b.1) a.1)

  pub finish_legal : (w t : ℕ) → is_run t (run_of s w) ≡ is_legal n s (Finish w t)
  finish_legal w t = bools_agree (is_run t (run_of s w)) (is_legal n s (Finish w t))
      (λ h. both_of (ltb w (length s.runs)) (is_run t (run_of s w)) (is_there w (run_there w t h)) h)
      (λ h. (both_true (ltb w (length s.runs)) (is_run t (run_of s w)) h).1)

  pub arrive_legal : (w e : ℕ) → not (times e (owes_of s w) == 0) ≡ is_legal n s (Arrive w e)
  arrive_legal w e = bools_agree (not (times e (owes_of s w) == 0)) (is_legal n s (Arrive w e))
      (λ h. both_of (ltb w (length s.runs)) (not (times e (owes_of s w) == 0)) (is_there w (owe_there w e h)) h)
      (λ h. (both_true (ltb w (length s.runs)) (not (times e (owes_of s w) == 0)) h).1)

  pub leave_legal : (w : ℕ) → (is_free s w && is_none (back_of (deque_of s w))) ≡ is_legal n s (Leave w)
  leave_legal w = ap (λ b. is_free s w && b) (no_back (deque_of s w))
      ∙ bools_agree (is_free s w && is_empty (deque_of s w)) (is_legal n s (Leave w))
      (λ h. let a = both_true (is_free s w) (is_empty (deque_of s w)) h in
      both_of (ltb w (length s.runs) && is_free s w) (is_empty (deque_of s w))
      (both_of (ltb w (length s.runs)) (is_free s w) (is_there w (free_there w a.0)) a.0) a.1)
      (λ h. let a = both_true (ltb w (length s.runs) && is_free s w) (is_empty (deque_of s w)) h in
      both_of (is_free s w) (is_empty (deque_of s w)) (both_true (ltb w (length s.runs)) (is_free s w) a.0).1 a.1)

-- what a task that is taken finds
module _ (g : Tasks) (ig : IsGraph g) (workers : ℕ) (s : Now) (i : IsValid (net_of g) workers s) where
  takes_ready : (e : Event) (t : ℕ) → is_legal (net_of g) s e ≡ true → takes t e ≡ 1 → TakesReady g s t
  takes_ready e t legal one =
      let n = net_of g in
      let k = taken_ready n (is_net g ig) workers (arrived_of n s) (took_of s) (amount_of s) s i e legal t one in
      record {
        within = k.0;
        fresh = (fresh_taken n (is_net g ig) workers (arrived_of n s) (took_of s) (amount_of s) s i e legal t one).0;
        reads = λ u h r. let f = source_found g ig t u k.0 h r in
            subst (λ x. is_done s x ≡ true) f.2 (ready_reads n (is_net g ig) workers (arrived_of n s) (took_of s) (amount_of s) s i t k.0 k.1 f.0 f.1);
      }

  pub finds_ready : (e : Event) → is_legal (net_of g) s e ≡ true → FindsReady g s e
  finds_ready (Take w t) legal = takes_ready (Take w t) t legal (bit_same t t refl)
  finds_ready (Steal w v t) legal = takes_ready (Steal w v t) t legal (bit_same t t refl)
  finds_ready (Finish w t) legal = tt
  finds_ready (Arrive w e) legal = tt
  finds_ready (Leave w) legal = tt

  pub all_done : AllLeft s workers → (t : ℕ) → t < task_count g → is_done s t ≡ true
  all_done gone t h = all_are_done (net_of g) (is_net g ig) workers (arrived_of (net_of g) s) (took_of s) (amount_of s) s i gone t h

-- of a core as contracts see it
pub after_running : (r : Running) (e : Event) → IsRunning r → is_legal (net_of r.tasks) r.now e ≡ true
    → IsRunning (record r { now = after (net_of r.tasks) r.now e })
after_running r e i legal = record { graph = i.graph; valid = valid_after (net_of r.tasks) (is_net r.tasks i.graph) r.workers r.now e i.valid legal }

pub running_ready : (r : Running) (e : Event) → IsRunning r → is_legal (net_of r.tasks) r.now e ≡ true → FindsReady r.tasks r.now e
running_ready r e i legal = finds_ready r.tasks i.graph r.workers r.now i.valid e legal

pub running_done : (r : Running) → IsRunning r → AllLeft r.now r.workers → (t : ℕ) → t < task_count r.tasks → is_done r.now t ≡ true
running_done r i gone t h = all_done r.tasks i.graph r.workers r.now i.valid gone t h
