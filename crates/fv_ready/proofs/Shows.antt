-- A won claim is a Take of the lean core.
use Rattle.std.proofs.Common.{length-set, ◌≡◌, ◌≢◌, ℕ, zero, suc, ◌+◌, ◌<◌, Bool, true, false, cond, not, ◌&&◌, ◌||◌, List, [], ◌∷◌, ◌++◌, length}
use Rattle.std.proofs.Common.{get_or, set, slice_index, refl, sym, ap, ◌∙◌, subst, arith, ◌==◌, eq-eqb, lt-ltb, ltb, true≢false, Option, Some, None, is_none}
use mathlib.Core.Option.{some}
use lib.ListN.{get_elem?}
use Rattle.atomic_table.specs.Table.{State}
use Rattle.fv_graph.specs.Tasks.{bit, total}
use Rattle.fv_graph.specs.TasksBeside.{times}
use Rattle.fv_graph.specs.Ends.{is_empty}
use Rattle.fv_graph.specs.Net.{Net}
use Rattle.fv_graph.specs.Core.{Now, is_run, run_of, owes_of, is_done, count_of, is_free, opening}
use Rattle.fv_graph.specs.Lean.{is_taken, is_lean_legal, lean_after, lean_replayed}
use Rattle.fv_graph.specs.declared.event.Event.{Event}
use Rattle.fv_graph.specs.declared.event.Event.TheVariants.{Take}
use Rattle.fv_graph.proofs.lemmas.Counts.{bit_same, total_set, total_append, get_set}
use Rattle.fv_graph.proofs.lemmas.Counts.{bit_false}
use Rattle.fv_ready.specs.declared.view.Deed.TheVariants.{Claimed}
use Rattle.fv_ready.specs.declared.view.View.{View}
use Rattle.fv_ready.specs.Rule.{count_word, wins, arrives, finishes, done_by, all, noted}
use Rattle.fv_ready.specs.Shown.{worker_of, ShowsSeat, Shows, Reached, OwesNothing}
use Rattle.fv_ready.proofs.Noted.{shows_noted}

none_runs : (r : Option ℕ) → ((t : ℕ) → bit (is_run t r) ≡ 0) → r ≡ None
none_runs None h = refl
none_runs (Some u) h = let o = bit_same u u refl in let z = h u in absurd (omega arith)

none_owed : (xs : List ℕ) → ((e : ℕ) → times e xs ≡ 0) → xs ≡ []
none_owed [] h = refl
none_owed (x ∷ xs) h = let o = bit_same x x refl in let z = h x in absurd (omega arith)

by_test : (b : Bool) (o p : Option Now) (z y : Now) → cond b o None ≡ Some z → (o ≡ Some z → p ≡ Some y) → cond b p None ≡ Some y
by_test true o p z y e f = f e
by_test false o p z y e f = absurd (cc)

all_five : (a b c d e : Bool) → a ≡ true → b ≡ true → c ≡ true → d ≡ true → e ≡ true → (a && b && c && d && e) ≡ true
all_five true true true true e p q r s t = t
all_five false b c d e p q r s t = p
all_five true false c d e p q r s t = q
all_five true true false d e p q r s t = r
all_five true true true false e p q r s t = s

free_of : (l : Bool) (r : Option ℕ) (o : List ℕ) → l ≡ false → r ≡ None → o ≡ [] → (not l && is_none r && is_empty o) ≡ true
free_of true r o a b c = absurd (true≢false a)
free_of false None [] a b c = refl
free_of false (Some t) o a b c = absurd (cc)
free_of false None (x ∷ xs) a b c = absurd (cc)

untaken : (d : Bool) (k : ℕ) → d ≡ false → k ≡ 0 → not (d || not (k == 0)) ≡ true
untaken true k e f = absurd (true≢false e)
untaken false zero e f = refl
untaken false (suc k) e f = absurd (omega arith)

-- one event more
pub lean_more : (n : Net) (es : List Event) (x : Event) (s z : Now) → lean_replayed n s es ≡ Some z → is_lean_legal n z x ≡ true →
    lean_replayed n s (es ++ x ∷ []) ≡ Some (lean_after n z x)
lean_more n [] x s z e legal = let same : s ≡ z = cc in
    subst (λ (k : Now). cond (is_lean_legal n k x) (Some (lean_after n k x)) None ≡ Some (lean_after n z x)) (sym same)
    (subst (λ b. cond b (Some (lean_after n z x)) None ≡ Some (lean_after n z x)) (sym legal) refl)
lean_more n (y ∷ ys) x s z e legal = by_test (is_lean_legal n s y) (lean_replayed n (lean_after n s y) ys)
    (lean_replayed n (lean_after n s y) (ys ++ x ∷ [])) z (lean_after n z x) e (λ k. lean_more n ys x (lean_after n s y) z k legal)

-- a seat that owes nothing takes a task that is ready, and is the first to do so
pub record IsTake {C S : Type 0} (n : Net) (s : State S (View C)) (id t : ℕ) (v : View C) : Type 0 where
  pub at : get_elem? s.views id ≡ some v
  pub there : t < n.tasks
  pub ready : slice_index s.words (count_word t) ≡ 0
  pub first : all (wins t) s.views ≡ 0
  pub owes : OwesNothing n v

module _ {C S : Type 0} (n : Net) (workers : ℕ) (s : State S (View C)) (z : Now) (h : Shows {C = C} {S = S} n workers s z)
    {id t : ℕ} {v : View C} (take : IsTake {C = C} {S = S} n s id t v) where
  open take use {at, there, ready, first}

  finished : (x : ℕ) → done_by (finishes x) v ≡ done_by (wins x) v
  finished = take.owes.0

  owes_none : (e : ℕ) → times e (owes_of z (worker_of v)) ≡ 0
  owes_none e = let o = (h.seat id v at).owes e in let f = take.owes.1 e in omega arith

  pub idle : run_of z (worker_of v) ≡ None
  idle = none_runs (run_of z (worker_of v)) (λ x. let r = (h.seat id v at).runs x in let f = finished x in omega arith)

  pub clear : owes_of z (worker_of v) ≡ []
  clear = none_owed (owes_of z (worker_of v)) owes_none

  pub may_take : is_lean_legal n z (Take (worker_of v) t) ≡ true
  may_take =
      let q = h.seat id v at in
      let d = h.done t in
      let r = h.running t in
      all_five (ltb (worker_of v) (length z.runs)) (is_free z (worker_of v)) (ltb t n.tasks) (count_of z t == 0) (not (is_taken z t))
      (lt-ltb (worker_of v) (length z.runs) q.there)
      (free_of (get_or z.left (worker_of v) true) (run_of z (worker_of v)) (owes_of z (worker_of v)) q.stays idle clear)
      (lt-ltb t n.tasks there)
      (eq-eqb (count_of z t) 0 (h.counts t there ∙ ready))
      (untaken (is_done z t) (total (λ x. bit (is_run t x)) z.runs) (bit_false (is_done z t) (omega arith)) (omega arith))

  mine : ShowsSeat n (lean_after n z (Take (worker_of v) t)) (noted v (Claimed t true))
  mine = let q = h.seat id v at in let d = Claimed t true in record {
    there = omega (arith, length-set z.runs (worker_of v) (Some t), q.there);
    stays = q.stays;
    runs = λ x. get_set (λ r. bit (is_run x r) + done_by (finishes x) (noted v d) ≡ done_by (wins x) (noted v d)) z.runs (worker_of v)
        (worker_of v) (Some t) None q.there
        (λ _. let a = total_append (finishes x) v.deeds (d ∷ []) in let b = total_append (wins x) v.deeds (d ∷ []) in let f = finished x in
        omega arith) (λ ne. absurd (ne refl));
    owes = λ e. let a = total_append (arrives e) v.deeds (d ∷ []) in let b = total_append (finishes (n.source e)) v.deeds (d ∷ []) in let o = q.owes e in
        let c : done_by (finishes (n.source e)) (noted v d) ≡ done_by (finishes (n.source e)) v = omega arith in
        let g = ap (λ k. bit (n.is_inner e && ltb 0 k)) c in omega arith;
  }

  others : (j : ℕ) (u : View C) → j ≢ id → get_elem? s.views j ≡ some u → ShowsSeat n (lean_after n z (Take (worker_of v) t)) u
  others j u ne e = let q = h.seat j u e in let p = h.seat id v at in record {
    there = omega (arith, length-set z.runs (worker_of v) (Some t), q.there);
    stays = q.stays;
    runs = λ x. get_set (λ r. bit (is_run x r) + done_by (finishes x) u ≡ done_by (wins x) u) z.runs (worker_of v) (worker_of u) (Some t)
        None p.there (λ w. absurd (ne (h.apart j id u v e at w))) (λ _. q.runs x);
    owes = q.owes;
  }

  pub shows_taken : Shows {C = C} {S = S} n workers (record s { views = set s.views id (noted v (Claimed t true)) }) (lean_after n z (Take (worker_of v) t))
  shows_taken = let q = h.seat id v at in
      shows_noted {C = C} {S = S} n workers s z h id v (Claimed t true) at s.words (lean_after n z (Take (worker_of v) t)) record {
        long = (h.long.0, h.long.1, h.long.2 ∙ sym (length-set z.runs (worker_of v) (Some t)));
        counts = h.counts;
        done = λ x. let o = h.done x in omega arith;
        running = λ x. let a = total_set (λ (r : Option ℕ). bit (is_run x r)) z.runs (worker_of v) (Some t) None q.there in
            let b : bit (is_run x (run_of z (worker_of v))) ≡ 0 = ap (λ r. bit (is_run x r)) idle in let r = h.running x in omega arith;
        mine = mine;
        others = others;
        idle = λ k here o. record {
          there = omega (arith, length-set z.runs (worker_of v) (Some t), o.there);
          stays = o.stays;
          runs = get_set (λ r. r ≡ None) z.runs (worker_of v) k (Some t) None q.there (λ w. absurd (here (sym w))) (λ _. o.runs);
          owes = o.owes;
        };
      }

-- after a won claim the board shows a state that one event more reaches
pub reached_claim : {C S : Type 0} (n : Net) (workers : ℕ) (s : State S (View C)) {id t : ℕ} {v : View C} → Reached {C = C} {S = S} n workers s →
    IsTake {C = C} {S = S} n s id t v → Reached {C = C} {S = S} n workers (record s { views = set s.views id (noted v (Claimed t true)) })
reached_claim {C} {S} n workers s {id = id} {t = t} {v = v} r take = let z = r.1 in (
  r.0 ++ Take (worker_of v) t ∷ [],
  lean_after n z (Take (worker_of v) t),
  lean_more n r.0 (Take (worker_of v) t) (opening n workers) z r.2 (may_take {C = C} {S = S} n workers s z r.3 take),
  shows_taken {C = C} {S = S} n workers s z r.3 take,
)
