-- A finishing stamp is the lean core's Finish, and a step that changes neither counts, claims, finishes nor arrivals shows no change.
use Rattle.std.proofs.Common.{◌≡◌, ◌≢◌, ℕ, ◌+◌, ◌<◌, true, false, ◌&&◌, List, [], ◌∷◌, ◌++◌, length}
use Rattle.std.proofs.Common.{set, slice_index, refl, sym, ap, ◌∙◌, subst, arith, Option, Some, None, length-set, ltb, lt-ltb, ◌==◌}
use Rattle.std.specs.Cmp.Derive.{both_true}
use mathlib.Core.Option.{some}
use mathlib.Core.Logic.{dite}
use native.Mathlib.Decide.{ℕ_discrete}
use lib.ListN.{get_elem?}
use Rattle.atomic_table.specs.Table.{State}
use Rattle.fv_graph.specs.Tasks.{bit}
use Rattle.fv_graph.specs.TasksBeside.{times}
use Rattle.fv_graph.specs.Net.{Net, IsNet}
use Rattle.fv_graph.specs.Core.{Now, is_run, run_of, owes_of, is_done}
use Rattle.fv_graph.specs.Lean.{is_lean_legal, lean_after}
use Rattle.fv_graph.specs.declared.event.Event.TheVariants.{Finish}
use Rattle.fv_graph.proofs.lemmas.Counts.{bit_same, bit_apart, bit_one, bit_true, bit_swap, total_append, total_set, get_set, done_set}
use Rattle.fv_graph.proofs.lemmas.Counts.{bit_right, bit_false}
use Rattle.fv_ready.specs.declared.view.Deed.{Deed}
use Rattle.fv_ready.specs.declared.view.Deed.TheVariants.{Stamped}
use Rattle.fv_ready.specs.declared.view.View.{View}
use Rattle.fv_ready.specs.Rule.{count_word, wins, arrives, finishes, done_by, all, noted}
use Rattle.fv_ready.specs.Shown.{worker_of, ShowsSeat, Shows}
use Rattle.fv_ready.proofs.Noted.{shows_noted}

runs_one : (r : Option ℕ) (t : ℕ) → bit (is_run t r) ≡ 1 → r ≡ Some t
runs_one None t h = absurd (omega arith)
runs_one (Some u) t h = ap Some (bit_one u t (omega arith))

-- a seat finishes a task that it took, which nobody finished before, and no count changes
pub record IsFinish {C S : Type 0} (n : Net) (s : State S (View C)) (id t : ℕ) (v : View C) (words' : List ℕ) : Type 0 where
  pub at : get_elem? s.views id ≡ some v
  pub there : t < n.tasks
  pub won : done_by (wins t) v ≡ 1
  pub unfinished : done_by (finishes t) v ≡ 0
  pub nobody : all (finishes t) s.views ≡ 0
  pub word_is : (x : ℕ) → x < n.tasks → slice_index words' (count_word x) ≡ slice_index s.words (count_word x)

module _ {C S : Type 0} (n : Net) (net : IsNet n) (workers : ℕ) (s : State S (View C)) (z : Now) (h : Shows {C = C} {S = S} n workers s z)
    {id t : ℕ} {v : View C} {words' : List ℕ} (finish : IsFinish {C = C} {S = S} n s id t v words') (k : ℕ) where
  open finish use {at, there, won, unfinished, nobody, word_is}

  abbrev d : Deed
  d = Stamped k t false

  done_long : length z.done ≡ n.tasks
  done_long = h.long.1

  owes_long : length z.owes ≡ length z.runs
  owes_long = h.long.2

  abbrev z' : Now
  z' = lean_after n z (Finish (worker_of v) t)

  runs_t : run_of z (worker_of v) ≡ Some t
  runs_t = runs_one (run_of z (worker_of v)) t (let r = (h.seat id v at).runs t in omega arith)

  runs_bit : (x : ℕ) → bit (is_run x (run_of z (worker_of v))) ≡ bit (t == x)
  runs_bit x = ap (λ r. bit (is_run x r)) runs_t

  pub may_finish : is_lean_legal n z (Finish (worker_of v) t) ≡ true
  may_finish = both_true (lt-ltb (worker_of v) (length z.runs) (h.seat id v at).there) (bit_true (is_run t (run_of z (worker_of v))) (let b = runs_bit t in
      let o = bit_same t t refl in omega arith))

  in_owes : worker_of v < length z.owes
  in_owes = let q = (h.seat id v at).there in omega arith

  was : is_done z t ≡ false
  was = bit_false (is_done z t) (let q = h.done t in omega arith)

  mine : ShowsSeat n z' (noted v d)
  mine = let q = h.seat id v at in record {
    there = omega (arith, length-set {A = Option ℕ} z.runs (worker_of v) None, q.there);
    stays = q.stays;
    runs = λ x. let a = total_append (finishes x) v.deeds (d ∷ []) in let b = total_append (wins x) v.deeds (d ∷ []) in let r = q.runs x in
        let c = runs_bit x in
        get_set (λ r. bit (is_run x r) + done_by (finishes x) (noted v d) ≡ done_by (wins x) (noted v d)) z.runs (worker_of v)
        (worker_of v) None None q.there (λ _. omega arith) (λ ne. absurd (ne refl));
    owes = λ x. let a = total_append (arrives x) v.deeds (d ∷ []) in let b = total_append (finishes (n.source x)) v.deeds (d ∷ []) in let o = q.owes x in
        let f = net.feeds_once t x there in let ta = total_append (λ y. bit (y == x)) (owes_of z (worker_of v)) (n.feeds t) in
        get_set (λ l. times x l + done_by (arrives x) (noted v d) ≡ bit
        (n.is_inner x && ltb 0 (done_by (finishes (n.source x)) (noted v d)))) z.owes (worker_of v) (worker_of v)
        (owes_of z (worker_of v) ++ n.feeds t) [] in_owes
        (λ _. dite (ℕ_discrete (n.source x) t)
        (λ e. let so = bit_same (n.source x) t e in let sw = bit_swap (n.source x) t in
        let un : done_by (finishes (n.source x)) v ≡ done_by (finishes t) v = ap (λ i. done_by (finishes i) v) e in
        let old : bit (n.is_inner x && ltb 0 (done_by (finishes (n.source x)) v)) ≡ 0 = ap (λ i. bit (n.is_inner x && ltb 0 i))
        (un ∙ unfinished) ∙ bit_right (n.is_inner x) false refl in
        let one : done_by (finishes (n.source x)) (noted v d) ≡ 1 = omega arith in
        let now : bit (n.is_inner x && ltb 0 (done_by (finishes (n.source x)) (noted v d))) ≡ bit (n.is_inner x && true) = ap
        (λ i. bit (n.is_inner x && ltb 0 i)) one in
        let fe : bit (n.is_inner x && (n.source x == t)) ≡ bit (n.is_inner x && true) = ap (λ c. bit (n.is_inner x && c))
        (bit_true (n.source x == t) (omega arith)) in omega arith)
        (λ ne. let so = bit_apart (n.source x) t ne in let so' = bit_apart t (n.source x) (λ e. ne (sym e)) in
        let fz = bit_right (n.is_inner x) (n.source x == t) so in
        let sa : done_by (finishes (n.source x)) (noted v d) ≡ done_by (finishes (n.source x)) v = omega arith in
        let now = ap (λ i. bit (n.is_inner x && ltb 0 i)) sa in omega arith))
        (λ ne. absurd (ne refl));
  }

  others : (j : ℕ) (u : View C) → j ≢ id → get_elem? s.views j ≡ some u → ShowsSeat n z' u
  others j u ne e = let q = h.seat j u e in let p = h.seat id v at in record {
    there = omega (arith, length-set {A = Option ℕ} z.runs (worker_of v) None, q.there);
    stays = q.stays;
    runs = λ x. get_set (λ r. bit (is_run x r) + done_by (finishes x) u ≡ done_by (wins x) u) z.runs (worker_of v) (worker_of u) None None
        p.there (λ m. absurd (ne (h.apart j id u v e at m))) (λ _. q.runs x);
    owes = λ x. get_set (λ l. times x l + done_by (arrives x) u ≡ bit (n.is_inner x && ltb 0 (done_by (finishes (n.source x)) u))) z.owes
        (worker_of v) (worker_of u) (owes_of z (worker_of v) ++ n.feeds t) [] in_owes (λ m. absurd (ne (h.apart j id u v e at m))) (λ _. q.owes x);
  }

  pub shows_finished : Shows {C = C} {S = S} n workers (record s { words = words'; views = set s.views id (noted v d) }) z'
  shows_finished = let q = h.seat id v at in shows_noted {C = C} {S = S} n workers s z h id v d at words' z' record {
    long = (
      h.long.0,
      length-set z.done t true ∙ h.long.1,
      length-set z.owes (worker_of v) (owes_of z (worker_of v) ++ n.feeds t) ∙ h.long.2
          ∙ sym (length-set {A = Option ℕ} z.runs (worker_of v) None),
    );
    counts = λ x l. h.counts x l ∙ sym (word_is x l);
    done = λ x. let a = done_set z.done t (subst (λ i. t < i) (sym done_long) there) was x in let b = h.done x in let sw = bit_swap x t in omega arith;
    running = λ x. let a = total_set (λ (r : Option ℕ). bit (is_run x r)) z.runs (worker_of v) None None q.there in
        let b = runs_bit x in let r = h.running x in omega arith;
    mine = mine;
    others = others;
    idle = λ x here o. record {
      there = omega (arith, length-set {A = Option ℕ} z.runs (worker_of v) None, o.there);
      stays = o.stays;
      runs = get_set (λ r. r ≡ None) z.runs (worker_of v) x None None q.there (λ m. absurd (here (sym m))) (λ _. o.runs);
      owes = get_set (λ l. l ≡ []) z.owes (worker_of v) x (owes_of z (worker_of v) ++ n.feeds t) [] in_owes (λ m. absurd (here (sym m))) (λ _. o.owes);
    };
  }

-- a seat does something that is no win, no finish and no arrival, and no count changes
pub record IsUnshown {C S : Type 0} (n : Net) (s : State S (View C)) (id : ℕ) (v : View C) (d : Deed) (words' : List ℕ) : Type 0 where
  pub at : get_elem? s.views id ≡ some v
  pub no_win : (x : ℕ) → wins x d ≡ 0
  pub no_finish : (x : ℕ) → finishes x d ≡ 0
  pub no_arrival : (x : ℕ) → arrives x d ≡ 0
  pub word_is : (x : ℕ) → x < n.tasks → slice_index words' (count_word x) ≡ slice_index s.words (count_word x)

module _ {C S : Type 0} (n : Net) (workers : ℕ) (s : State S (View C)) (z : Now) (h : Shows {C = C} {S = S} n workers s z)
    {id : ℕ} {v : View C} {d : Deed} {words' : List ℕ} (unshown : IsUnshown {C = C} {S = S} n s id v d words') where
  open unshown use {at, no_win, no_finish, no_arrival, word_is}

  like : ShowsSeat n z v → ShowsSeat n z (noted v d)
  like q = record {
    there = q.there;
    stays = q.stays;
    runs = λ x. let a = total_append (finishes x) v.deeds (d ∷ []) in let b = total_append (wins x) v.deeds (d ∷ []) in let r = q.runs x in
        let e = no_win x in let f = no_finish x in omega arith;
    owes = λ x. let a = total_append (arrives x) v.deeds (d ∷ []) in let b = total_append (finishes (n.source x)) v.deeds (d ∷ []) in
        let o = q.owes x in let e = no_arrival x in let f = no_finish (n.source x) in
        let sa : done_by (finishes (n.source x)) (noted v d) ≡ done_by (finishes (n.source x)) v = omega arith in
        let g = ap (λ i. bit (n.is_inner x && ltb 0 i)) sa in omega arith;
  }

  pub shows_same : Shows {C = C} {S = S} n workers (record s { words = words'; views = set s.views id (noted v d) }) z
  shows_same = shows_noted {C = C} {S = S} n workers s z h id v d at words' z record {
    long = h.long;
    counts = λ x l. h.counts x l ∙ sym (word_is x l);
    done = λ x. let o = h.done x in let e = no_finish x in omega arith;
    running = λ x. let r = h.running x in let e = no_finish x in let f = no_win x in omega arith;
    mine = like (h.seat id v at);
    others = λ j u _ e. h.seat j u e;
    idle = λ x _ o. o;
  }
