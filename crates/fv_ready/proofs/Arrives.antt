-- An arrival keeps the whole rule, and is the lean core's Arrive.
use Rattle.std.proofs.Common.{◌≡◌, ◌≢◌, ℕ, ◌+◌, ◌-◌, ◌<◌, true, ◌&&◌, List, [], ◌∷◌, length}
use Rattle.std.proofs.Common.{set, slice_index, refl, sym, ap, ◌∙◌, subst, arith, length-set, ltb, lt-ltb, ◌==◌, not, ne_eqb}
use Rattle.std.specs.Cmp.Derive.{both_true}
use mathlib.Core.Option.{some}
use lib.ListN.{get_elem?}
use Rattle.atomic_table.specs.Table.{State}
use Rattle.fv_graph.specs.Tasks.{bit}
use Rattle.fv_graph.specs.TasksBeside.{times}
use Rattle.fv_graph.specs.Ends.{without}
use Rattle.fv_graph.specs.Net.{Net, IsNet}
use Rattle.fv_graph.specs.Core.{Now, owes_of, count_of}
use Rattle.fv_graph.specs.Lean.{is_lean_legal, lean_after}
use Rattle.fv_graph.specs.declared.event.Event.TheVariants.{Arrive}
use Rattle.fv_graph.proofs.lemmas.Counts.{bit_same, bit_apart, total_append, get_set}
use Rattle.fv_graph.proofs.lemmas.EndsLemmas.{times_without}
use Rattle.fv_graph.proofs.lemmas.Counts.{bit_left}
use Rattle.fv_ready.specs.declared.view.Deed.{Deed}
use Rattle.fv_ready.specs.declared.view.Deed.TheVariants.{Arrived}
use Rattle.fv_ready.specs.declared.view.View.{View}
use Rattle.fv_ready.specs.Rule.{count_word, wins, arrives, finishes, done_by, noted}
use Rattle.fv_ready.specs.Shown.{worker_of, ShowsSeat, Shows}
use Rattle.fv_ready.proofs.Noted.{shows_noted}

some_times : (k : ℕ) → 0 < k → not (k == 0) ≡ true
some_times k h = ap not (ne_eqb k 0 (λ z. omega arith))

-- a seat arrives at an edge that it owes, by which the count of the edge's reader falls
pub record IsArrival {C S : Type 0} (n : Net) (s : State S (View C)) (id e : ℕ) (v : View C) (words' : List ℕ) : Type 0 where
  pub at : get_elem? s.views id ≡ some v
  pub inner : n.is_inner e ≡ true
  pub done : 0 < done_by (finishes (n.source e)) v
  pub new : done_by (arrives e) v ≡ 0
  pub word_is : (t : ℕ) → t < n.tasks → slice_index words' (count_word t) + bit (n.reader e == t) ≡ slice_index s.words (count_word t)

module _ {C S : Type 0} (n : Net) (net : IsNet n) (workers : ℕ) (s : State S (View C)) (z : Now) (h : Shows {C = C} {S = S} n workers s z)
    {id e : ℕ} {v : View C} {words' : List ℕ} (arrival : IsArrival {C = C} {S = S} n s id e v words') (c : ℕ) where
  open arrival use {at, inner, done, new, word_is}

  abbrev d : Deed
  d = Arrived e c

  counts_long : length z.counts ≡ n.tasks
  counts_long = h.long.0

  owes_long : length z.owes ≡ length z.runs
  owes_long = h.long.2

  abbrev z' : Now
  z' = lean_after n z (Arrive (worker_of v) e)

  has : times e (owes_of z (worker_of v)) ≡ 1
  has = let o = (h.seat id v at).owes e in let b = bit_left (n.is_inner e) (ltb 0 (done_by (finishes (n.source e)) v)) inner in
      let l = ap bit (lt-ltb 0 (done_by (finishes (n.source e)) v) done) in omega arith

  pub may_arrive : is_lean_legal n z (Arrive (worker_of v) e) ≡ true
  may_arrive = both_true (lt-ltb (worker_of v) (length z.runs) (h.seat id v at).there)
      (some_times (times e (owes_of z (worker_of v))) (let k = has in omega arith))

  in_owes : worker_of v < length z.owes
  in_owes = let t = (h.seat id v at).there in omega arith

  mine : ShowsSeat n z' (noted v d)
  mine = let q = h.seat id v at in record {
    there = q.there;
    stays = q.stays;
    runs = λ t. let a = total_append (finishes t) v.deeds (d ∷ []) in let b = total_append (wins t) v.deeds (d ∷ []) in let r = q.runs t in omega arith;
    owes = λ x. let a = total_append (arrives x) v.deeds (d ∷ []) in let b = total_append (finishes (n.source x)) v.deeds (d ∷ []) in
        let f : done_by (finishes (n.source x)) (noted v d) ≡ done_by (finishes (n.source x)) v = omega arith in
        let g = ap (λ k. bit (n.is_inner x && ltb 0 k)) f in let o = q.owes x in
        let t = times_without (owes_of z (worker_of v)) e (let k = has in omega arith) x in
        get_set (λ l. times x l + done_by (arrives x) (noted v d) ≡ bit
        (n.is_inner x && ltb 0 (done_by (finishes (n.source x)) (noted v d)))) z.owes (worker_of v) (worker_of v)
        (without e (owes_of z (worker_of v))) [] in_owes (λ _. omega arith) (λ ne. absurd (ne refl));
  }

  others : (j : ℕ) (u : View C) → j ≢ id → get_elem? s.views j ≡ some u → ShowsSeat n z' u
  others j u ne k = let q = h.seat j u k in record {
    there = q.there;
    stays = q.stays;
    runs = q.runs;
    owes = λ x. get_set (λ l. times x l + done_by (arrives x) u ≡ bit (n.is_inner x && ltb 0 (done_by (finishes (n.source x)) u))) z.owes
        (worker_of v) (worker_of u) (without e (owes_of z (worker_of v))) [] in_owes (λ m. absurd (ne (h.apart j id u v k at m))) (λ _. q.owes x);
  }

  rt : n.reader e < n.tasks
  rt = (net.rises e inner).1

  pub shows_arrived : Shows {C = C} {S = S} n workers (record s { words = words'; views = set s.views id (noted v d) }) z'
  shows_arrived = shows_noted {C = C} {S = S} n workers s z h id v d at words' z' record {
    long = (
      length-set z.counts (n.reader e) (count_of z (n.reader e) - 1) ∙ h.long.0,
      h.long.1,
      length-set z.owes (worker_of v) (without e (owes_of z (worker_of v))) ∙ h.long.2,
    );
    counts = λ t l. let o = h.counts t l in let k = word_is t l in
        get_set (λ m. m ≡ slice_index words' (count_word t)) z.counts (n.reader e) t (count_of z (n.reader e) - 1) 1
        (subst (λ m. n.reader e < m) (sym counts_long) rt)
        (λ is. let b = bit_same (n.reader e) t (sym is) in let q : count_of z (n.reader e) ≡ count_of z t = ap (count_of z) (sym is) in omega arith)
        (λ ne. let b = bit_apart (n.reader e) t (λ q. ne (sym q)) in omega arith);
    done = λ t. let o = h.done t in omega arith;
    running = λ t. let r = h.running t in omega arith;
    mine = mine;
    others = others;
    idle = λ k here o. record {
      there = o.there;
      stays = o.stays;
      runs = o.runs;
      owes = get_set (λ l. l ≡ []) z.owes (worker_of v) k (without e (owes_of z (worker_of v))) [] in_owes (λ m. absurd (here (sym m))) (λ _. o.owes);
    };
  }
