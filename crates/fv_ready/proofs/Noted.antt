-- What is shown after one deed of one seat, from what it does to that seat, to the others and to idle workers.
use Rattle.std.proofs.Common.{◌≡◌, ◌≢◌, ℕ, ◌+◌, ◌<◌, ⊎_elim, List, Some, length, set, slice_index, refl, sym, ap, ◌∙◌, subst, arith}
use mathlib.Core.Option.{some, some-injective}
use mathlib.Core.Logic.{dite}
use native.Mathlib.Decide.{ℕ_discrete}
use lib.ListN.{get_elem?}
use Rattle.atomic_table.specs.Table.{State}
use Rattle.atomic_table.proofs.Lists.{at_set, set_here, set_else}
use Rattle.fv_graph.specs.Tasks.{bit, total}
use Rattle.fv_graph.specs.Net.{Net}
use Rattle.fv_graph.specs.Core.{Now, is_run, is_done, count_of}
use Rattle.fv_ready.specs.declared.view.Deed.{Deed}
use Rattle.fv_ready.specs.declared.view.About.{About}
use Rattle.fv_ready.specs.declared.view.View.{View}
use Rattle.fv_ready.specs.Rule.{count_word, wins, finishes, all, noted}
use Rattle.fv_ready.specs.Shown.{worker_of, ShowsSeat, IsIdle, Shows}
use Rattle.fv_ready.proofs.lemmas.Claim.{all_noted}
use Rattle.fv_ready.proofs.lemmas.Taking.{at_below}

module _ {C S : Type 0} (n : Net) (workers : ℕ) (s : State S (View C)) (z : Now) (h : Shows {C = C} {S = S} n workers s z) (id : ℕ) (v : View C)
    (d : Deed) (at : get_elem? s.views id ≡ some v) where
  abbrev views' : List (View C)
  views' = set s.views id (noted v d)

  -- the words and the state of the lean core after the deed, and what they are to the seats
  pub record IsNoted (words' : List ℕ) (z' : Now) : Type 0 where
    pub long : (length z'.counts ≡ n.tasks) × (length z'.done ≡ n.tasks) × (length z'.owes ≡ length z'.runs)
    pub counts : (t : ℕ) → t < n.tasks → count_of z' t ≡ slice_index words' (count_word t)
    pub done : (t : ℕ) → bit (is_done z' t) ≡ all (finishes t) s.views + finishes t d
    pub running : (t : ℕ) → total (λ r. bit (is_run t r)) z'.runs + (all (finishes t) s.views + finishes t d) ≡ all (wins t) s.views + wins t d
    pub mine : ShowsSeat n z' (noted v d)
    pub others : (j : ℕ) (u : View C) → j ≢ id → get_elem? s.views j ≡ some u → ShowsSeat n z' u
    pub idle : (k : ℕ) → worker_of v ≢ k → IsIdle z k → IsIdle z' k

  -- each seat stands for the worker that it stood for
  same : (j : ℕ) (u : View C) → get_elem? views' j ≡ some u → (y : View C) × (get_elem? s.views j ≡ some y) × (worker_of u ≡ worker_of y)
  same j u e = ⊎_elim
      (λ (p : (j ≡ id) × (noted v d ≡ u)). (v, subst (λ i. get_elem? s.views i ≡ some v) (sym p.0) at, ap (λ (y : View C). worker_of y) (sym p.1)))
      (λ p. (u, p.1, refl)) (at_set s.views id j (noted v d) u e)

  pub shows_noted : (words' : List ℕ) (z' : Now) → IsNoted words' z' →
      Shows {C = C} {S = S} n workers (record s { words = words'; views = set s.views id (noted v d) }) z'
  shows_noted words' z' q = record {
    long = q.long;
    counts = q.counts;
    done = λ t. q.done t ∙ sym (all_noted (finishes t) s.views id v d at);
    running = λ t. let f = all_noted (finishes t) s.views id v d at in let w = all_noted (wins t) s.views id v d at in
        let r = q.running t in omega arith;
    seat = λ j u e. ⊎_elim (λ (p : (j ≡ id) × (noted v d ≡ u)). subst (λ (y : View C). ShowsSeat n z' y) p.1 q.mine)
        (λ (p : (j ≢ id) × (get_elem? s.views j ≡ some u)). q.others j u p.0 p.1) (at_set s.views id j (noted v d) u e);
    apart = λ i j u y e f m. let a = same i u e in let b = same j y f in h.apart i j a.0 b.0 a.1 b.1 (sym a.2 ∙ m ∙ b.2);
    idle = λ k hk no. let here : worker_of v ≢ k = no id (noted v d) (set_here s.views id (noted v d) (at_below s.views id v at)) in
        q.idle k here (h.idle k hk (λ j u e. dite (ℕ_discrete j id)
        (λ is m. here (ap (λ (y : View C). worker_of y) (some-injective v u (sym at ∙ ap (get_elem? s.views) (sym is) ∙ e)) ∙ m))
        (λ nj. no j u (set_else s.views id j (noted v d) nj ∙ e))));
  }

-- where each seat knows the board after a deed, each knew it before
pub known_before : {C : Type 0} (a : About C) (views : List (View C)) (id : ℕ) (v : View C) (d : Deed) → get_elem? views id ≡ some v → v.board ≡ Some a →
    ((j : ℕ) (y : View C) → get_elem? (set views id (noted v d)) j ≡ some y → y.board ≡ Some a) → (j : ℕ) (y : View C) → get_elem? views j ≡ some y
    → y.board ≡ Some a
known_before {C} a views id v d at ab boards j y e = dite (ℕ_discrete j id)
    (λ is. ap (λ (u : View C). u.board) (some-injective y v (sym e ∙ ap (get_elem? views) is ∙ at)) ∙ ab)
    (λ ne. boards j y (set_else views id j (noted v d) ne ∙ e))
