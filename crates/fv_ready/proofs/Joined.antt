-- A seat takes in another, and the rule stays.
use Rattle.std.proofs.Common.{◌≡◌, ◌≢◌, ℕ, zero, suc, ◌+◌, ◌<◌, ◌⊎◌, inl, inr, ⊎_elim, List, set, refl, subst, arith, ◌==◌, Option, Some}
use mathlib.Core.Option.{some}
use lib.ListN.{get_elem?}
use Rattle.atomic_table.specs.Table.{Joins}
use Rattle.atomic_table.proofs.Lists.{at_set}
use Rattle.fv_graph.specs.Tasks.{bit}
use Rattle.fv_graph.specs.TasksBeside.{times}
use Rattle.fv_graph.specs.Net.{Net}
use Rattle.fv_graph.proofs.lemmas.Counts.{total_append}
use Rattle.fv_graph.specs.Wires.{Wires}
use Rattle.fv_graph.specs.Graph.{Graph}
use Rattle.fv_ready.specs.declared.view.Deed.{Deed}
use Rattle.fv_ready.specs.declared.view.About.{About}
use Rattle.fv_ready.specs.declared.view.View.{View}
use Rattle.fv_ready.specs.Rule.{wins, sees, arrives, starts, finishes, done_by, all, together, spent, IsSpent, IsOwn, IsKept}
use Rattle.fv_ready.specs.Whole.{all_having}
use Rattle.fv_ready.proofs.lemmas.Claim.{all_set}
use Rattle.fv_ready.proofs.lemmas.Splits.{sum_set}
use Rattle.fv_ready.proofs.Regrouped.{kept_so}

one_of : (a b : ℕ) → 0 < a + b → (0 < a) ⊎ (0 < b)
one_of zero b h = inr (omega arith)
one_of (suc a) b h = inl (omega arith)

module _ {C : Type 0} where
  -- no total changes
  pub all_joined : (f : Deed → ℕ) (views : List (View C)) (id other : ℕ) (v w : View C) → get_elem? views id ≡ some v → get_elem?
      (set views id (together v w)) other ≡ some w
      → all f (set (set views id (together v w)) other spent) ≡ all f views
  all_joined f views id other v w at at' = let a = all_set f views id v (together v w) at in
      let b = all_set f (set views id (together v w)) other w spent at' in
      let c = total_append f v.deeds w.deeds in omega arith

  -- nor how often a number is had
  pub had_joined : (k : ℕ) (views : List (View C)) (id other : ℕ) (v w : View C) → get_elem? views id ≡ some v →
      get_elem? (set views id (together v w)) other ≡ some w → all_having k (set (set views id (together v w)) other spent) ≡ all_having k views
  had_joined k views id other v w at at' = let p = sum_set (λ (y : View C). times k y.numbers) views id v (together v w) at in
      let q = sum_set (λ (y : View C). times k y.numbers) (set views id (together v w)) other w spent at' in
      let r = total_append (λ y. bit (y == k)) v.numbers w.numbers in omega arith

  pub own_joined : (n : Net) (v w : View C) → IsOwn n v → IsOwn n w → IsOwn n (together v w)
  own_joined n v w a b = record {
    won_seen = λ t pos. let x = total_append (wins t) v.deeds w.deeds in let y = total_append (sees t) v.deeds w.deeds in
        ⊎_elim (λ (l : 0 < done_by (wins t) v). let r = a.won_seen t l in
        omega arith) (λ (l : 0 < done_by (wins t) w). let r = b.won_seen t l in
        omega arith) (one_of (done_by (wins t) v) (done_by (wins t) w) (omega arith));
    arrived_won = λ e. let x = total_append (arrives e) v.deeds w.deeds in let y = total_append (wins (n.source e)) v.deeds w.deeds in
        let p = a.arrived_won e in let q = b.arrived_won e in omega arith;
    started_won = λ t. let x = total_append (starts t) v.deeds w.deeds in let y = total_append (wins t) v.deeds w.deeds in
        let p = a.started_won t in let q = b.started_won t in omega arith;
    finished_started = λ t. let x = total_append (finishes t) v.deeds w.deeds in let y = total_append (starts t) v.deeds w.deeds in
        let p = a.finished_started t in let q = b.finished_started t in omega arith;
  }

  pub own_spent : (n : Net) → IsOwn {C = C} n spent
  own_spent n = record { won_seen = λ t pos. pos; arrived_won = λ e. omega arith; started_won = λ t. omega arith; finished_started = λ t. omega arith }

module _ {C Key : Type 0} (wires : Graph → Wires) (edge_of : C → ℕ) (key_of : C → Key) where
  pub joins : (a : About C) (id other : ℕ) (v w : View C) → v.board ≡ Some a → Joins {S = Option C} (λ s. IsKept wires edge_of key_of a s)
      id v other w (together v w) spent
  joins a id other v w ab s h at apart at' =
      let n = (wires a.tasks.value).net in
      let at_w : get_elem? s.views other ≡ some w = ⊎_elim (λ x. absurd (apart x.0)) (λ x. x.1) (at_set s.views id other (together v w) w at') in
      let each : (P : View C → Type 0) → P (together v w) → P spent → ((j : ℕ) (y : View C) → get_elem? s.views j ≡ some y → P y) → (j : ℕ)
      (y : View C) → get_elem? (set (set s.views id (together v w)) other spent) j ≡ some y → P y =
      λ P both gone others j y e. ⊎_elim (λ (z : (j ≡ other) × (spent ≡ y)). subst P z.1 gone)
      (λ (z : (j ≢ other) × (get_elem? (set s.views id (together v w)) j ≡ some y)). ⊎_elim
      (λ (x : (j ≡ id) × (together v w ≡ y)). subst P x.1 both) (λ (x : (j ≢ id) × (get_elem? s.views j ≡ some y)). others j y x.1)
      (at_set s.views id j (together v w) y z.1))
      (at_set (set s.views id (together v w)) other j spent y e) in
      kept_so wires edge_of key_of a s (set (set s.views id (together v w)) other spent) (λ f. all_joined f s.views id other v w at at') h record {
        same = each (λ y. (y.board ≡ Some a) ⊎ IsSpent y) (inl ab) (inr (refl, refl, refl)) h.same;
        own = each (λ y. IsOwn n y) (own_joined n v w (h.own id v at) (h.own other w at_w)) (own_spent n) h.own;
      }
