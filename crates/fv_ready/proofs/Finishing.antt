-- A finish: the inward slots and the exit edge's go back, and then a stamp is drawn. The whole rule stays.
use Rattle.std.proofs.Common.{◌≡◌, ℕ, zero, suc, ◌+◌, ◌-◌, ◌*◌, ◌%◌, ◌^◌, ◌<◌, ◌≤◌, Bool, true, false, List, []}
use Rattle.std.proofs.Common.{◌∷◌, ◌++◌, set, slice_index, refl, sym, ap, ◌∙◌, subst, arith, Option, Some, true≢false}
use mathlib.Core.Option.{some}
use lib.ListN.{get_elem?}
use Rattle.atomic_table.specs.Table.{State, homes_after}
use Rattle.fv_graph.specs.TasksBeside.{times}
use Rattle.fv_graph.specs.Net.{Net}
use Rattle.fv_graph.specs.Graph.{Graph}
use Rattle.fv_graph.specs.Wires.{Wires, IsWires}
use Rattle.fv_ready.specs.declared.view.Deed.TheVariants.{Stamped}
use Rattle.fv_ready.specs.declared.view.About.{About}
use Rattle.fv_ready.specs.declared.view.View.{View}
use Rattle.fv_ready.specs.Rule.{wins, finishes, done_by, all, noted, places, Fits}
use Rattle.fv_ready.specs.Carried.{IsBusy, IsMine, HasKey}
use Rattle.fv_ready.specs.Whole.{IsWhole}
use Rattle.fv_ready.proofs.Back.{all_gap}
use Rattle.fv_ready.proofs.lemmas.Taking.{give_all, front_homes, given_at}
use Rattle.fv_ready.proofs.lemmas.Hands.{busy_mine, busy_won, each_left}
use Rattle.fv_ready.proofs.lemmas.Closing.{given}
use Rattle.fv_ready.proofs.Stamps.{whole_stamped}
use Rattle.fv_ready.proofs.lemmas.Numbers.{behind}
use Rattle.fv_ready.proofs.lemmas.Starting.{stamp_room}
use Rattle.fv_ready.proofs.WholeSteps.{reached_finish}

-- the exit edge's slot among those that go back: full, with its parcel
pub record Exits {C Key : Type 0} (wires : Graph → Wires) (edge_of : C → ℕ) (key_of : C → Key) (a : About C) (front : List (ℕ × Option C))
    (e : ℕ) : Type 0 where
  pub xs : List (ℕ × Option C)
  pub x : Option C
  pub ys : List (ℕ × Option C)
  pub is : front ≡ xs ++ (e, x) ∷ ys
  pub once : times e (places ys) ≡ 0
  pub fits : Fits wires edge_of key_of a e x

module _ {C Key : Type 0} (wires : Graph → Wires) (edge_of : C → ℕ) (key_of : C → Key) (a : About C) (ws : IsWires (wires a.tasks.value))
    (s : State (Option C) (View C)) (h : IsWhole wires edge_of key_of a s)
    (id : ℕ) (v : View C) (at : get_elem? s.views id ≡ some v) (ab : v.board ≡ Some a) (t : ℕ) (front rest : List (ℕ × Option C))
    (holds : IsBusy wires edge_of key_of a t true v (front ++ rest))
    (exits : (e : ℕ) → (wires a.tasks.value).is_exit e ≡ true → (wires a.tasks.value).net.source e ≡ t → Exits wires edge_of key_of a front e) where
  abbrev n : Net
  n = (wires a.tasks.value).net

  abbrev homes' : List (mathlib.Core.Option.Option (Option C))
  homes' = homes_after s.homes (front ++ rest) (give_all front)

  -- first the slots go back
  abbrev s1 : State (Option C) (View C)
  s1 = record { words = s.words; homes = homes_after s.homes (front ++ rest) (give_all front); views = s.views }

  given_back : IsWhole wires edge_of key_of a s1
  given_back = let m = busy_mine wires edge_of key_of a ws v (front ++ rest) t true holds in
      subst (λ l. IsWhole wires edge_of key_of a record { words = s.words; homes = l; views = s.views }) (sym (front_homes front rest s.homes))
      (given wires edge_of key_of a ws s h id v at ab front (each_left (λ e _. IsMine wires edge_of key_of a v e) front rest m.0)
      (each_left (λ _ x. HasKey wires edge_of key_of a v x) front rest m.1))

  won_one : done_by (wins t) v ≡ 1
  won_one = busy_won wires edge_of key_of a v (front ++ rest) t true holds

  nobody : all (finishes t) s.views ≡ 0
  nobody = let g = all_gap (finishes t) (wins t) s.views id v at (λ j u e. let o = h.kept.own j u e in let x = o.started_won t in
      let y = o.finished_started t in omega arith) in
      let w = h.kept.won_once t in let u = holds.unfinished in let o = won_one in omega arith

  at_home : (e : ℕ) → (wires a.tasks.value).is_exit e ≡ true → (wires a.tasks.value).net.source e ≡ t → (x : Option C) ×
      (get_elem? homes' e ≡ some (some x)) × Fits wires edge_of key_of a e x
  at_home e is src = let q = exits e is src in (
    q.x,
    ap (λ l. get_elem? l e) (front_homes front rest s.homes) ∙ subst (λ l. get_elem? (homes_after s.homes l (give_all l)) e ≡ some (some q.x)) (sym q.is)
        (given_at q.xs e q.x q.ys s.homes q.once (let l = ws.in_range e (wide is) in let m = h.kept.homes_long in omega arith)),
    q.fits,
  )
    where
      wide : (wires a.tasks.value).is_exit e ≡ true → Rattle.std.proofs.Common.◌||◌
          (Rattle.std.proofs.Common.◌||◌ ((wires a.tasks.value).net.is_inner e) ((wires a.tasks.value).is_entry e)) ((wires a.tasks.value).is_exit e) ≡ true
      wide k = last ((wires a.tasks.value).net.is_inner e) ((wires a.tasks.value).is_entry e) ((wires a.tasks.value).is_exit e) k
        where
          last : (x y z : Bool) → z ≡ true → Rattle.std.proofs.Common.◌||◌ (Rattle.std.proofs.Common.◌||◌ x y) z ≡ true
          last true true z q = refl
          last true false z q = refl
          last false true z q = refl
          last false false z q = q

  -- and then the stamp is drawn
  pub whole_finished : IsWhole wires edge_of key_of a record {
    words = set s.words 0 (slice_index s.words 0 + 1);
    homes = homes_after
        s.homes (front ++ rest) (give_all front);
    views = set s.views id (noted v (Stamped (slice_index s.words 0) t false));
  }
  whole_finished = whole_stamped wires edge_of key_of a ws s1 given_back id v at ab t holds.there (let o = won_one in
      omega arith) false (λ q. absurd (true≢false (sym q))) (λ _. ((let o = holds.started in omega arith), holds.unfinished)) (λ _. at_home)
      (reached_finish wires edge_of key_of a s1 given_back id v at ab t (slice_index s.words 0) ws.is_net holds.there won_one
      holds.unfinished nobody (set s.words 0 (slice_index s.words 0 + 1))
      (λ x l. behind s.words x (slice_index s.words 0 + 1)))

  -- the word does not wrap: there are at most two stamps for each task, and this one's finish is not drawn
  pub small : slice_index s.words 0 < 2 * n.tasks
  small = stamp_room wires edge_of key_of a ws s h t holds.there (let o = h.stamped_once t in let o0 = o.0 in let z = nobody in omega arith)
