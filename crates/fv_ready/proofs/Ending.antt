-- A finish as a step of the table.
use Rattle.std.proofs.Common.{◌≡◌, ℕ, ◌+◌, ◌%◌, ◌^◌, ◌<◌, true, false, List, [], ◌∷◌, ◌++◌}
use Rattle.std.proofs.Common.{length, set, slice_index, drop, refl, sym, ap, ◌∙◌, subst, arith, Option, Some}
use Rattle.std.proofs.lemmas.Option.{same_Some}
use mathlib.Core.Option.{none}
use Rattle.atomic_table.specs.Table.{step, Allows, homes_after}
use Rattle.fv_graph.specs.Graph.{Graph}
use Rattle.fv_graph.specs.Wires.{Wires, IsWires}
use Rattle.fv_ready.specs.declared.view.Deed.TheVariants.{Stamped}
use Rattle.fv_ready.specs.declared.view.About.{About}
use Rattle.fv_ready.specs.declared.view.View.{View}
use Rattle.fv_ready.specs.Rule.{noted, going, Ends}
use Rattle.fv_ready.specs.Carried.{IsBusy}
use Rattle.fv_ready.specs.Whole.{IsWhole}
use Rattle.fv_ready.proofs.lemmas.Numbers.{one_more}
use Rattle.fv_ready.proofs.lemmas.Taking.{give_all, front_valid, front_left}
use Rattle.fv_ready.proofs.lemmas.Starting.{stamps_above}
use Rattle.fv_ready.proofs.Finishing.{Exits, whole_finished, small}

drop_all : {S : Type 0} (xs ys : List (ℕ × S)) → drop (length xs) (xs ++ ys) ≡ ys
drop_all [] ys = refl
drop_all (x ∷ xs) ys = drop_all xs ys

pub drop_front : {S : Type 0} (xs ys : List (ℕ × S)) (k : ℕ) → k ≡ length xs → drop k (xs ++ ys) ≡ ys
drop_front xs ys k e = ap (λ i. drop i (xs ++ ys)) e ∙ drop_all xs ys

module _ {C Key : Type 0} (wires : Graph → Wires) (edge_of : C → ℕ) (key_of : C → Key) (a : About C) (ws : IsWires (wires a.tasks.value)) where
  pub ending : (v : View C) (front rest : List (ℕ × Option C)) (t id slots : ℕ) → v.board ≡ Some a → IsBusy wires edge_of key_of a t true v (front ++ rest)
      → ((e : ℕ) → (wires a.tasks.value).is_exit e ≡ true → (wires a.tasks.value).net.source e ≡ t → Exits wires edge_of key_of a front e)
      → going wires edge_of key_of a t ≡ length front → (wires a.tasks.value).net.tasks < 2 ^ 62
      → Allows (λ s. IsWhole wires edge_of key_of a s) slots id (v, front ++ rest) 0 (λ k. (k + 1) % 2 ^ 64)
      (Ends wires edge_of key_of (step slots 0 1 0 none) (v, front ++ rest))
  ending v front rest t id slots ab holds exits count few s h long at wide =
      let k = slice_index s.words 0 in
      let room = small wires edge_of key_of a ws s h id v at ab t front rest holds exits in
      let plus : (k + 1) % 2 ^ 64 ≡ k + 1 = one_more k (omega arith) in (
        noted v (Stamped k t false),
        give_all front,
        front_valid front rest s.homes,
        subst (λ m. IsWhole wires edge_of key_of a record {
          words = set s.words 0 m;
          homes = homes_after s.homes (front ++ rest)
              (give_all front);
          views = set s.views id (noted v (Stamped k t false));
        }) (sym plus)
            (whole_finished wires edge_of key_of a ws s h id v at ab t front rest holds exits),
        (λ a' is t' e. (
          ap (λ u. noted v (Stamped k u false)) (same_Some t t' (sym holds.last ∙ e)),
          front_left front rest ∙ sym (drop_front front rest (going wires edge_of key_of a' t')
              ((λ i. going wires edge_of key_of (same_Some a' a (sym is ∙ ab) i) (same_Some t' t (sym e ∙ holds.last) i)) ∙ count)),
          stamps_above wires edge_of key_of a ws s h id v at,
        )),
      )
