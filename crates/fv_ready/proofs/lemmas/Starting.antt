-- A start keeps the whole rule, and the stamp word does not wrap.
use Rattle.std.proofs.Common.{◌≡◌, ℕ, ◌+◌, ◌*◌, ◌%◌, ◌^◌, ◌<◌, ◌≤◌, true, List, [], ◌∷◌}
use Rattle.std.proofs.Common.{length, set, slice_index, refl, sym, ap, ◌∙◌, subst, arith, Option, Some, true≢false, ltb, ltb-true}
use Rattle.std.proofs.lemmas.Option.{same_Some}
use mathlib.Core.Option.{some, none}
use mathlib.Core.Logic.{dite}
use native.Mathlib.Decide.{ℕ_discrete}
use lib.ListN.{get_elem?}
use Rattle.atomic_table.specs.Table.{State, step, keeps, Allows}
use Rattle.fv_graph.specs.Tasks.{total}
use Rattle.fv_graph.specs.TasksBeside.{times}
use Rattle.fv_graph.specs.Net.{Net}
use Rattle.fv_graph.specs.Graph.{Graph}
use Rattle.fv_graph.specs.Core.{numbers}
use Rattle.fv_graph.proofs.lemmas.Counts.{bit_same, bit_apart, bit_true}
use Rattle.fv_graph.proofs.lemmas.Counts.{times_passing}
use Rattle.fv_graph.specs.Wires.{Wires, IsWires}
use Rattle.fv_ready.specs.declared.view.Deed.TheVariants.{Stamped}
use Rattle.fv_ready.specs.declared.view.About.{About}
use Rattle.fv_ready.specs.declared.view.View.{View}
use Rattle.fv_ready.specs.Rule.{wins, stamps, starts, finishes, done_by, all, noted, last_won, Starts, IsAbove}
use Rattle.fv_ready.specs.Whole.{IsWhole}
use Rattle.fv_ready.proofs.lemmas.Numbers.{long_numbers, behind, one_more}
use Rattle.fv_ready.proofs.lemmas.Claim.{all_at}
use Rattle.fv_ready.proofs.Back.{all_gap}
use Rattle.fv_ready.proofs.Stamps.{whole_stamped}
use Rattle.fv_ready.proofs.WholeSteps.{reached_same}

spare_two : (g : ℕ → ℕ) → ((x : ℕ) → g x ≤ 2) → (t : ℕ) → g t ≤ 1 → (xs : List ℕ) → total g xs + times t xs ≤ 2 * length xs
spare_two g most t less [] = omega arith
spare_two g most t less (y ∷ ys) = let r = spare_two g most t less ys in let m = most y in dite (ℕ_discrete y t)
    (λ e. let b = bit_same y t e in let q : g y ≡ g t = ap g e in omega arith) (λ ne. let b = bit_apart y t ne in omega arith)

module _ {C Key : Type 0} (wires : Graph → Wires) (edge_of : C → ℕ) (key_of : C → Key) (a : About C) (ws : IsWires (wires a.tasks.value)) where
  abbrev n : Net
  n = (wires a.tasks.value).net

  -- a stamp that is drawn is above those that the seat drew before
  pub stamps_above : (s : State (Option C) (View C)) → IsWhole wires edge_of key_of a s → (id : ℕ) (v : View C) → get_elem? s.views id ≡
      some v → IsAbove (slice_index s.words 0) v
  stamps_above s h id v at k pos = let p = h.kept.stamped k in let q = all_at (stamps k) s.views id v at in
      ltb-true k (slice_index s.words 0) (bit_true (ltb k (slice_index s.words 0)) (omega arith))

  -- a stamp of t is left
  pub stamp_room : (s : State (Option C) (View C)) → IsWhole wires edge_of key_of a s → (t : ℕ) → t < n.tasks → all (starts t) s.views +
      all (finishes t) s.views ≤ 1 → slice_index s.words 0 < 2 * n.tasks
  stamp_room s h t there less = let d = h.drawn in let l = long_numbers 0 n.tasks in
      let p = spare_two (λ x. all (starts x) s.views + all (finishes x) s.views) (λ x. let q = h.stamped_once x in let q0 = q.0 in
      let q1 = q.1 in omega arith) t less (numbers n.tasks) in
      let one = times_passing (λ _. true) 0 n.tasks t (omega arith) (omega arith) in omega arith

  pub starting : (v : View C) (c : List (ℕ × Option C)) (t id slots : ℕ) → v.board ≡ Some a → t < n.tasks → 0 < done_by (wins t) v →
      done_by (starts t) v ≡ 0 → last_won v.deeds ≡ Some t → n.tasks < 2 ^ 62
      → Allows (λ s. IsWhole wires edge_of key_of a s) slots id (v, c) 0 (λ k. (k + 1) % 2 ^ 64) (Starts (step slots 0 1 0 none) (v, c))
  starting v c t id slots ab there won fresh last few s h long at wide =
      let k = slice_index s.words 0 in
      let gs = all_gap (starts t) (wins t) s.views id v at (λ j u e. (h.kept.own j u e).started_won t) in
      let gf = all_gap (finishes t) (wins t) s.views id v at (λ j u e. let o = h.kept.own j u e in let x = o.started_won t in
      let y = o.finished_started t in omega arith) in
      let w = h.kept.won_once t in let f = (h.kept.own id v at).finished_started t in
      let room = stamp_room s h t there (omega arith) in
      let plus : (k + 1) % 2 ^ 64 ≡ k + 1 = one_more k (omega arith) in (
        noted v (Stamped k t true),
        keeps,
        tt,
        subst (λ m. IsWhole wires edge_of key_of a record {
          words = set s.words 0 m;
          homes = s.homes;
          views = set s.views id
              (noted v (Stamped k t true));
        }) (sym plus)
            (whole_stamped wires edge_of key_of a ws s h id v at ab t there won true (λ _. fresh) (λ q. absurd (true≢false q)) (λ q. absurd (true≢false q))
            (reached_same wires edge_of key_of a s h id v at ab (Stamped k t true) (λ x. refl) (λ x. refl) (λ x. refl)
            (set s.words 0 (k + 1)) (λ x l. behind s.words x (k + 1)))),
        (λ t' e. (ap (λ u. noted v (Stamped k u true)) (same_Some t t' (sym last ∙ e)), refl, stamps_above s h id v at)),
      )
