-- A claim keeps the whole rule.
use Rattle.std.proofs.Common.{◌≡◌, ◌≢◌, ℕ, ◌+◌, ◌-◌, ◌<◌, Bool, true, false, List, length, set, slice_index, refl, sym, subst, arith, ◌==◌, Option, Some}
use mathlib.Core.Option.{some, none}
use lib.ListN.{get_elem?}
use Rattle.atomic_table.specs.Table.{State, Me, step, Allows, homes_after}
use Rattle.fv_graph.specs.Tasks.{bit}
use Rattle.fv_graph.specs.Net.{Net}
use Rattle.fv_graph.specs.Graph.{Graph}
use Rattle.fv_graph.proofs.lemmas.Counts.{bit_one, get_set}
use Rattle.fv_graph.specs.Wires.{Wires, IsWires}
use Rattle.fv_ready.specs.declared.view.Deed.{Deed}
use Rattle.fv_ready.specs.declared.view.Deed.TheVariants.{Claimed}
use Rattle.fv_ready.specs.declared.view.About.{About}
use Rattle.fv_ready.specs.declared.view.View.{View}
use Rattle.fv_ready.specs.Rule.{count_word, claim_word, sees, done_by, noted, IsKept, Claims}
use Rattle.fv_ready.specs.Shown.{Reached, OwesNothing}
use Rattle.fv_ready.specs.Whole.{IsWhole}
use Rattle.fv_ready.proofs.lemmas.Claim.{claims, all_at, all_noted}
use Rattle.fv_ready.proofs.WholeSteps.{claim_quiet, whole_quiet, reached_same, reached_won, shows_words}

module _ {C Key : Type 0} (wires : Graph → Wires) (edge_of : C → ℕ) (key_of : C → Key) (a : About C) where
  abbrev n : Net
  n = (wires a.tasks.value).net

  abbrev Told : State (Option C) (View C) → List ℕ → List (mathlib.Core.Option.Option (Option C)) → ℕ → View C → Type 0
  Told s words' homes' id w = ((j : ℕ) (y : View C) → get_elem? (set s.views id w) j ≡ some y → y.board ≡ Some a) → Reached {C = C}
      {S = Option C} (wires a.tasks.value).net a.workers record { words = words'; homes = homes'; views = set s.views id w }

  pub claims_whole : (m : Me (Option C) (View C)) (t id : ℕ) → m.0.board ≡ Some a → IsWires (wires a.tasks.value) → t <
      (wires a.tasks.value).net.tasks → 0 < done_by (sees t) m.0 → OwesNothing (wires a.tasks.value).net m.0
      → Allows (λ s. IsWhole wires edge_of key_of a s) (wires a.tasks.value).edges id m (claim_word (wires a.tasks.value).net.tasks t) (λ _. 1)
      (Claims wires edge_of key_of (step (wires a.tasks.value).edges (claim_word (wires a.tasks.value).net.tasks t) 1 0 none) m)
  claims_whole m t id ab ws there saw free s h long at wide =
      let cw : ℕ = claim_word n.tasks t in
      let r = claims wires edge_of key_of a m t id ab ws there saw s h.kept long at wide in
      let u : ℕ = cw - (1 + n.tasks) in
      let q : u ≡ t = omega arith in
      let found : ℕ = slice_index s.words cw in
      let d : Deed = Claimed u (found == 0) in
      let e : r.0 ≡ noted m.0 d = (r.4 a ab).0 in
      let homes' = homes_after s.homes m.1 r.1 in
      let words' : List ℕ = set s.words cw 1 in
      let inw : cw < length s.words = let l = h.kept.words_long in omega arith in
      let other : (j : ℕ) → j ≢ cw → slice_index words' j ≡ slice_index s.words j = λ j ne. get_set (λ k. k ≡ slice_index s.words j)
      s.words cw j 1 0 inw (λ z. absurd (ne z)) (λ _. refl) in
      let counts : (x : ℕ) → x < n.tasks → slice_index words' (count_word x) ≡ slice_index s.words (count_word x) = λ x l. other
      (count_word x) (λ z. omega arith) in
      let ready : slice_index s.words (count_word t) ≡ 0 = h.kept.seen t there (let b = all_at (sees t) s.views id m.0 at in omega arith) in
      let shown : (b : Bool) → (found == 0) ≡ b → Told s words' homes' id (noted m.0 (Claimed u b)) = λ b. elim b as
      (λ b. (found == 0) ≡ b → Told s words' homes' id (noted m.0 (Claimed u b))) [
        | true ↦ (λ is boards. subst (λ k. Reached {C = C} {S = Option C} n a.workers record
            { words = words'; homes = homes'; views = set s.views id (noted m.0 (Claimed k true)) }) (sym q)
            (reached_won wires edge_of key_of a s h id m.0 at ab t there ready (let c = h.kept.claimed t there in
            let z = bit_one found 0 (subst (λ b. 0 < bit b) (sym is) (omega arith)) in omega arith) free words' homes' counts
            (subst (λ k. (j : ℕ) (y : View C) → get_elem? (set s.views id (noted m.0 (Claimed k true))) j ≡ some y → y.board ≡ Some a) q boards)))
        | false ↦ (λ is boards. let p = reached_same wires edge_of key_of a s h id m.0 at ab (Claimed u false) (λ x. refl) (λ x. refl)
            (λ x. refl) words' counts boards in (
              p.0,
              p.1,
              p.2,
              shows_words {C = C} {S = Option C} n a.workers record
                  { words = words'; homes = s.homes; views = set s.views id (noted m.0 (Claimed u false)) } p.1 p.3 words' homes' (λ x l. refl),
            ))
      ] in (
        r.0,
        r.1,
        r.2,
        subst (λ (w : View C). IsWhole wires edge_of key_of a record { words = words'; homes = homes'; views = set s.views id w }) (sym e)
            (whole_quiet wires edge_of key_of a s h id m.0 at ab d (claim_quiet n u (found == 0)) words' homes'
            (subst (λ (w : View C). IsKept wires edge_of key_of a record { words = words'; homes = homes'; views = set s.views id w }) e r.3)
            (other 0 (λ z. omega arith)) counts
            (λ x c hx pos. let q = all_noted (Rattle.fv_ready.specs.Rule.saw x c) s.views id m.0 d at in let w = counts x hx in
            let p = h.seen_between x c hx (omega arith) in let p0 = p.0 in (omega arith, p.1))
            (shown (found == 0) refl)),
        r.4,
      )

  -- the same where the slots and the word go by other names
  pub claims_whole_at : (m : Me (Option C) (View C)) (t id : ℕ) → m.0.board ≡ Some a → (slots word : ℕ) → slots ≡
      (wires a.tasks.value).edges → word ≡ claim_word (wires a.tasks.value).net.tasks t → IsWires (wires a.tasks.value) → t <
      (wires a.tasks.value).net.tasks → 0 < done_by (sees t) m.0 → OwesNothing (wires a.tasks.value).net m.0
      → Allows (λ s. IsWhole wires edge_of key_of a s) slots id m word (λ _. 1) (Claims wires edge_of key_of (step slots word 1 0 none) m)
  claims_whole_at m t id ab slots word es ew ws there saw free =
      subst (λ (z : ℕ × ℕ). Allows (λ s. IsWhole wires edge_of key_of a s) z.0 id m z.1 (λ _. 1)
      (Claims wires edge_of key_of (step z.0 z.1 1 0 none) m)) (λ i. (sym es i, sym ew i)) (claims_whole m t id ab ws there saw free)
