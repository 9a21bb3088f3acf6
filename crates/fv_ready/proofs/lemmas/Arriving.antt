-- An arrival keeps the whole rule: the slot in front goes back.
use Rattle.std.proofs.Common.{◌≡◌, ℕ, ◌+◌, ◌-◌, ◌%◌, ◌^◌, ◌<◌, true, List, ◌∷◌, set}
use Rattle.std.proofs.Common.{slice_index, length, [], ◌==◌, refl, sym, ap, ◌∙◌, subst, arith, Option, Some, get_or-set_same}
use mathlib.Core.Option.{some, none}
use mathlib.Core.Logic.{dite}
use native.Mathlib.Decide.{ℕ_discrete}
use Rattle.atomic_table.specs.Table.{step, gives, Allows}
use Rattle.fv_graph.specs.Net.{Net}
use Rattle.fv_graph.specs.Graph.{Graph}
use Rattle.fv_graph.specs.TasksBeside.{times}
use Rattle.fv_graph.proofs.lemmas.Counts.{bit_same, bit_apart, bit_left}
use Rattle.fv_graph.specs.Wires.{Wires, IsWires}
use Rattle.fv_ready.specs.declared.view.Deed.TheVariants.{Arrived}
use Rattle.fv_ready.specs.declared.view.About.{About}
use Rattle.fv_ready.specs.declared.view.View.{View}
use Rattle.fv_ready.specs.Rule.{count_word, wins, arrives, finishes, done_by, zeroes, noted, Fits, Gives}
use Rattle.fv_ready.specs.Whole.{IsWhole}
use Rattle.fv_ready.proofs.lemmas.Claim.{all_at}
use Rattle.fv_ready.proofs.Arrive.{arrives_kept, word_else, in_words, some_left, none_came, one_less}
use Rattle.fv_ready.proofs.WholeSteps.{whole_arrived}
use Rattle.fv_ready.proofs.Gaps.{zero_once}

some_there : (e : ℕ) (xs : List ℕ) → 0 < times e xs → 0 < length xs
some_there e [] h = absurd (omega arith)
some_there e (x ∷ xs) h = omega arith

module _ {C Key : Type 0} (wires : Graph → Wires) (edge_of : C → ℕ) (key_of : C → Key) (a : About C) (ws : IsWires (wires a.tasks.value)) where
  abbrev n : Net
  n = (wires a.tasks.value).net

  pub arriving : (v : View C) (e : ℕ) (x : Option C) (tail : List (ℕ × Option C)) (id slots word : ℕ) → v.board ≡ Some a → n.is_inner e ≡
      true → 0 < done_by (finishes (n.source e)) v → done_by (arrives e) v ≡ 0 → Fits wires edge_of key_of a e x → word ≡ count_word (n.reader e)
      → Allows (λ s. IsWhole wires edge_of key_of a s) slots id (v, (e, x) ∷ tail) word (λ k. (k + (2 ^ 64 - 1)) % 2 ^ 64)
      (Gives wires (step slots word 1 0 none) (v, (e, x) ∷ tail))
  arriving v e x tail id slots word ab inner done new fits ew s h long at wide =
      let r = n.reader e in
      let k = slice_index s.words (count_word r) in
      let won : 0 < done_by (wins (n.source e)) v = let o = h.kept.own id v at in let p = o.started_won (n.source e) in
      let q = o.finished_started (n.source e) in omega arith in
      let left : 0 < k = some_left wires edge_of key_of a ws s h.kept id v at ab e (k - 1) x inner won new fits in
      let rise = ws.is_net.rises e inner in
      let among : 0 < length (n.needs r) = let o = ws.is_net.needs_once r e rise.1 in let b = bit_same r r refl in
      let l = bit_left (n.is_inner e) (r == r) inner in some_there e (n.needs r) (omega arith) in
      let first : done_by (zeroes n r) v ≡ 0 = let z = zero_once wires edge_of key_of a s h r rise.1 among in let b = all_at (zeroes n r) s.views id v at in
      let c = bit_apart k 0 (λ q. omega arith) in omega arith in
      let here : slice_index s.words word ≡ k = ap (slice_index s.words) ew in
      let less : (slice_index s.words word + (2 ^ 64 - 1)) % 2 ^ 64 ≡ k - 1 = one_less (slice_index s.words word) (omega arith) wide ∙ ap (λ i. i - 1) here in
      let inw = in_words wires edge_of key_of a ws s h.kept id v at ab e (k - 1) x inner won new fits in
      let other = word_else wires edge_of key_of a ws s h.kept id v at ab e (k - 1) x inner won new fits in (
        noted v (Arrived e (slice_index s.words word - 1)),
        gives,
        tt,
        subst (λ (p : (ℕ × ℕ) × ℕ). IsWhole wires edge_of key_of a record
            { words = set s.words p.0.0 p.0.1; homes = set s.homes e (some x); views = set s.views id (noted v (Arrived e (p.1 - 1))) })
            (λ i. ((sym ew i, sym less i), sym here i))
            (whole_arrived wires edge_of key_of a s h id v at ab e ws.is_net inner done new
            (none_came wires edge_of key_of a ws s h.kept id v at ab e (k - 1) x inner won new fits)
            (set s.words (count_word r) (k - 1)) (set s.homes e (some x)) left
            (other 0 (λ q. omega arith))
            (λ t l. dite (ℕ_discrete r t)
            (λ is. let b = bit_same r t is in let z = get_or-set_same s.words (count_word r) (k - 1) 0 inw in
            let y : slice_index (set s.words (count_word r) (k - 1)) (count_word t) ≡ slice_index (set s.words (count_word r) (k - 1))
            (count_word r) = ap (λ j. slice_index (set s.words (count_word r) (k - 1)) (count_word j)) (sym is) in
            let u : slice_index s.words (count_word t) ≡ k = ap (λ j. slice_index s.words (count_word j)) (sym is) in omega arith)
            (λ ne. let b = bit_apart r t ne in let z = other (count_word t) (λ q. ne (omega arith)) in omega arith))
            (arrives_kept wires edge_of key_of a ws s h.kept id v at ab e (k - 1) x inner won new fits)),
        (
          refl,
          refl,
          omega arith,
          λ a' ab'. let same : a' ≡ a = cc in subst (λ (b : About C). done_by (zeroes (wires b.tasks.value).net
              ((wires b.tasks.value).net.reader e)) v ≡ 0) (sym same) first,
        ),
      )
