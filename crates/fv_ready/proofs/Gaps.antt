-- The counts that a task's arrivals have had: those from its word on, below the number of its edges.
use Rattle.std.proofs.Common.{◌≡◌, ℕ, ◌+◌, ◌-◌, ◌<◌, ◌≤◌, ◌&&◌, ◌==◌, length, slice_index, ltb, lt-ltb, sym, ap, ◌∙◌, arith, Option}
use Rattle.std.proofs.Math.Dec.{leb}
use Rattle.std.proofs.lemmas.Bool.{le-leb, lt-leb, le-ltb}
use mathlib.Core.Logic.{dite}
use native.Mathlib.Decide.{ℕ_discrete, dec_le}
use Rattle.atomic_table.specs.Table.{State}
use Rattle.fv_graph.specs.Tasks.{bit}
use Rattle.fv_graph.specs.Graph.{Graph}
use Rattle.fv_graph.specs.Wires.{Wires}
use Rattle.fv_graph.proofs.lemmas.Counts.{bit_same, bit_apart, bit_right}
use Rattle.fv_ready.specs.declared.view.About.{About}
use Rattle.fv_ready.specs.declared.view.View.{View}
use Rattle.fv_ready.specs.Rule.{count_word, zeroes, all}
use Rattle.fv_ready.specs.Whole.{IsWhole}

-- none while nothing has arrived
pub between_none : (w c long : ℕ) → w ≡ long → bit (leb w c && ltb c long) ≡ 0
between_none w c long e = dite (dec_le w c)
    (λ l. bit_right (leb w c) (ltb c long) (ap bit (le-ltb c long (omega arith))))
    (λ g. ap (λ b. bit (b && ltb c long)) (lt-leb w c (omega arith)))

-- 0 is among them where the word is 0
pub between_zero : (w long : ℕ) → 0 < long → bit (leb w 0 && ltb 0 long) ≡ bit (w == 0)
between_zero w long some' = dite (ℕ_discrete w 0)
    (λ e. let a = le-leb w 0 (omega arith) in let b = lt-ltb 0 long some' in let o = bit_same w 0 e in
    let both : bit (leb w 0 && ltb 0 long) ≡ 1 = (λ i. bit (a i && b i)) in omega arith)
    (λ n. let o = bit_apart w 0 n in let none' : bit (leb w 0 && ltb 0 long) ≡ 0 = ap (λ b. bit (b && ltb 0 long)) (lt-leb w 0 (omega arith)) in
    omega arith)

-- an arrival adds the one below the word
pub between_less : (w c long : ℕ) → 0 < w → w ≤ long → bit (leb w c && ltb c long) + bit (w - 1 == c) ≡ bit (leb (w - 1) c && ltb c long)
between_less w c long pos few = dite (ℕ_discrete (w - 1) c)
    (λ e. let o = bit_same (w - 1) c e in let l = le-leb (w - 1) c (omega arith) in let m = lt-ltb c long (omega arith) in
    let old : bit (leb w c && ltb c long) ≡ 0 = ap (λ b. bit (b && ltb c long)) (lt-leb w c (omega arith)) in
    let new : bit (leb (w - 1) c && ltb c long) ≡ 1 = (λ i. bit (l i && m i)) in omega arith)
    (λ n. let o = bit_apart (w - 1) c n in
    let same : leb w c ≡ leb (w - 1) c = dite (dec_le w c) (λ l. le-leb w c l ∙ sym (le-leb (w - 1) c (omega arith)))
    (λ g. lt-leb w c (omega arith) ∙ sym (lt-leb (w - 1) c (omega arith))) in
    let z : bit (leb w c && ltb c long) ≡ bit (leb (w - 1) c && ltb c long) = ap (λ b. bit (b && ltb c long)) same in omega arith)

-- one arrival had the count 0 after it exactly where the word is 0
pub zero_once : {C Key : Type 0} (wires : Graph → Wires) (edge_of : C → ℕ) (key_of : C → Key) (a : About C) (s : State (Option C) (View C))
    → IsWhole wires edge_of key_of a s → (t : ℕ) → t < (wires a.tasks.value).net.tasks → 0 < length ((wires a.tasks.value).net.needs t)
    → all (zeroes (wires a.tasks.value).net t) s.views ≡ bit (slice_index s.words (count_word t) == 0)
zero_once wires edge_of key_of a s h t there some' = h.counts_once t 0 there
    ∙ between_zero (slice_index s.words (count_word t)) (length ((wires a.tasks.value).net.needs t)) some'
