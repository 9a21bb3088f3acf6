-- The finish of a task whose outward edges are all handed.
use Rattle.std.proofs.Common.{◌≡◌, ℕ, ◌+◌, ◌%◌, ◌^◌, ◌<◌, Bool, true, false, cond, ltb, List, [], ◌∷◌}
use Rattle.std.proofs.Common.{◌++◌, length, drop, refl, sym, ap, ◌∙◌, subst, arith, ◌==◌, Option, Some, append_assoc}
use mathlib.Core.Option.{none}
use Rattle.atomic_table.specs.Table.{step, Allows}
use Rattle.fv_graph.specs.Tasks.{Tasks, bit}
use Rattle.fv_graph.specs.TasksBeside.{times, task_count}
use Rattle.fv_graph.specs.Graph.{Graph, outward, feeds_of, pair_edges_out, chain_edge, loop_of, vector_of}
use Rattle.fv_graph.specs.Wires.{Wires, IsWires}
use Rattle.fv_graph.proofs.lemmas.Counts.{bit_same, total_append}
use Rattle.fv_ready.specs.declared.view.About.{About}
use Rattle.fv_ready.specs.declared.view.View.{View}
use Rattle.fv_ready.specs.Rule.{places, Each, going, Ends}
use Rattle.fv_ready.specs.Whole.{IsWhole}
use Rattle.fv_ready.specs.Carried.{slot_at, MayHold, IsBusy, AreHanded}
use Rattle.fv_ready.proofs.lemmas.Taking.{places_append}
use Rattle.fv_ready.proofs.Finishing.{Exits}
use Rattle.fv_ready.proofs.Ending.{ending, drop_front}
use Rattle.fv_ready.proofs.lemmas.Hands.{find_at, Cut, slot_first, each_left, each_right, busy_once, cut, exit_back, exit_full, long_front}

-- the edges out of a task: the exit edge, if there is one, and then those that are owed
pub record Leads (outs feeds : List ℕ) : Type 0 where
  pub exits : List ℕ
  pub is : outs ≡ exits ++ feeds

pub leads : (g : Tasks) (t : ℕ) → Leads (outward g t) (feeds_of g t)
leads g t = pick (ltb (t + g.loops) (task_count g))
  where
    pick : (b : Bool) → Leads (outward g t) (cond b (outward g t) (pair_edges_out g t))
    pick true = record { exits = []; is = refl }
    pick false = record { exits = chain_edge g (loop_of g t) (vector_of g t + 1) ∷ []; is = refl }

module _ {C Key : Type 0} (wires : Graph → Wires) (edge_of : C → ℕ) (key_of : C → Key) (a : About C) (ws : IsWires (wires a.tasks.value))
    (v : View C) (c : List (ℕ × Option C)) (t : ℕ)
    (busy : IsBusy wires edge_of key_of a t true v c) (handed : AreHanded wires edge_of key_of a t c)
    (out : Leads ((wires a.tasks.value).outward t) ((wires a.tasks.value).net.feeds t)) where
  abbrev pub parts : Cut c ((wires a.tasks.value).inward t ++ out.exits) ((wires a.tasks.value).net.feeds t)
  parts = cut wires edge_of key_of a ws v c t true busy handed out.exits out.is

  pub exits_there : (e : ℕ) → (wires a.tasks.value).is_exit e ≡ true → (wires a.tasks.value).net.source e ≡ t → Exits wires edge_of key_of a parts.front e
  exits_there e is src =
      let P : ℕ → Option C → Type 0 = λ e x. MayHold wires edge_of key_of a e x in
      let p = find_at parts.front e (exit_back wires edge_of key_of a ws v c t true busy handed out.exits out.is e is src) in
      let may = (each_right P p.xs ((e, p.x) ∷ p.ys) (subst (Each P) p.is (each_left P parts.front parts.back (subst (Each P) parts.is busy.may)))).0 in
      let slot : slot_at c e ≡ p.x = ap (λ l. slot_at l e) (parts.is ∙ ap (λ l. l ++ parts.back) p.is ∙ append_assoc p.xs ((e, p.x) ∷ p.ys)
      parts.back) ∙ slot_first p.xs e p.x (p.ys ++ parts.back) p.first in
      let all = ap (times e) (ap places parts.is ∙ places_append parts.front parts.back) ∙ total_append (λ y. bit (y == e))
      (places parts.front) (places parts.back) in
      let mine = ap (times e) (ap places p.is ∙ places_append p.xs ((e, p.x) ∷ p.ys)) ∙ total_append (λ y. bit (y == e)) (places p.xs) (e ∷ places p.ys) in
      let o = bit_same e e refl in let l = busy_once wires edge_of key_of a ws v c t true busy e in record {
        xs = p.xs;
        x = p.x;
        ys = p.ys;
        is = p.is;
        once = omega arith;
        fits = exit_full wires edge_of key_of a ws v c t true busy handed out.exits out.is e p.x is src slot may;
      }

  pub busy_parts : IsBusy wires edge_of key_of a t true v (parts.front ++ parts.back)
  busy_parts = subst (λ l. IsBusy wires edge_of key_of a t true v l) parts.is busy

  pub front_long : going wires edge_of key_of a t ≡ length parts.front
  front_long = long_front wires edge_of key_of a ws v c t true busy handed out.exits out.is

  pub dropped : drop (going wires edge_of key_of a t) c ≡ parts.back
  dropped = ap (drop (going wires edge_of key_of a t)) parts.is ∙ drop_front parts.front parts.back (going wires edge_of key_of a t) front_long

  -- the step of the table
  pub leaving : (id slots : ℕ) → v.board ≡ Some a → (wires a.tasks.value).net.tasks < 2 ^ 62
      → Allows (λ s. IsWhole wires edge_of key_of a s) slots id (v, c) 0 (λ k. (k + 1) % 2 ^ 64) (Ends wires edge_of key_of (step slots 0 1 0 none) (v, c))
  leaving id slots ab few = subst (λ l. Allows (λ s. IsWhole wires edge_of key_of a s) slots id (v, l) 0 (λ k. (k + 1) % 2 ^ 64)
      (Ends wires edge_of key_of (step slots 0 1 0 none) (v, l))) (sym parts.is)
      (ending wires edge_of key_of a ws v parts.front parts.back t id slots ab busy_parts exits_there front_long few)
