-- Each legal event leaves a valid state.
use Rattle.std.proofs.Common.{◌≡◌, ℕ, ◌+◌, true, List, ap, arith}
use Rattle.fv_graph.specs.Tasks.{total}
use Rattle.fv_graph.specs.Net.{Net, IsNet}
use Rattle.fv_graph.specs.Core.{Now, is_legal, after}
use Rattle.fv_graph.specs.declared.event.Event.{Event}
use Rattle.fv_graph.specs.Valid.{Valid, IsValid, arrived_of, took_of, amount_of}
use Rattle.fv_graph.proofs.Law.{steps}

total_like : (f g : ℕ → ℕ) → ((x : ℕ) → f x ≡ g x) → (xs : List ℕ) → total f xs ≡ total g xs
total_like f g e xs = ap (λ (h : ℕ → ℕ). total h xs) (λ i x. e x i)

-- what has arrived is determined by the state
pub valid_now : (n : Net) (workers : ℕ) (arrived took : ℕ → ℕ) (amount : ℕ) (s : Now) → Valid n workers arrived took amount s → IsValid n workers s
valid_now n workers arrived took amount s h =
    let e : (x : ℕ) → arrived x ≡ arrived_of n s x = λ x. let p = h.edges x in omega arith in
    record {
      counts_long = h.counts_long;
      done_long = h.done_long;
      deques_long = h.deques_long;
      runs_long = h.runs_long;
      owes_long = h.owes_long;
      left_long = h.left_long;
      placed = h.placed;
      inside = h.inside;
      edges = λ x. let p = h.edges x in let q = e x in omega arith;
      counted = λ t there. let p = h.counted t there in let q = total_like arrived (arrived_of n s) e (n.needs t) in omega arith;
      away = h.away;
      told = λ t. omega arith;
      in_all = omega arith;
    }

pub valid_after : (n : Net) (net : IsNet n) (workers : ℕ) (s : Now) (e : Event) → IsValid n workers s → is_legal n s e ≡ true → IsValid n workers (after n s e)
valid_after n net workers s e h legal = let r = steps n net workers (arrived_of n s) (took_of s) (amount_of s) s e h legal in
    valid_now n workers r.0 (λ t. took_of s t + Rattle.fv_graph.specs.Core.takes t e) (amount_of s + Rattle.fv_graph.specs.Core.is_take e)
    (after n s e) r.1
