-- Arrivals at the edges out of a task, and what is put into the deque by them.
use Rattle.std.proofs.Common.{◌≡◌, ℕ, ◌+◌, ◌<◌, true, false, ◌&&◌, ◌==◌, List, [], ◌∷◌, ◌++◌, length, get_or, take, refl, sym, ap, ◌∙◌, subst}
use Rattle.std.proofs.Common.{arith}
use Rattle.fv_outside.specs.headline.Tasks.{Tasks, bit}
use Rattle.fv_outside.specs.Tasks.{times, task_count}
use Rattle.fv_graph.specs.Net.{Net}
use Rattle.fv_graph.specs.Graph.{net_of, feeds_of}
use Rattle.fv_graph.specs.Wires.{IsWires, wires_of}
use Rattle.fv_graph.proofs.lemmas.Counts.{bit_left, total_append}
use Rattle.fv_ready.specs.declared.view.Deed.TheVariants.{Arrived}
use Rattle.fv_ready.specs.declared.view.View.{View}
use Rattle.fv_ready.specs.Rule.{done_by, noted, arrives, finishes}
use Rattle.fv_steal.specs.inner.Steps.{HasArrived, PutAsZeroed, PutBetween}
use Rattle.fv_steal.proofs.Lists.{times_at, times_take, none_before}
use Rattle.fv_steal.proofs.Looks.{zeroed_after}
use Rattle.fv_steal.proofs.Edges.{feeds_once, IsFed, is_fed}

module _ {C : Type 0} (n : Net) (v w : View C) (e c : ℕ) (put put' : List ℕ) (is : w ≡ noted v (Arrived e c))
    (more : (x : ℕ) → times x put' ≡ times x put + bit ((c == 0) && (n.reader e == x))) where
  pub put_after : PutAsZeroed n v put → PutAsZeroed n w put'
  put_after h x there needs = let a = more x in let b = zeroed_after n v w e c x is in let k = h x there needs in omega arith

  pub put_between : PutBetween n v w put put'
  put_between x = let a = more x in let b = zeroed_after n v w e c x is in omega arith

-- the number is put, or it is not
pub more_put : (c r : ℕ) (put : List ℕ) → (c == 0) ≡ true → (x : ℕ) → times x (put ++ r ∷ []) ≡ times x put + bit ((c == 0) && (r == x))
more_put c r put zero x = let a = total_append (λ y. bit (y == x)) put (r ∷ []) in let b = bit_left (c == 0) (r == x) zero in omega arith

pub none_put : (c r : ℕ) (put : List ℕ) → (c == 0) ≡ false → (x : ℕ) → times x put ≡ times x put + bit ((c == 0) && (r == x))
none_put c r put above x = let b : bit ((c == 0) && (r == x)) ≡ 0 = ap (λ k. bit (k && (r == x))) above in omega arith

-- the edge at a place among those that the task feeds
abbrev pub edge_at : Tasks → ℕ → ℕ → ℕ
edge_at g t i = get_or (feeds_of g t) i 0

module _ {C : Type 0} where
  pub none_arrived : (v : View C) → HasArrived [] v v
  none_arrived v = record { others = λ f none. refl; arrived = λ e. omega arith }

  pub put_same : (n : Net) (v : View C) (put : List ℕ) → PutBetween n v v put put
  put_same n v put x = refl

  pub put_on : (n : Net) (u v w : View C) (a b c : List ℕ) → PutBetween n u v a b → PutBetween n v w b c → PutBetween n u w a c
  put_on n u v w a b c p q x = let r = p x in let s = q x in omega arith

module _ (g : Tasks) (ws : IsWires (wires_of g)) (t : ℕ) (there : t < task_count g) (i : ℕ) (low : i < length (feeds_of g t)) where
  pub fed : IsFed g ws t there (edge_at g t i)
  fed = is_fed g ws t there (edge_at g t i) (times_at (feeds_of g t) i 0 low)

  module _ {C : Type 0} where
    pub arrived_more : (u v w : View C) → HasArrived (take i (feeds_of g t)) u v → HasArrived ((edge_at g t i) ∷ []) v w
        → HasArrived (take (i + 1) (feeds_of g t)) u w
    arrived_more u v w h k = record {
      others = λ f none. k.others f none ∙ h.others f none;
      arrived = λ e. let a = k.arrived e in let b = h.arrived e in let c = times_take (feeds_of g t) i 0 e low in omega arith;
    }

    -- the next edge is still owed
    pub next_owed : (u v : View C) → HasArrived (take i (feeds_of g t)) u v → 0 < done_by (finishes t) u
        → ((e : ℕ) → 0 < times e (feeds_of g t) → done_by (arrives e) u ≡ 0)
        → (0 < done_by (finishes ((net_of g).source (edge_at g t i))) v) × (done_by (arrives (edge_at g t i)) v ≡ 0)
    next_owed u v h done owed =
        let o = h.others (finishes t) (λ e c. refl) in let a = h.arrived (edge_at g t i) in
        let z = none_before (feeds_of g t) i 0 (feeds_once g ws t there) low in
        let p = owed (edge_at g t i) (times_at (feeds_of g t) i 0 low) in
        (subst (λ k. 0 < done_by (finishes k) v) (sym fed.source) (omega arith), omega arith)
