-- The edges of a task: each stands once, and none both goes in and comes out.
use Rattle.std.proofs.Common.{◌≡◌, ℕ, ◌+◌, ◌<◌, Bool, true, false, ◌&&◌, ◌||◌, List, [], ◌∷◌, length, refl, ap, arith, ◌==◌}
use mathlib.Core.Logic.{dite}
use native.Mathlib.Decide.{ℕ_discrete}
use Rattle.fv_outside.specs.headline.Tasks.{Tasks, bit}
use Rattle.fv_outside.specs.Tasks.{times, task_count}
use Rattle.fv_graph.specs.Net.{need_count}
use Rattle.fv_graph.specs.Graph.{net_of, inward, outward, feeds_of}
use Rattle.fv_graph.specs.Wires.{IsWires, wires_of}
use Rattle.fv_graph.proofs.lemmas.Counts.{bit_le, bit_true, bit_one, both_true, bit_same, bit_left}

-- an edge that goes into a task and out of it is neither inner, since its source is before its reader, nor both entry and exit
out_in : (i n x p q : Bool) → bit i + bit n + bit x < 2 → 0 < bit ((i || n) && p) → 0 < bit ((i || x) && q) → (i ≡ true) × (p ≡ true) × (q ≡ true)
out_in true n x true true a b c = (refl, refl, refl)
out_in true n x false q a b c = absurd (omega arith)
out_in true n x true false a b c = absurd (omega arith)
out_in false true true p q a b c = absurd (omega arith)
out_in false true false p q a b c = absurd (omega arith)
out_in false false x p q a b c = absurd (omega arith)

module _ (g : Tasks) (ws : IsWires (wires_of g)) (t : ℕ) (there : t < task_count g) where
  pub inward_once : (e : ℕ) → times e (inward g t) < 2
  inward_once e = let o = ws.inward_once t e there in
      let b = bit_le (((net_of g).is_inner e || (wires_of g).is_entry e) && ((net_of g).reader e == t)) in omega arith

  pub outward_once : (e : ℕ) → times e (outward g t) < 2
  outward_once e = let o = ws.outward_once t e there in
      let b = bit_le (((net_of g).is_inner e || (wires_of g).is_exit e) && ((net_of g).source e == t)) in omega arith

  pub feeds_once : (e : ℕ) → times e (feeds_of g t) < 2
  feeds_once e = let o = ws.is_net.feeds_once t e there in let b = bit_le ((net_of g).is_inner e && ((net_of g).source e == t)) in omega arith

  -- an edge out of the task is not one into it
  pub not_inward : (e : ℕ) → 0 < times e (outward g t) → times e (inward g t) ≡ 0
  not_inward e out = dite (ℕ_discrete (times e (inward g t)) 0) (λ z. z)
      (λ some'. let i = ws.inward_once t e there in let o = ws.outward_once t e there in
      let r = out_in ((net_of g).is_inner e) ((wires_of g).is_entry e) ((wires_of g).is_exit e) ((net_of g).reader e == t) ((net_of g).source e == t)
      (ws.apart e) (omega arith) (omega arith) in
      let rise = ws.is_net.rises e r.0 in
      let a = bit_one ((net_of g).reader e) t (let q = ap bit r.1 in omega arith) in let b = bit_one ((net_of g).source e) t (let q = ap bit r.2 in
      omega arith) in
      absurd (omega arith))

  -- an inner edge out of the task
  pub record IsFed (e : ℕ) : Type 0 where
    pub inner : (net_of g).is_inner e ≡ true
    pub source : (net_of g).source e ≡ t

  pub is_fed : (e : ℕ) → 0 < times e (feeds_of g t) → IsFed e
  is_fed e h = let o = ws.is_net.feeds_once t e there in
      let b = both_true ((net_of g).is_inner e) ((net_of g).source e == t) (bit_true ((net_of g).is_inner e && ((net_of g).source e == t)) (omega arith)) in
      record { inner = b.0; source = bit_one ((net_of g).source e) t (let q = ap bit b.1 in omega arith) }

-- the reader of an inner edge reads a task
pub reader_needs : (g : Tasks) → IsWires (wires_of g) → (e : ℕ) → (net_of g).is_inner e ≡ true
    → ((net_of g).reader e < task_count g) × (0 < need_count (net_of g) ((net_of g).reader e))
reader_needs g ws e inner =
    let r = ws.is_net.rises e inner in let o = ws.is_net.needs_once ((net_of g).reader e) e r.1 in
    let b = bit_left ((net_of g).is_inner e) ((net_of g).reader e == (net_of g).reader e) inner in
    let s = bit_same ((net_of g).reader e) ((net_of g).reader e) refl in
    (r.1, some_among e ((net_of g).needs ((net_of g).reader e)) (omega arith))
  where
    some_among : (e : ℕ) (xs : List ℕ) → 0 < times e xs → 0 < length xs
    some_among e [] h = absurd (omega arith)
    some_among e (x ∷ xs) h = omega arith
