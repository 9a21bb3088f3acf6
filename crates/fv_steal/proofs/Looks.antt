-- What looks and arrivals leave of a seat's list.
use Rattle.std.proofs.Common.{◌≡◌, ℕ, ◌+◌, ◌<◌, Bool, true, ◌&&◌, ◌==◌, [], ◌∷◌, refl, sym, ap, ◌∙◌, arith}
use Rattle.fv_outside.specs.headline.Tasks.{bit}
use Rattle.fv_graph.specs.Net.{Net}
use Rattle.fv_graph.proofs.lemmas.Counts.{bit_same, bit_left}
use Rattle.fv_ready.specs.declared.view.Deed.TheVariants.{Arrived, Saw}
use Rattle.fv_ready.specs.declared.view.View.{View}
use Rattle.fv_ready.specs.Rule.{done_by, noted, sees, arrives, zeroes}
use Rattle.fv_ready.proofs.lemmas.Hands.{done_noted}
use Rattle.fv_steal.specs.inner.Steps.{Looked, HasArrived}

module _ {C : Type 0} where
  -- one look more
  pub looked_more : (old v w : View C) (t c : ℕ) → w ≡ noted v (Saw t c) → Looked old v → Looked old w
  looked_more old v w t c is h f none = ap (λ (u : View C). done_by f u) is ∙ done_noted f v (Saw t c) ∙ (let r = h f none in let z = none t c in omega arith)

  -- a look that found the count 0
  pub saw_ready : (t c : ℕ) (v w : View C) (r : Bool) → w ≡ noted v (Saw t c) → r ≡ (c == 0) → r ≡ true → 0 < done_by (sees t) w
  saw_ready t c v w r list is ready =
      let a = ap (λ (u : View C). done_by (sees t) u) list ∙ done_noted (sees t) v (Saw t c) in
      let zero : (c == 0) ≡ true = sym is ∙ ready in let one = bit_same t t refl in
      let b = bit_left (c == 0) (t == t) zero in omega arith

  -- an arrival
  pub one_arrived : (v w : View C) (e c : ℕ) → w ≡ noted v (Arrived e c) → HasArrived (e ∷ []) v w
  one_arrived v w e c is = record {
    others = λ f none. let a = ap (λ (u : View C). done_by f u) is ∙ done_noted f v (Arrived e c) in let z = none e c in omega arith;
    arrived = λ d. let a = ap (λ (u : View C). done_by (arrives d) u) is ∙ done_noted (arrives d) v (Arrived e c) in omega arith;
  }

  -- how often its reader's count was 0
  pub zeroed_after : (n : Net) (v w : View C) (e c x : ℕ) → w ≡ noted v (Arrived e c)
      → done_by (zeroes n x) w ≡ done_by (zeroes n x) v + bit ((c == 0) && (n.reader e == x))
  zeroed_after n v w e c x is = ap (λ (u : View C). done_by (zeroes n x) u) is ∙ done_noted (zeroes n x) v (Arrived e c)
