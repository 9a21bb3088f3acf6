-- Wires side by side: what is kept of them stays true, and one wire more.
use Rattle.std.proofs.Common.{inl, inr, ◌≡◌, ◌⊎◌, ℕ, zero, suc, ◌+◌, ◌-◌, ◌≤◌, ◌<◌, All, List, [], ◌∷◌, ◌++◌, Ok, Err, sym, ap, subst, ◌∙◌, arith}
use Rattle.fv_diagram.specs.declared.node.Node.TheVariants as node
use Rattle.fv_diagram.specs.Primitive.TheVariants as prim
use Rattle.fv_diagram.specs.headline.Diagram.{Diagram, Primitive, Par}
use Rattle.fv_diagram.specs.Arena.{Arena, count_of, tree_of, tree_with}
use Rattle.fv_rules.specs.declared.refusal.EvalRefusal.{EvalRefusal}
use Rattle.fv_rules.specs.declared.refusal.EvalRefusal.TheVariants.{NoMemory}
use Rattle.fv_rules.specs.headline.Steps.{State, after, put}
use Rattle.fv_rules.specs.headline.Rules.{wires}
use Rattle.fv_rules.specs.Puts.{Puts}
use Rattle.fv_eval_drawing.specs.Lists.{all_from_right}
use Rattle.fv_eval_drawing.specs.Makes.{AddsDiagrams, Canvas, Draws, Extends}
use Rattle.fv_eval_drawing.specs.Wires.{AreWires, IsWired, side_by_side}
use Rattle.fv_eval_drawing.proofs.Arenas.{extends_on}
use Rattle.fv_eval_drawing.proofs.Turns.{further}

-- this many wires are done side by side, at least one and at most the count
pub record Widens (a0 a : Canvas) (count wire whole done : ℕ) : Type 0 where
  pub adds : AddsDiagrams a0 a
  pub is_wire : Draws a.diagrams wire (Primitive prim.Wire)
  pub is_whole : IsWired a.diagrams done whole
  pub some : 1 ≤ done
  pub most : done ≤ count

pub wired_stays : (a b : Canvas) (k i : ℕ) → Extends a b → IsWired a.diagrams k i → IsWired b.diagrams k i
wired_stays a b k i g h =
    let l = g.longer in let p = h.inside in
    record { inside = omega (arith, l, p); put = λ s. h.put s ∙ ap (λ (d : Diagram). Ok (d, s)) (sym (g.trees i p)) }

pub still_wires : (a b : Canvas) (is : List ℕ) → Extends a b → AreWires a.diagrams is → AreWires b.diagrams is
still_wires a b is g h k i e = wired_stays a b (k + 2) i g (h k i e)

pub still_inside : (a b : Canvas) (is : List ℕ) → Extends a b → All (λ i. i < count_of a.diagrams) is → All (λ i. i < count_of b.diagrams) is
still_inside a b is g h k d l = let p = h k d l in let q = g.longer in omega (arith, p, q)

pub one_wire : (a : Arena) (i : ℕ) → Draws a i (Primitive prim.Wire) → IsWired a 1 i
one_wire a i d = record { inside = d.inside; put = λ s. ap (λ (x : Diagram). Ok (x, s)) (sym d.is) }

one_more : (k : ℕ) (s : State) → 1 ≤ k → side_by_side (k + 1) s ≡ after (side_by_side k s) (λ r. put (Par (Primitive prim.Wire) r))
one_more zero s l = absurd (omega (arith, l))
one_more (suc n) s l = let e : suc n + 1 ≡ suc (suc n) = omega arith in ap (λ j. side_by_side j s) e

-- What k + 1 wires give is what one wire gives beside k of them.
turned : (a : Arena) (wire whole k : ℕ) (s : State) → Draws a wire (Primitive prim.Wire) → IsWired a k whole → 1 ≤ k
    → side_by_side (k + 1) s ≡ put (Par (tree_of a wire) (tree_of a whole)) s
turned a wire whole k s d w l =
    one_more k s l ∙ ap (λ o. after o (λ r. put (Par (Primitive prim.Wire) r))) (w.put s)
    ∙ ap (λ (x : Diagram). put (Par x (tree_of a whole)) s) (sym d.is)

pub wider : (a b : Arena) (wire whole k i : ℕ) → Draws a wire (Primitive prim.Wire) → IsWired a k whole → 1 ≤ k
    → Puts b (tree_with a (node.Par wire whole)) (Ok i) → IsWired b (k + 1) i
wider a b wire whole k i d w l h = record {
  inside = h.0;
  put = λ s. turned a wire whole k s d w l ∙ h.2 s ∙ ap (λ (x : Diagram). Ok (x, s)) (sym h.1);
}

pub wider_refused : (a b : Arena) (wire whole k : ℕ) (e : EvalRefusal) → Draws a wire (Primitive prim.Wire) → IsWired a k whole → 1 ≤ k
    → Puts b (tree_with a (node.Par wire whole)) (Err e) → (e ≡ NoMemory) ⊎ ((s : State) → side_by_side (k + 1) s ≡ Err e)
wider_refused a b wire whole k e d w l (inl h) = inl h
wider_refused a b wire whole k e d w l (inr h) = inr (λ s. turned a wire whole k s d w l ∙ h s)

-- where fewer wires are refused, so are more
refused_on : (k n : ℕ) (e : EvalRefusal) → 1 ≤ k → ((s : State) → side_by_side k s ≡ Err e) → (s : State) → side_by_side (k + n) s ≡ Err e
refused_on k zero e l h s = let q : k + 0 ≡ k = omega arith in ap (λ j. side_by_side j s) q ∙ h s
refused_on k (suc n) e l h s =
    let q : k + suc n ≡ (k + n) + 1 = omega arith in let m : 1 ≤ k + n = omega (arith, l) in
    ap (λ j. side_by_side j s) q ∙ one_more (k + n) s m ∙ ap (λ o. after o (λ r. put (Par (Primitive prim.Wire) r))) (refused_on k n e l h s)

pub all_refused : (k n : ℕ) (e : EvalRefusal) → 1 ≤ k → k ≤ n → (e ≡ NoMemory) ⊎ ((s : State) → side_by_side k s ≡ Err e)
    → (e ≡ NoMemory) ⊎ ((s : State) → side_by_side n s ≡ Err e)
all_refused k n e l m (inl h) = inl h
all_refused k n e l m (inr h) =
    let q : n ≡ k + (n - k) = omega (arith, m) in inr (λ s. ap (λ j. side_by_side j s) q ∙ refused_on k (n - k) e l h s)

pub widens_first : (a0 a : Canvas) (count wire : ℕ) → 1 ≤ count → AddsDiagrams a0 a → Draws a.diagrams wire (Primitive prim.Wire)
    → Widens a0 a count wire wire 1
widens_first a0 a count wire l g d = record { adds = g; is_wire = d; is_whole = one_wire a.diagrams wire d; some = omega arith; most = l }

pub widens_on : (a0 a b : Canvas) (count wire whole done next i : ℕ) → Widens a0 a count wire whole done → done < count → next ≡ done + 1
    → AddsDiagrams a b → IsWired b.diagrams (done + 1) i → Widens a0 b count wire i next
widens_on a0 a b count wire whole done next i so l e g k = record {
  adds = record { keeps = extends_on a0 a b so.adds.keeps g.keeps; tables = g.tables ∙ so.adds.tables };
  is_wire = let p = so.is_wire.inside in let q = g.keeps.longer in
      record { inside = omega (arith, p, q); is = g.keeps.trees wire p ∙ so.is_wire.is };
  is_whole = subst (λ n. IsWired b.diagrams n i) (sym e) k;
  some = omega (arith, e);
  most = omega (arith, e, l);
}

-- ---- wires after other diagrams

-- they are put as one diagram
pub packed : (n : ℕ) (c : Diagram) (ds : List Diagram) (s : State) → ((t : State) → side_by_side (suc n) t ≡ Ok (c, t))
    → all_from_right Par (ds ++ wires (suc n)) s ≡ all_from_right Par (ds ++ c ∷ []) s
packed n c [] s h = h s
packed n c (d ∷ ds) s h =
    further Par d (Primitive prim.Wire) ds (wires n) s ∙ ap (λ o. after o (λ r. put (Par d r))) (packed n c ds s h) ∙ sym (further Par d c ds [] s)

pub packed_refused : (n : ℕ) (e : EvalRefusal) (ds : List Diagram) (s : State) → ((t : State) → side_by_side (suc n) t ≡ Err e)
    → all_from_right Par (ds ++ wires (suc n)) s ≡ Err e
packed_refused n e [] s h = h s
packed_refused n e (d ∷ ds) s h =
    further Par d (Primitive prim.Wire) ds (wires n) s ∙ ap (λ o. after o (λ r. put (Par d r))) (packed_refused n e ds s h)
