-- Leaves and pairs that were put.
use Rattle.std.proofs.Common.{inl, inr, ◌≡◌, ℕ, Result, Ok, Err, refl, sym, ap₂, subst, ◌∙◌}
use Rattle.fv_diagram.specs.declared.node.Node.{Node}
use Rattle.fv_diagram.specs.declared.node.Node.TheVariants as node
use Rattle.fv_diagram.specs.headline.Diagram.{Diagram}
use Rattle.fv_diagram.specs.Arena.{Arena, tree_with}
use Rattle.fv_rules.specs.declared.refusal.EvalRefusal.{EvalRefusal}
use Rattle.fv_rules.specs.declared.refusal.EvalRefusal.TheVariants.{NoMemory}
use Rattle.fv_rules.specs.headline.Steps.{State, Outcome, Eval, misfit, put_after}
use Rattle.fv_rules.specs.headline.Rules.{start}
use Rattle.fv_rules.specs.Puts.{Puts}
use Rattle.fv_eval_drawing.specs.Makes.{Canvas, IsLeaf, Makes}

-- a leaf always fits, and is put as it is
leaf_fits : (a : Arena) (n : Node) (s : State) → IsLeaf n → put_after (misfit (tree_with a n)) (tree_with a n) s ≡ Ok (tree_with a n, s)
leaf_fits a (node.Prim p) s h = refl
leaf_fits a (node.Number n) s h = refl
leaf_fits a (node.Control k) s h = refl
leaf_fits a (node.Slot k) s h = refl
leaf_fits a (node.Wave k) s h = refl
leaf_fits a (node.Table k writes) s h = refl
leaf_fits a n s h = absurd h

-- so it is refused for want of memory alone
pub leaf_refused : (new old : Arena) (n : Node) (e : EvalRefusal) → IsLeaf n → Puts new (tree_with old n) (Err e) → e ≡ NoMemory
leaf_refused new old n e leaf (inl h) = h
leaf_refused new old n e leaf (inr h) = absurd (no_refusal (sym (leaf_fits old n start leaf) ∙ h start))
  where
    no_refusal : {x : Diagram × State} → ◌≡◌ {A = Outcome Diagram} (Ok x) (Err e) → ⊥
    no_refusal q = cc

-- a node that was put as it is, over a canvas
pub puts_makes : (a b : Canvas) (d : Diagram) (r : Result ℕ EvalRefusal) → b.tables ≡ a.tables → Puts b.diagrams d r
    → Makes a b (put_after (misfit d) d) r
puts_makes a b d (Ok i) t h = (
  h.0,
  λ s. h.2 (record s { tables = a.tables }) ∙ ap₂ (λ (x : Diagram) (k : ℕ). Ok (x, record s { tables = k })) (sym h.1) (sym t),
)
puts_makes a b d (Err e) t (inl h) = inl h
puts_makes a b d (Err e) t (inr h) = inr (λ s. h (record s { tables = a.tables }))

-- what an evaluation makes of diagrams that are where they were, where the table sum was the same
pub makes_of : (a b c : Canvas) (m n : Eval Diagram) (r : Result ℕ EvalRefusal) → b.tables ≡ a.tables → m ≡ n → Makes b c m r
    → Makes a c n r
makes_of a b c m n r t e h =
    let from : ℕ → Canvas = λ k. record a { tables = k } in
    subst (λ (x : Eval Diagram). Makes a c x r) e (subst (λ (k : ℕ). Makes (from k) c m r) t h)
