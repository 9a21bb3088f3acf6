-- An operation on two parts.
use Rattle.std.proofs.Common.{inl, inr, ◌≡◌, ℕ, ◌<◌, Result, Ok, Err, ap, ap₂, subst, ◌∙◌}
use Rattle.fv_diagram.specs.Primitive.{Primitive as Prim}
use Rattle.fv_diagram.specs.headline.Diagram.{Diagram, Primitive, Par, Seq}
use Rattle.fv_diagram.specs.Arena.{count_of, tree_of}
use Rattle.fv_rules.specs.declared.refusal.EvalRefusal.{EvalRefusal}
use Rattle.fv_rules.specs.headline.Steps.{Eval, after, ◌>>=◌, put}
use Rattle.fv_rules.specs.headline.Rules.{operated}
use Rattle.fv_eval_drawing.specs.Makes.{AddsDiagrams, Canvas, Draws, Extends, Makes}
use Rattle.fv_eval_drawing.proofs.Leaves.{makes_of}

-- A first part was made, and what makes the rest of it makes the whole.
pub made_then : (a b c : Canvas) (m : Eval Diagram) (f : Diagram → Eval Diagram) (i : ℕ) (r : Result ℕ EvalRefusal)
    → Makes a b m (Ok i) → Makes b c (f (tree_of b.diagrams i)) r → Makes a c (m >>= f) r
made_then a b c m f i (Ok k) h q = (q.0, λ s. ap (λ o. after o f) (h.1 s) ∙ q.1 s)
made_then a b c m f i (Err r) h (inl n) = inl n
made_then a b c m f i (Err r) h (inr q) = inr (λ s. ap (λ o. after o f) (h.1 s) ∙ q s)

pub operated_makes : (a b c d : Canvas) (p : Prim) (left right operation both : ℕ) (r : Result ℕ EvalRefusal)
    → left < count_of a.diagrams → right < count_of a.diagrams → AddsDiagrams a b → Draws b.diagrams operation (Primitive p)
    → Extends b c → Makes b c (put (Par (tree_of b.diagrams left) (tree_of b.diagrams right))) (Ok both)
    → Makes c d (put (Seq (tree_of c.diagrams both) (tree_of c.diagrams operation))) r
    → Makes a d (operated p (tree_of a.diagrams left) (tree_of a.diagrams right)) r
operated_makes a b c d p left right operation both r l q g w k m n =
    let pair : Eval Diagram = put (Par (tree_of a.diagrams left) (tree_of a.diagrams right)) in
    let m' : Makes a c pair (Ok both) =
    makes_of a b c (put (Par (tree_of b.diagrams left) (tree_of b.diagrams right))) pair (Ok both) g.tables
    (ap₂ (λ (x y : Diagram). put (Par x y)) (g.keeps.trees left l) (g.keeps.trees right q)) m in
    let op : tree_of c.diagrams operation ≡ Primitive p = k.trees operation w.inside ∙ w.is in
    let n' : Makes c d (put (Seq (tree_of c.diagrams both) (Primitive p))) r =
    subst (λ (x : Diagram). Makes c d (put (Seq (tree_of c.diagrams both) x)) r) op n in
    made_then a c d pair (λ ab. put (Seq ab (Primitive p))) both r m' n'
