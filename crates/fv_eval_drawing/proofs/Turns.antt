-- One turn of a loop that puts a list together.
use Rattle.std.proofs.Common.{◌≡◌, ℕ, zero, suc, ◌+◌, List, [], ◌∷◌, ◌++◌, refl, sym, ap, ◌∙◌, arith}
use Rattle.fv_diagram.specs.headline.Diagram.{Diagram, Bind}
use Rattle.fv_rules.specs.headline.Steps.{State, Eval, after, ◌>>=◌, give, put}
use Rattle.fv_rules.specs.headline.Rules.{bind_all}
use Rattle.fv_eval_drawing.specs.Lists.{all_from_right}
use Rattle.fv_eval_drawing.proofs.Evals.{after_after, same_after, after_give}

-- a list of two and more: the rest is put first
pub further : (c : Diagram → Diagram → Diagram) (x y : Diagram) (xs ys : List Diagram) (s : State)
    → all_from_right c (x ∷ (xs ++ y ∷ ys)) s ≡ after (all_from_right c (xs ++ y ∷ ys) s) (λ r. put (c x r))
further c x y [] ys s = refl
further c x y (w ∷ ws) ys s = refl

-- the last two of a list are put together first
pub right_turn : (c : Diagram → Diagram → Diagram) (xs : List Diagram) (y z : Diagram) (s : State)
    → all_from_right c (xs ++ y ∷ z ∷ []) s ≡ after (put (c y z) s) (λ r. all_from_right c (xs ++ r ∷ []))
right_turn c [] y z s = sym (after_give (put (c y z) s))
right_turn c (x ∷ xs) y z s =
    let above : Diagram → Eval Diagram = λ r. put (c x r) in
    further c x y xs (z ∷ []) s
    ∙ ap (λ o. after o above) (right_turn c xs y z s)
    ∙ after_after (put (c y z) s) (λ r. all_from_right c (xs ++ r ∷ [])) above
    ∙ same_after (put (c y z) s) (λ r. all_from_right c (xs ++ r ∷ []) >>= above)
    (λ r. all_from_right c (x ∷ (xs ++ r ∷ []))) (λ r t. sym (further c x r xs [] t))

-- the last slot is bound first
pub bind_turn : (slot k : ℕ) (d : Diagram) (s : State) → bind_all slot (suc k) d s ≡ after (put (Bind (slot + k) d) s) (λ b. bind_all slot k b)
bind_turn slot zero d s = sym (after_give (put (Bind slot d) s)) ∙ ap (λ n. after (put (Bind n d) s) (λ b. give b)) (omega arith)
bind_turn slot (suc k) d s =
    let above : Diagram → Eval Diagram = λ b. put (Bind slot b) in
    ap (λ o. after o above) (bind_turn (suc slot) k d s)
    ∙ after_after (put (Bind (suc slot + k) d) s) (λ b. bind_all (suc slot) k b) above
    ∙ ap (λ n. after (put (Bind n d) s) (λ b. bind_all (suc slot) k b >>= above)) (omega arith)
