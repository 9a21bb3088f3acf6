-- What is left of a deque, counted.
use Rattle.std.proofs.Common.{◌≡◌, ℕ, ◌+◌, ◌<◌, true, cond, List, [], ◌∷◌, sym, ap, subst, arith, eq-eqb, ne_eqb, true≢false, ◌==◌}
use mathlib.Core.Logic.{dite}
use native.Mathlib.Decide.{ℕ_discrete}
use Rattle.fv_graph.specs.Tasks.{bit}
use Rattle.fv_graph.specs.TasksBeside.{times}
use Rattle.fv_graph.specs.Ends.{without, front_is, but_front, back_is, but_back}
use Rattle.fv_graph.proofs.lemmas.Counts.{bit_apart}

pub times_back : (d : List ℕ) (t : ℕ) → back_is d t ≡ true → (x : ℕ) → times x (but_back d) + bit (t == x) ≡ times x d
times_back [] t e x = absurd (true≢false (sym e))
times_back (y ∷ []) t e x = let h : y ≡ t = grind arith in let q : bit (y == x) ≡ bit (t == x) = ap (λ z. bit (z == x)) h in omega arith
times_back (y ∷ z ∷ zs) t e x = let r = times_back (z ∷ zs) t e x in omega arith

pub times_front : (d : List ℕ) (t : ℕ) → front_is d t ≡ true → (x : ℕ) → times x (but_front d) + bit (t == x) ≡ times x d
times_front [] t e x = absurd (true≢false (sym e))
times_front (y ∷ ys) t e x = let h : y ≡ t = grind arith in let q : bit (y == x) ≡ bit (t == x) = ap (λ z. bit (z == x)) h in omega arith

pub times_without : (d : List ℕ) (e : ℕ) → 0 < times e d → (x : ℕ) → times x (without e d) + bit (e == x) ≡ times x d
times_without [] e h x = absurd (omega arith)
times_without (y ∷ ys) e h x = dite (ℕ_discrete y e)
    (λ s. subst (λ b. times x (cond b ys (y ∷ without e ys)) + bit (e == x) ≡ bit (y == x) + times x ys) (sym (eq-eqb y e s))
    (let q : bit (y == x) ≡ bit (e == x) = ap (λ z. bit (z == x)) s in omega arith))
    (λ n. let z = bit_apart y e n in let r = times_without ys e (omega arith) x in
    subst (λ b. times x (cond b ys (y ∷ without e ys)) + bit (e == x) ≡ bit (y == x) + times x ys) (sym (ne_eqb y e n)) (omega arith))
