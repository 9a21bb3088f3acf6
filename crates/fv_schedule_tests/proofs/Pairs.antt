-- The tasks of the worked examples are what `Tasks::new` makes of them.
use Rattle.std.proofs.Common.{◌≡◌, List, [], ◌∷◌, length, refl, ap, ◌∙◌, arith, Result, Ok, Err, IfOk}
use Rattle.std.specs.List.{swap}
use Rattle.std.specs.List.Sorted.{IsPermutation}
use Rattle.std.proofs.lemmas.List.Sorted.{IsPermutation-keeps}
use Rattle.fv_graph.specs.Graph.{Graph}
use Rattle.fv_schedule_tests.specs.TwoLoops.{two_loops}

-- one element stays where it is
one_kept : {X : Type 0} (x : X) (ys : List X) → IsPermutation (x ∷ []) ys → ys ≡ x ∷ []
one_kept {X} x ys p = IsPermutation-keeps (x ∷ []) (λ l. l ≡ x ∷ []) refl (λ l i j hi hj is.
    let n = ap length is in let zero_i : i ≡ 0 = omega arith in let zero_j : j ≡ 0 = omega arith in
    (λ k. swap (is k) (zero_i k) (zero_j k)) ∙ refl) ys p

-- the three clauses of `Tasks::new` say which tasks it made
pub are_two_loops : {E : Type 0} (r : Result Graph E) → IfOk r (λ t. t.tasks.loops ≡ 2) → IfOk r (λ t. (t.tasks.vectors ≡ 1) × (t.most ≡ 1)) →
    IfOk r (λ t. IsPermutation (record { reader = 1; source = 0 } ∷ []) t.tasks.reads) → IfOk r (λ t. t.tasks ≡ two_loops)
are_two_loops (Ok t) loops vectors reads = let kept = one_kept record { reader = 1; source = 0 } t.tasks.reads reads in
    λ i. record { loops = loops i; vectors = vectors.0 i; reads = kept i }
are_two_loops (Err e) loops vectors reads = tt
