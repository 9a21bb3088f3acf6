-- The lanes of a loop among the first lanes of the plan.
use Rattle.std.proofs.Common.{◌≡◌, ◌≢◌, ℕ, zero, suc, ◌+◌, ◌-◌, ◌<◌, ◌≤◌, Bool, true, false, cond, List, [], ◌∷◌, ◌++◌, length}
use Rattle.std.proofs.Common.{ap, ◌∙◌, arith, ◌==◌, eq-eqb, ne_eqb}
use Rattle.std.proofs.lemmas.List.{append-nil, length-append}
use Rattle.fv_graph.specs.Words.{passing}
use Rattle.fv_graph.proofs.lemmas.Grouping.{passing_next}
use Rattle.fv_split_plan.specs.headline.View.{PlanView, lane_info}
use Rattle.fv_engine_codes.specs.Plans.{own_lanes}

-- those of loop j among the first n
abbrev pub first_own : PlanView → ℕ → ℕ → List ℕ
first_own p j n = passing (λ l. (lane_info p l).owner == j) 0 n

module _ (p : PlanView) (j n : ℕ) where
  abbrev is_own : ℕ → Bool
  is_own l = (lane_info p l).owner == j

  first_own_next : (b : Bool) → is_own n ≡ b → first_own p j (n + 1) ≡ first_own p j n ++ cond b (n ∷ []) []
  first_own_next b e =
      let z : 0 + n ≡ n = omega arith in
      passing_next is_own 0 n ∙ ap (λ (i : ℕ). first_own p j n ++ cond (is_own i) (i ∷ []) []) z
      ∙ ap (λ (c : Bool). first_own p j n ++ cond c (n ∷ []) []) e

  -- the next lane is the loop's
  pub first_own_here : (lane_info p n).owner ≡ j → first_own p j (n + 1) ≡ first_own p j n ++ n ∷ []
  first_own_here e = first_own_next true (eq-eqb (lane_info p n).owner j e)

  -- it is another's
  pub first_own_other : (lane_info p n).owner ≢ j → first_own p j (n + 1) ≡ first_own p j n
  first_own_other ne = first_own_next false (ne_eqb (lane_info p n).owner j ne) ∙ append-nil (first_own p j n)

-- more lanes have no fewer of the loop's
no_fewer : (p : PlanView) (j n k : ℕ) → length (first_own p j n) ≤ length (first_own p j (k + n))
no_fewer p j n zero = let z : zero + n ≡ n = omega arith in let e = ap (λ (i : ℕ). length (first_own p j i)) z in omega arith
no_fewer p j n (suc k) =
    let z : suc k + n ≡ k + n + 1 = omega arith in
    let e = ap (λ (i : ℕ). length (first_own p j i)) z in
    let q : ℕ → Bool = λ l. (lane_info p l).owner == j in
    let last : List ℕ = cond (q (0 + (k + n))) ((0 + (k + n)) ∷ []) [] in
    let s = ap length (passing_next q 0 (k + n)) in
    omega (arith, no_fewer p j n k, e, s, length-append (first_own p j (k + n)) last)

-- where the next lane is the loop's, the first ones are not all
pub fewer_own : (p : PlanView) (j n : ℕ) → (lane_info p n).owner ≡ j → n < length p.lanes → length (first_own p j n) < length (own_lanes p j)
fewer_own p j n e l =
    let k : ℕ = length p.lanes - (n + 1) in
    let z : k + (n + 1) ≡ length p.lanes = omega arith in
    let a = ap length (first_own_here p j n e) in
    let b = no_fewer p j (n + 1) k in
    let c = ap (λ (i : ℕ). length (first_own p j i)) z in
    omega (arith, length-append (first_own p j n) (n ∷ []))
