-- Lanes by loop.
use Rattle.std.proofs.Common.{◌≡◌, ℕ, zero, suc, ◌+◌, ◌<◌, ◌≤◌, Bool, cond, List, ◌∷◌, length, map, refl, ap, ap₂, arith}
use Rattle.std.specs.Prelude.{slice_index, ◌==◌}
use Rattle.std.proofs.lemmas.List.{get_or-map}
use Rattle.fv_graph.specs.Words.{passing}
use Rattle.fv_split_plan.specs.headline.View.{PlanView, lane_info}
use Rattle.fv_split_plan.specs.declared.lane.LaneInfo.{LaneInfo}
use Rattle.fv_engine_codes.specs.Plans.{own_lanes}

passing_same : (p q : ℕ → Bool) (from n : ℕ) → ((k : ℕ) → from ≤ k → k < from + n → p k ≡ q k) → passing p from n ≡ passing q from n
passing_same p q from zero h = refl
passing_same p q from (suc n) h =
    ap₂ (λ (b : Bool) (xs : List ℕ). cond b (from ∷ xs) xs) (h from (omega arith) (omega arith))
    (passing_same p q (suc from) n (λ k l m. h k (omega arith) (omega arith)))

-- the loop of each lane
abbrev pub owners_of : PlanView → List ℕ
owners_of p = map (λ (i : LaneInfo). i.owner) p.lanes

pub own_by_keys : (p : PlanView) (j : ℕ) → passing (λ i. slice_index (owners_of p) i == j) 0 (length p.lanes) ≡ own_lanes p j
own_by_keys p j = passing_same (λ i. slice_index (owners_of p) i == j) (λ l. (lane_info p l).owner == j) 0 (length p.lanes)
    (λ k l m. ap (λ (x : ℕ). x == j) (get_or-map (λ (i : LaneInfo). i.owner) p.lanes k (record { owner = 0; history = 0 }) 0 (omega arith)))

pub owner_is : (p : PlanView) (k : ℕ) → k < length p.lanes → slice_index (owners_of p) k ≡ (lane_info p k).owner
owner_is p k l = get_or-map (λ (i : LaneInfo). i.owner) p.lanes k (record { owner = 0; history = 0 }) 0 l
