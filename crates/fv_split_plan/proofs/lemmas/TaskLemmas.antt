-- What plans do, and what they have.
use Rattle.std.proofs.Common.{◌≡◌, inl, inr, ℕ, zero, suc, ◌+◌, ◌<◌, ◌≤◌, length, refl, sym, ap, ◌∙◌, subst, arith, true, false}
use Rattle.std.specs.Prelude.{◌&&◌, nat_lt, nat_eq}
use Rattle.std.proofs.lemmas.Bool.{and_parts, and_right, cases_eq, eq-eqb, eqb-true, ne_eqb, lt-ltb, ltb-true}
use Rattle.fv_num.specs.headline.Frames.{column}
use Rattle.fv_signal.specs.headline.Value.{Graph, value}
use Rattle.fv_components.specs.headline.Reach.{at}
use Rattle.fv_loopcode.specs.headline.Obeys.{Place, OfLane, OfCells}
use Rattle.fv_loopcode.specs.Obeys.{IsAmong, ObeysAt, window}
use Rattle.fv_loopcode.proofs.lemmas.Tasks.{tasks_are_done}
use Rattle.fv_loopcode.proofs.lemmas.Streams.{streams_obey}
use Rattle.fv_loopcode.proofs.lemmas.Named.{named_alone_count}
use Rattle.fv_analysis.specs.headline.History.{history_of}
use Rattle.fv_analysis.specs.History.{HasReason, OfDelay, OfBack}
use Rattle.fv_analysis.proofs.lemmas.HistoryLemmas.{histories_cover}
use Rattle.fv_split_plan.specs.headline.Fits.{flows}
use Rattle.fv_split_plan.specs.headline.View.{PlanView, lane_info, cells_info, code_of, roles_of}
use Rattle.fv_split_plan.specs.Tasks.{DoesTasks, PlansAreApart, OutputsNeedLoops, HistoriesWithin}

pub plans_do_tasks : (g : Graph) (p : PlanView) → DoesTasks g p
plans_do_tasks g p s X c start from count rest j held inputs state l eh ei ready =
    tasks_are_done (roles_of p j) (window s.names.history (flows g s.names X c) start)
    (code_of p j) held inputs from count rest state obeys ready
  where
    obeys : (n : ℕ) → n < count → ObeysAt (roles_of p j) (window s.names.history (flows g s.names X c) start) held (inputs (from + n))
        (from + n) (code_of p j)
    obeys n m =
        named_alone_count (roles_of p j) (window s.names.history (flows g s.names X c) start)
        (λ k. value g (s.names.held k) X c (start + (from + n))) held (λ i. column X i (start + (from + n))) (inputs (from + n)) (from + n) (code_of p j)
        (λ k h. sym (eh n k m h)) (λ i h. sym (ei n i m h))
        (streams_obey (roles_of p j) s.names.history (flows g s.names X c) (λ k. value g (s.names.held k) X c (start + (from + n)))
        (λ i. column X i (start + (from + n))) start (from + n) (code_of p j)
        (s.obeys j l X c (start + (from + n))))

-- ---- lanes and cells of their own

-- the loop of a place
abbrev pub owner_of : PlanView → Place → ℕ
owner_of p (OfLane l) = (lane_info p l).owner
owner_of p (OfCells k) = (cells_info p k).owner

-- what it says that a loop owns a place
pub record Owns (p : PlanView) (j : ℕ) (q : Place) : Type 0 where
  pub within : IsAmong (length p.lanes) (length p.cells) q
  pub is : owner_of p q ≡ j

pub owns : (p : PlanView) (j : ℕ) (q : Place) → (roles_of p j).own q ≡ true → Owns p j q
owns p j (OfLane l) e =
    let both = and_parts (nat_lt l (length p.lanes)) (nat_eq (lane_info p l).owner j) e in
    record { within = ltb-true l (length p.lanes) both.0; is = eqb-true (lane_info p l).owner j both.1 }
owns p j (OfCells k) e =
    let both = and_parts (nat_lt k (length p.cells)) (nat_eq (cells_info p k).owner j) e in
    record { within = ltb-true k (length p.cells) both.0; is = eqb-true (cells_info p k).owner j both.1 }

pub own_of : (p : PlanView) (j l : ℕ) → l < length p.lanes → (lane_info p l).owner ≡ j → (roles_of p j).own (OfLane l) ≡ true
own_of p j l h e = ap (λ b. b && nat_eq (lane_info p l).owner j) (lt-ltb l (length p.lanes) h) ∙ eq-eqb (lane_info p l).owner j e

not_own : (p : PlanView) (k : ℕ) (q : Place) → (owner_of p q ≡ k → ⊥) → (roles_of p k).own q ≡ false
not_own p k (OfLane l) d = and_right (nat_lt l (length p.lanes)) (nat_eq (lane_info p l).owner k) (ne_eqb (lane_info p l).owner k d)
not_own p k (OfCells c) d = and_right (nat_lt c (length p.cells)) (nat_eq (cells_info p c).owner k) (ne_eqb (cells_info p c).owner k d)

pub plans_are_apart : PlansAreApart
plans_are_apart p r = record {
  one = λ j k q d o. not_own p k q (λ e. d (sym (owns p j q o).is ∙ e));
  there = λ j q o. (owns p j q o).within;
  loaded = λ j l o.
      let there = r.loaded j l o in
      elim (cases_eq (lane_info p l).owner j) [
        | inl e ↦ inl (own_of p j l there e)
        | inr d ↦ inr ((lane_info p l).owner, (r.exact j (lane_info p l).owner).1 (d, l, there, o, refl), d, own_of p (lane_info p l).owner l there refl)
      ];
}

-- ---- loops and histories

pub outputs_need_loops : (g : Graph) (p : PlanView) → OutputsNeedLoops g p
outputs_need_loops g p s l = let h = s.loops.owners (at p.outputs 0) (s.ends 0 l).1 in omega (arith, h)

pub histories_within : (g : Graph) (p : PlanView) → HistoriesWithin g p
histories_within g p s most one few l h = let z = go (history_of g (s.names.lane l)) refl in omega (arith, z, s.lanes.histories l h)
  where
    bound : (n : ℕ) → HasReason g (s.names.lane l) n → n ≤ most
    bound n (OfDelay r x d is e) = few r x d n is
    bound n (OfBack r group i is e z) = omega (arith, one, z)

    go : (n : ℕ) → history_of g (s.names.lane l) ≡ n → n ≤ most
    go zero e = omega arith
    go (suc n) e = subst (λ k. k ≤ most) e (bound (history_of g (s.names.lane l)) ((histories_cover g).least (s.names.lane l) (omega (arith, e))))
