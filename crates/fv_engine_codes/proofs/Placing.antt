-- Numbered lanes are places for a loop's code.
use Rattle.std.proofs.Common.{◌≡◌, ℕ, ◌<◌, ◌≤◌, List, length, sym, ap, ◌∙◌, arith, lt-ltb}
use Rattle.std.specs.Prelude.{slice_index, ◌==◌, nat_lt, nat_eq}
use Rattle.std.proofs.lemmas.List.{length-append, get_or_append_left}
use Rattle.fv_outside.specs.headline.Tasks.{Tasks}
use Rattle.fv_outside.specs.Tasks.{times}
use Rattle.fv_graph.specs.Graph.{IsGraph}
use Rattle.fv_graph.proofs.lemmas.Counts.{bit_same, both_of}
use Rattle.fv_graph.proofs.lemmas.ReadsLemmas.{get_passing, place}
use Rattle.fv_loopcode.specs.headline.Obeys.{OfLane}
use Rattle.fv_split_plan.specs.headline.View.{PlanView, lane_info, roles_of}
use Rattle.fv_split_plan.specs.headline.Plans.{PlanReads}
use Rattle.fv_engine_codes.specs.Renumbered.{Places}
use Rattle.fv_engine_codes.specs.Plans.{own_lanes, sources_of, lanes_of_all, locals_of}
use Rattle.fv_engine_codes.specs.Codes.{AreOfPlan}
use Rattle.fv_engine_codes.specs.inner.Numbered.{AreNumbered}
use Rattle.fv_engine_codes.proofs.Once.{owner, times_own, own_seen, named_seen}

module _ (p : PlanView) (g : Tasks) (j : ℕ) (places : List ℕ) (graph : IsGraph g) (reads : PlanReads p) (of : AreOfPlan p g)
    (numbered : AreNumbered places (locals_of p g j)) where
  abbrev mine : List ℕ
  mine = own_lanes p j

  abbrev rest : List ℕ
  rest = lanes_of_all p (sources_of g j)

  few_own : length mine ≤ length (locals_of p g j)
  few_own = omega (arith, length-append mine rest)

  at_own : (k : ℕ) → k < length mine → slice_index (locals_of p g j) k ≡ slice_index mine k
  at_own k l = get_or_append_left mine rest 0 k l

  -- where a lane stands is its number
  number_is : (l k : ℕ) → k < length (locals_of p g j) → slice_index (locals_of p g j) k ≡ l → slice_index places l ≡ k
  number_is l k m e = ap (slice_index places) (sym e) ∙ numbered k m

  pub are_places : Places (roles_of p j) (slice_index places) (locals_of p g j) (length mine)
  are_places = record {
    there = λ l n.
        let s = named_seen p g j l graph reads of n in
        let w = place (locals_of p g j) l s.seen in
        let e = number_is l w.0 w.1 w.2 in let t = w.1 in omega arith;
    back = λ l n.
        let s = named_seen p g j l graph reads of n in
        let w = place (locals_of p g j) l s.seen in
        ap (slice_index (locals_of p g j)) (number_is l w.0 w.1 w.2) ∙ w.2;
    owned = λ l o.
        let s = own_seen p j l o in
        let one : 0 < times l mine = let t = times_own p j l s.0 in let b = bit_same (owner p l) j s.1 in omega arith in
        let w = place mine l one in
        let e = number_is l w.0 (let t = w.1 in let f = few_own in omega arith) (at_own w.0 w.1 ∙ w.2) in
        let t = w.1 in omega arith;
    own_lane = λ k m.
        let w = get_passing (λ l. (lane_info p l).owner == j) 0 (length p.lanes) k 0 m in
        let high = w.high in
        let at : slice_index (locals_of p g j) k ≡ slice_index mine k = at_own k m in
        ap (λ (l : ℕ). (roles_of p j).own (OfLane l)) at
        ∙ both_of (nat_lt (slice_index mine k) (length p.lanes)) (nat_eq (owner p (slice_index mine k)) j)
        (lt-ltb (slice_index mine k) (length p.lanes) (omega (arith, high))) w.passes;
    forth = λ k m. numbered k (let f = few_own in omega arith);
  }
