-- The lanes of the first of the loops that a loop reads.
use Rattle.std.proofs.Common.{◌≡◌, ℕ, suc, ◌+◌, ◌<◌, ◌≤◌, List, [], ◌∷◌, ◌++◌, length, take, drop, get_or, sym, ap, ◌∙◌, arith, append-nil}
use Rattle.std.specs.Prelude.{slice_index, All, ◌==◌}
use Rattle.std.proofs.lemmas.Grind.{flat_map-append}
use Rattle.std.proofs.lemmas.List.{append_assoc, length-append, take-append-drop}
use Rattle.std.proofs.Math.Seq.{take-suc, take-length}
use Rattle.fv_outside.specs.headline.Tasks.{Tasks}
use Rattle.fv_outside.specs.Tasks.{times}
use Rattle.fv_graph.specs.Graph.{IsGraph}
use Rattle.fv_graph.proofs.lemmas.ReadsLemmas.{get_passing}
use Rattle.fv_split_plan.specs.headline.View.{PlanView, lane_info}
use Rattle.fv_engine_codes.specs.Plans.{own_lanes, sources_of, lanes_of_all, locals_of}
use Rattle.fv_engine_codes.specs.inner.Numbered.{AreOnce}
use Rattle.fv_engine_codes.proofs.Numbering.{times_append}
use Rattle.fv_engine_codes.proofs.Once.{lanes_once, lanes_few}

-- a loop's lanes are there
pub own_there : (p : PlanView) (j n : ℕ) → n ≡ length p.lanes → All (λ l. l < n) (own_lanes p j)
own_there p j n e = λ k d l.
    let w = get_passing (λ l. (lane_info p l).owner == j) 0 (length p.lanes) k d l in
    let high = w.high in omega arith

module _ (p : PlanView) (g : Tasks) (j : ℕ) where
  -- the loop's own lanes, and those of the first i loops that it reads
  abbrev pub so_far : ℕ → List ℕ
  so_far i = own_lanes p j ++ lanes_of_all p (take i (sources_of g j))

  pub so_far_next : (i : ℕ) → i < length (sources_of g j) → so_far (i + 1) ≡ so_far i ++ own_lanes p (slice_index (sources_of g j) i)
  so_far_next i l =
      let src : List ℕ = sources_of g j in
      let next : i + 1 ≡ suc i = omega arith in
      ap so_far next
      ∙ ap (λ (xs : List ℕ). own_lanes p j ++ lanes_of_all p xs) (take-suc src i 0 l)
      ∙ ap (λ (xs : List ℕ). own_lanes p j ++ xs) (flat_map-append (own_lanes p) (take i src) (get_or src i 0 ∷ [])
      ∙ ap (λ (xs : List ℕ). lanes_of_all p (take i src) ++ xs) (append-nil (own_lanes p (get_or src i 0))))
      ∙ sym (append_assoc (own_lanes p j) (lanes_of_all p (take i src)) (own_lanes p (get_or src i 0)))

  pub so_far_all : (i : ℕ) → i ≡ length (sources_of g j) → so_far i ≡ locals_of p g j
  so_far_all i e = ap so_far e ∙ ap (λ (xs : List ℕ). own_lanes p j ++ lanes_of_all p xs) (take-length (sources_of g j))

  locals_split : (i : ℕ) → locals_of p g j ≡ so_far i ++ lanes_of_all p (drop i (sources_of g j))
  locals_split i =
      ap (λ (xs : List ℕ). own_lanes p j ++ lanes_of_all p xs) (sym (take-append-drop i (sources_of g j)))
      ∙ ap (λ (xs : List ℕ). own_lanes p j ++ xs) (flat_map-append (own_lanes p) (take i (sources_of g j)) (drop i (sources_of g j)))
      ∙ sym (append_assoc (own_lanes p j) (lanes_of_all p (take i (sources_of g j))) (lanes_of_all p (drop i (sources_of g j))))

  pub so_far_once : IsGraph g → (i : ℕ) → AreOnce (so_far i)
  so_far_once graph i x =
      let o = lanes_once p g j graph x in
      let s = ap (times x) (locals_split i) in
      let a = times_append x (so_far i) (lanes_of_all p (drop i (sources_of g j))) in omega arith

  pub so_far_few : IsGraph g → (i : ℕ) → length (so_far i) ≤ length p.lanes
  so_far_few graph i =
      let f = lanes_few p g j graph in
      let s = ap length (locals_split i) in
      let a = length-append (so_far i) (lanes_of_all p (drop i (sources_of g j))) in omega arith
