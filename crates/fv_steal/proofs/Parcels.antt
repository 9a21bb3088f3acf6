-- One parcel more is received, or handed.
use Rattle.std.proofs.Common.{◌≡◌, ◌≢◌, ℕ, zero, suc, ◌+◌, ◌<◌, List, [], ◌∷◌, ◌++◌, length, get_or, take, drop, map, sym, ap, ◌∙◌, subst, arith}
use Rattle.std.proofs.Common.{Option, Some, None, All}
use Rattle.std.proofs.lemmas.List.{take_more, map_push, same_from_push}
use Rattle.std.proofs.lemmas.List.Elements.{All-push}
use mathlib.Core.Logic.{dite}
use native.Mathlib.Decide.{ℕ_discrete}
use Rattle.fv_outside.specs.headline.Tasks.{Tasks}
use Rattle.fv_outside.specs.Tasks.{times, task_count}
use Rattle.fv_graph.specs.Graph.{inward, outward}
use Rattle.fv_graph.specs.Wires.{IsWires, wires_of}
use Rattle.fv_graph.proofs.lemmas.Counts.{bit_apart}
use Rattle.fv_ready.specs.Rule.{places}
use Rattle.fv_ready.specs.Carried.{slot_at, with_slot}
use Rattle.fv_steal.specs.Moves.{AreParcelsOf}
use Rattle.fv_steal.specs.inner.Steps.{AreFull, AreEmpty}
use Rattle.fv_steal.proofs.Lists.{times_at, times_cut, times_drop, times_take, apart_behind, apart_before}
use Rattle.fv_steal.proofs.Slots.{slot_with, slot_else}
use Rattle.fv_steal.proofs.Edges.{inward_once, outward_once, not_inward}

-- what follows a place stands in the list
behind_in : (xs : List ℕ) (i x : ℕ) → 0 < times x (drop i xs) → 0 < times x xs
behind_in xs i x h = let c = times_cut xs i x in omega arith

before_in : (xs : List ℕ) (i x : ℕ) → 0 < times x (take i xs) → 0 < times x xs
before_in xs i x h = let c = times_cut xs i x in omega arith

module _ {C Key : Type 0} (edge_of : C → ℕ) (key_of : C → Key) (key : Key) where
  pub parcels_more : (es : List ℕ) (i : ℕ) (ps qs : List C) (p : C) → i < length es → AreParcelsOf edge_of key_of key (take i es) ps
      → edge_of p ≡ get_or es i 0 → key_of p ≡ key → qs ≡ ps ++ p ∷ [] → AreParcelsOf edge_of key_of key (take (i + 1) es) qs
  parcels_more es i ps qs p low h at keyed is = subst (AreParcelsOf edge_of key_of key (take (i + 1) es)) (sym is) (record {
    edges_are = map_push edge_of ps p ∙ (λ k. h.edges_are k ++ at k ∷ []) ∙ sym (take_more es i 0 low);
    keys = All-push (λ q. key_of q ≡ key) ps p h.keys keyed;
  })

  all_front : (xs ys : List C) → All (λ q. key_of q ≡ key) (xs ++ ys) → All (λ q. key_of q ≡ key) xs
  all_front [] ys h k d l = absurd (omega arith)
  all_front (x ∷ xs) ys h zero d l = h 0 d (omega arith)
  all_front (x ∷ xs) ys h (suc k) d l = all_front xs ys (λ j e m. h (suc j) e (omega arith)) k d (omega arith)

  last_one : (xs : List C) (y : C) → All (λ q. key_of q ≡ key) (xs ++ y ∷ []) → key_of y ≡ key
  last_one [] y h = h 0 y (omega arith)
  last_one (x ∷ xs) y h = last_one xs y (λ j e m. h (suc j) e (omega arith))

  pub record AreFewer (es : List ℕ) (k : ℕ) (ps : List C) (p : C) : Type 0 where
    pub parcels : AreParcelsOf edge_of key_of key (take k es) ps
    pub edge : edge_of p ≡ get_or es k 0
    pub keyed : key_of p ≡ key

  pub parcels_less : (es : List ℕ) (k : ℕ) (ps qs : List C) (p : C) → k < length es → qs ≡ ps ++ p ∷ []
      → AreParcelsOf edge_of key_of key (take (k + 1) es) qs → AreFewer es k ps p
  parcels_less es k ps qs p low is h =
      let e : map edge_of ps ++ edge_of p ∷ [] ≡ take k es ++ get_or es k 0 ∷ [] = sym (map_push edge_of ps p) ∙ ap (map edge_of) (sym is) ∙ h.edges_are
      ∙ take_more es k 0 low in
      let s = same_from_push (map edge_of ps) (take k es) (edge_of p) (get_or es k 0) e in
      let keys = subst (All (λ q. key_of q ≡ key)) is h.keys in
      record { parcels = record { edges_are = s.0; keys = all_front ps (p ∷ []) keys }; edge = s.1; keyed = last_one ps p keys }

module _ {C : Type 0} (g : Tasks) (ws : IsWires (wires_of g)) (t : ℕ) (there : t < task_count g) where
  -- an edge into the task is received
  pub full_behind : (i : ℕ) (slots slots' : List (ℕ × Option C)) → i < length (inward g t) → AreFull slots (drop i (inward g t))
      → slots' ≡ with_slot slots (get_or (inward g t) i 0) None → AreFull slots' (drop (i + 1) (inward g t))
  full_behind i slots slots' low full is e among =
      let es = inward g t in let ne = apart_behind es i 0 e (inward_once g ws t there) low among in
      let d = times_drop es i 0 e low in let f = full e (omega arith) in
      (f.0, ap (λ l. slot_at l e) is ∙ slot_else slots (get_or es i 0) None e ne ∙ f.1)

  pub empty_still : (i : ℕ) (slots slots' : List (ℕ × Option C)) → i < length (inward g t) → AreEmpty slots (outward g t)
      → slots' ≡ with_slot slots (get_or (inward g t) i 0) None → AreEmpty slots' (outward g t)
  empty_still i slots slots' low empty is e among =
      let es = inward g t in let o = not_inward g ws t there e among in let a = times_at es i 0 low in
      let ne : e ≢ get_or es i 0 = λ q. let z : times e es ≡ times (get_or es i 0) es = ap (λ k. times k es) q in absurd (omega arith) in
      ap (λ l. slot_at l e) is ∙ slot_else slots (get_or es i 0) None e ne ∙ empty e among

  -- an edge out of it is handed
  pub empty_before : (k : ℕ) (slots slots' : List (ℕ × Option C)) (y : Option C) → k < length (outward g t) → AreEmpty slots (take (k + 1) (outward g t))
      → slots' ≡ with_slot slots (get_or (outward g t) k 0) y → AreEmpty slots' (take k (outward g t))
  empty_before k slots slots' y low empty is e among =
      let es = outward g t in let ne = apart_before es k 0 e (outward_once g ws t there) low among in
      let d = times_take es k 0 e low in
      ap (λ l. slot_at l e) is ∙ slot_else slots (get_or es k 0) y e ne ∙ empty e (omega arith)

  pub full_more : (k : ℕ) (slots slots' : List (ℕ × Option C)) (p : C) → k < length (outward g t) → AreFull slots (drop (k + 1) (outward g t))
      → 0 < times (get_or (outward g t) k 0) (places slots)
      → slots' ≡ with_slot slots (get_or (outward g t) k 0) (Some p) → AreFull slots' (drop k (outward g t))
  full_more k slots slots' p low full has is e among =
      let es = outward g t in let d = times_drop es k 0 e low in dite (ℕ_discrete e (get_or es k 0))
      (λ q. (p, ap (λ l. slot_at l e) is ∙ ap (λ j. slot_at (with_slot slots (get_or es k 0) (Some p)) j) q ∙ slot_with slots (get_or es k 0) (Some p) has))
      (λ ne. let z = bit_apart (get_or es k 0) e (λ q. ne (sym q)) in let f = full e (omega arith) in
      (f.0, ap (λ l. slot_at l e) is ∙ slot_else slots (get_or es k 0) (Some p) e ne ∙ f.1))
