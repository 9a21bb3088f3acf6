-- Seen lanes that are put one after another.
use Rattle.std.proofs.Common.{◌≡◌, ℕ, zero, suc, ◌+◌, ◌-◌, ◌<◌, ◌≤◌, List, [], ◌∷◌, ◌++◌}
use Rattle.std.proofs.Common.{length, map, take, get_or, refl, sym, ap, ap₂, ◌∙◌, subst, arith, inl, inr}
use Rattle.std.proofs.lemmas.Bool.{cases_lt}
use Rattle.std.proofs.lemmas.List.{length-append, get_or_append_left, get_or-append_right}
use Rattle.std.proofs.Math.Seq.{take-suc}
use mathlib.Core.List.{append_assoc, append-nil}
use Rattle.fv_lines.specs.declared.seen.Seen.{Seen}
use Rattle.fv_engine_codes.specs.Plans.{own_lanes}
use Rattle.fv_engine_crew.specs.Contents.{tasks_in, AreSeenOf, IsSeenOf}
use Rattle.fv_engine_crew.specs.inner.Turns.{lanes_by, source_by}
use Rattle.fv_engine_crew.specs.declared.start.Start.{Start}
use Rattle.fv_engine_crew.specs.declared.parcel.LoopParcel.{LoopParcel}

pub seen_append : (k : Start) (xs ys : List ℕ) (v : ℕ) (ss ts : List Seen) → AreSeenOf k xs v ss → AreSeenOf k ys v ts → AreSeenOf k (xs ++ ys) v (ss ++ ts)
seen_append k xs ys v ss ts a b = record {
  count = length-append ss ts ∙ ap₂ (λ (m n : ℕ). m + n) a.count b.count ∙ sym (length-append xs ys);
  each = λ i d m. elim (cases_lt i (length xs)) [
    | inl l ↦ subst (λ (x : ℕ). IsSeenOf k x v (get_or (ss ++ ts) i d)) (sym (get_or_append_left xs ys 0 i l))
        (subst (λ (s : Seen). IsSeenOf k (get_or xs i 0) v s) (sym (get_or_append_left ss ts d i (omega (arith, a.count, l)))) (a.each i d l))
    | inr le ↦ subst (λ (x : ℕ). IsSeenOf k x v (get_or (ss ++ ts) i d)) (sym (get_or-append_right xs ys (length xs) i 0 refl le))
        (subst (λ (s : Seen). IsSeenOf k (get_or ys (i - length xs) 0) v s) (sym (get_or-append_right ss ts (length xs) i d a.count le))
        (b.each (i - length xs) d (omega (arith, m, length-append xs ys, le))))
  ];
}

abbrev pub lanes_of_parcels : Start → List LoopParcel → List ℕ
lanes_of_parcels k ps = lanes_by k (map (λ p. p.edge) ps)

lanes_snoc : (k : Start) (qs : List LoopParcel) (p : LoopParcel)
    → lanes_of_parcels k (qs ++ p ∷ []) ≡ lanes_of_parcels k qs ++ own_lanes k.plan.now (source_by (tasks_in k) p.edge)
lanes_snoc k [] p = append-nil (own_lanes k.plan.now (source_by (tasks_in k) p.edge))
lanes_snoc k (q ∷ qs) p =
    ap (λ (xs : List ℕ). own_lanes k.plan.now (source_by (tasks_in k) q.edge) ++ xs) (lanes_snoc k qs p)
    ∙ sym (append_assoc (own_lanes k.plan.now (source_by (tasks_in k) q.edge)) (lanes_of_parcels k qs) (own_lanes k.plan.now (source_by (tasks_in k) p.edge)))

pub lanes_next : (k : Start) (ps : List LoopParcel) (i : ℕ) (p : LoopParcel) → i < length ps → get_or ps i p ≡ p
    → lanes_of_parcels k (take (suc i) ps) ≡ lanes_of_parcels k (take i ps) ++ own_lanes k.plan.now (source_by (tasks_in k) p.edge)
lanes_next k ps i p l e =
    ap (lanes_of_parcels k) (take-suc ps i p l ∙ ap (λ (q : LoopParcel). take i ps ++ q ∷ []) e) ∙ lanes_snoc k (take i ps) p

pub lanes_some : (k : Start) (n : ℕ) (ps : List LoopParcel) → length (lanes_of_parcels k (take n ps)) ≤ length (lanes_of_parcels k ps)
lanes_some k zero ps = omega arith
lanes_some k (suc n) [] = omega arith
lanes_some k (suc n) (p ∷ ps) =
    omega (
      arith,
      length-append (own_lanes k.plan.now (source_by (tasks_in k) p.edge)) (lanes_of_parcels k (take n ps)),
      length-append (own_lanes k.plan.now (source_by (tasks_in k) p.edge)) (lanes_of_parcels k ps),
      lanes_some k n ps,
    )
