-- What the parcels of the loops' own edges hold.
use Rattle.std.proofs.Common.{◌≡◌, ℕ, ◌+◌, ◌*◌, ◌/◌, ◌<◌, List, [], ◌∷◌, ◌++◌, length, get_or, sym, ap, ◌∙◌, subst, arith, inl, inr}
use Rattle.std.specs.Global.{Box}
use Rattle.std.proofs.lemmas.Bool.{cases_lt}
use Rattle.std.proofs.lemmas.List.{length-append, get_or_append_left}
use Rattle.std.proofs.Math.Seq.{get_or-append_seam}
use Rattle.std.proofs.lemmas.Nat.{div-mul-add, mod-mul-add}
use Rattle.fv_graph.specs.Graph.{stride, place_in}
use Rattle.fv_engine_crew.specs.declared.content.SeenLanes.{SeenLanes}
use Rattle.fv_engine_crew.specs.declared.start.Start.{Start}
use Rattle.fv_engine_crew.specs.declared.parcel.LoopParcel.{LoopParcel}
use Rattle.fv_engine_crew.specs.declared.content.Writers.{Writers}
use Rattle.fv_engine_crew.specs.declared.content.Content.{Content}
use Rattle.fv_engine_crew.specs.declared.content.Content.TheVariants as holding
use Rattle.fv_engine_crew.specs.Contents.{tasks_in, AreHandedOn, IsContent}
use Rattle.fv_engine_crew.specs.Collected.{AreChainParcels}
use Rattle.fv_engine_crew.proofs.Stepping.{IsNext}

-- the parcel of loop j comes next
pub record IsNextParcel (k : Start) (v j : ℕ) (p : LoopParcel) : Type 0 where
  pub there : j < (tasks_in k).loops
  pub edge : p.edge ≡ v * stride (tasks_in k) + j
  pub key : p.start.value ≡ k

pub next_parcel : (k : Start) (v n : ℕ) (all more : List LoopParcel) (p : LoopParcel) → IsNext all n p more → AreChainParcels k v all → IsNextParcel k v n p
next_parcel k v n all more p next a =
    let there : n < (tasks_in k).loops = omega (arith, next.there, a.count) in
    record {
      there = there;
      edge = ap (λ (q : LoopParcel). q.edge) (sym (next.is p)) ∙ a.edges n p there;
      key = ap (λ (q : LoopParcel). q.start.value) (sym (next.is p)) ∙ a.keys n p there;
    }

module _ (k : Start) (v j : ℕ) (p : LoopParcel) (next : IsNextParcel k v j p) where
  inside : j < stride (tasks_in k)
  inside = omega (arith, next.there)

  place : place_in (tasks_in k) p.edge ≡ j
  place = ap (place_in (tasks_in k)) next.edge ∙ mod-mul-add v (stride (tasks_in k)) j inside

  vector : p.edge / stride (tasks_in k) ≡ v
  vector = ap (λ (e : ℕ). e / stride (tasks_in k)) next.edge ∙ div-mul-add v (stride (tasks_in k)) j inside

  -- it holds what the loop handed on
  pub holds_writers : (w : Box Writers) (c : Content) → c ≡ holding.Writers w → IsContent p.start.value p.edge c → AreHandedOn k j v 0 w.value
  holds_writers w c e is =
      let h : IsContent k p.edge c = subst (λ (s : Start). IsContent s p.edge c) next.key is in
      subst (λ (i : ℕ). AreHandedOn k i v 0 w.value) place
      (subst (λ (n : ℕ). AreHandedOn k (place_in (tasks_in k) p.edge) n 0 w.value) vector (h.writers w e).1)

  -- and no seen lanes
  pub holds_no_seen : (ss : SeenLanes) (c : Content) → c ≡ holding.Seen ss → IsContent p.start.value p.edge c → ⊥
  holds_no_seen ss c e is =
      let h : IsContent k p.edge c = subst (λ (s : Start). IsContent s p.edge c) next.key is in
      let low = (h.seen ss e).0 in absurd (omega (arith, low, place, next.there))

-- the first n loops' writers
pub record AreFirstWriters (k : Start) (v n : ℕ) (ws : List (Box Writers)) : Type 0 where
  pub count : length ws ≡ n
  pub each : (j : ℕ) (d : Box Writers) → j < n → AreHandedOn k j v 0 (get_or ws j d).value

pub writers_push : (k : Start) (v n : ℕ) (ws : List (Box Writers)) (w : Box Writers) → AreHandedOn k n v 0 w.value → AreFirstWriters k v n ws
    → AreFirstWriters k v (n + 1) (ws ++ w ∷ [])
writers_push k v n ws w h a = record {
  count = omega (arith, length-append ws (w ∷ []), a.count);
  each = λ j d l. elim (cases_lt j n) [
    | inl low ↦ subst (λ (b : Box Writers). AreHandedOn k j v 0 b.value)
        (sym (get_or_append_left ws (w ∷ []) d j (omega (arith, low, a.count)))) (a.each j d low)
    | inr high ↦
        let z : n ≡ j = omega (arith, high, l) in
        let at : get_or (ws ++ w ∷ []) j d ≡ w = ap (λ (i : ℕ). get_or (ws ++ w ∷ []) i d) (sym z ∙ sym a.count) ∙ get_or-append_seam ws w [] d in
        subst (λ (b : Box Writers). AreHandedOn k j v 0 b.value) (sym at) (subst (λ (i : ℕ). AreHandedOn k i v 0 w.value) z h)
  ];
}
