use Rattle.std.proofs.Common.{◌≡◌, ℕ, ◌+◌, ◌<◌, List, [], ◌∷◌, ◌++◌, length, get_or, sym, ap, ◌∙◌, subst, arith, inl, inr}
use Rattle.std.specs.Global.{Box}
use Rattle.std.proofs.lemmas.Bool.{cases_lt}
use Rattle.std.proofs.lemmas.List.{length-append, get_or_append_left}
use Rattle.std.proofs.Math.Seq.{get_or-append_seam}
use Rattle.fv_graph.specs.Graph.{chain_edge}
use Rattle.fv_engine_crew.specs.declared.start.Start.{Start}
use Rattle.fv_engine_crew.specs.declared.content.Writers.{Writers}
use Rattle.fv_engine_crew.specs.declared.content.Content.TheVariants as holding
use Rattle.fv_engine_crew.specs.declared.parcel.LoopParcel.{LoopParcel}
use Rattle.fv_engine_crew.specs.Contents.{tasks_in, AreHandedOn, IsContent}
use Rattle.fv_engine_crew.proofs.lemmas.Edges.{chain_is_at}
use Rattle.fv_engine_crew.proofs.lemmas.Handing.{content_writers}
use Rattle.fv_steal.specs.Parcels.{AreParcelsFrom}
use Rattle.fv_engine_crew.specs.Entries.{AreEntered}

-- the writers that come next are those of the next loop
pub entered_next : (k : Start) (old rest : List (Box Writers)) (one : Box Writers) (e : ℕ) → e ≡ length old → AreEntered k (old ++ one ∷ rest)
    → IsContent k e (holding.Writers one)
entered_next k old rest one e at a =
    let n : ℕ = length old in
    let l : n < (tasks_in k).loops = omega (arith, a.count, length-append old (one ∷ rest)) in
    let first : chain_edge (tasks_in k) n 0 ≡ e = omega (arith, at) in
    subst (λ (i : ℕ). IsContent k i (holding.Writers one)) first
    (content_writers k n 0 (chain_edge (tasks_in k) n 0) one (chain_is_at (tasks_in k) n 0 l)
    (subst (λ (w : Box Writers). AreHandedOn k n 0 0 w.value) (get_or-append_seam old one rest one) (a.each n one l)))

-- one parcel more
pub parcels_push : (k : Start) (n : ℕ) (ps : List LoopParcel) (p : LoopParcel) → p.edge ≡ n → p.start.value ≡ k
    → AreParcelsFrom (λ (q : LoopParcel). q.edge) (λ (q : LoopParcel). q.start.value) k 0 n ps
    → AreParcelsFrom (λ (q : LoopParcel). q.edge) (λ (q : LoopParcel). q.start.value) k 0 (n + 1) (ps ++ p ∷ [])
parcels_push k n ps p at key a =
    let long : length ps ≡ n = a.count in
    let last : (i : ℕ) (d : LoopParcel) → n ≡ i → get_or (ps ++ p ∷ []) i d ≡ p =
    λ i d z. ap (λ (m : ℕ). get_or (ps ++ p ∷ []) m d) (sym z ∙ sym long) ∙ get_or-append_seam ps p [] d in
    record {
      count = omega (arith, length-append ps (p ∷ []), long);
      edges = λ i d l. elim (cases_lt i n) [
        | inl low ↦ ap (λ (q : LoopParcel). q.edge) (get_or_append_left ps (p ∷ []) d i (omega (arith, low, long))) ∙ a.edges i d low
        | inr high ↦
            let z : n ≡ i = omega (arith, high, l) in
            ap (λ (q : LoopParcel). q.edge) (last i d z) ∙ at ∙ omega (arith, z)
      ];
      keys = λ i d l. elim (cases_lt i n) [
        | inl low ↦ ap (λ (q : LoopParcel). q.start.value) (get_or_append_left ps (p ∷ []) d i (omega (arith, low, long))) ∙ a.keys i d low
        | inr high ↦
            let z : n ≡ i = omega (arith, high, l) in
            ap (λ (q : LoopParcel). q.start.value) (last i d z) ∙ key
      ];
    }
