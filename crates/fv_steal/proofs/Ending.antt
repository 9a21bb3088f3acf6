-- What goes into a board and what comes out of it.
use Rattle.std.proofs.Common.{◌≡◌, ℕ, zero, suc, ◌+◌, ◌<◌, List, [], ◌∷◌, length, take, drop, ◌++◌, get_or, refl, sym, ap, ◌∙◌, arith}
use Rattle.std.proofs.Math.Seq.{take-append_seam}
use Rattle.atomic_table.specs.Seated.{TableId}
use Rattle.fv_ready.specs.declared.view.About.{About}
use Rattle.fv_ready.specs.declared.view.Deed.{Deed}
use Rattle.fv_ready.specs.Rule.{done_by}
use Rattle.fv_ready.specs.declared.seat.WorkerSeat.{WorkerSeat}
use Rattle.fv_ready.specs.Seats.{view_of}
use Rattle.fv_ready.specs.Begun.{AreEntries, AreFirstSeats}
use Rattle.fv_ready.specs.Closed.{AreParcels}
use Rattle.fv_ready.specs.Counted.{told_by}
use Rattle.fv_steal.specs.Parcels.{AreParcelsFrom}

-- what a list is after a slice of all of it was written
pub written : {X : Type 0} (n : ℕ) (new old : List X) → n ≡ length new → take n (new ++ drop (length new) old) ≡ new
written n new old e = ap (λ k. take k (new ++ drop (length new) old)) e ∙ take-append_seam new (drop (length new) old)

module _ {C Key : Type 0} (edge_of : C → ℕ) (key_of : C → Key) where
  pub are_entries : (key : Key) (n : ℕ) (ps : List C) → AreParcelsFrom edge_of key_of key 0 n ps → AreEntries edge_of key_of ps
  are_entries key n ps h = record {
    edges = λ k d l. let e = h.edges k d (let c = h.count in omega arith) in omega arith;
    keys = λ k d l. h.keys k d (let c = h.count in omega arith) ∙ sym (h.keys 0 d (let c = h.count in omega arith));
  }

  edge_at : (a : About C) (k : ℕ) (ps : List C) → AreParcels edge_of key_of a k ps → (i : ℕ) (d : C) → i < length ps → edge_of (get_or ps i d) ≡ k + i
  edge_at a k [] h i d l = absurd (omega arith)
  edge_at a k (p ∷ ps) h zero d l = let e = h.0.0 in omega arith
  edge_at a k (p ∷ ps) h (suc i) d l = let e = edge_at a (suc k) ps h.1 i d (omega arith) in omega arith

  key_at : (a : About C) (k : ℕ) (ps : List C) → AreParcels edge_of key_of a k ps → (i : ℕ) (d : C) → i < length ps
      → key_of (get_or ps i d) ≡ key_of a.sample.value
  key_at a k [] h i d l = absurd (omega arith)
  key_at a k (p ∷ ps) h zero d l = h.0.1
  key_at a k (p ∷ ps) h (suc i) d l = key_at a (suc k) ps h.1 i d (omega arith)

  pub parcels_from : (a : About C) (key : Key) (k n : ℕ) (ps : List C) → length ps ≡ n → AreParcels edge_of key_of a k ps → key_of a.sample.value ≡ key
      → AreParcelsFrom edge_of key_of key k n ps
  parcels_from a key k n ps long h same = record {
    count = long;
    edges = λ i d l. edge_at a k ps h i d (omega arith);
    keys = λ i d l. key_at a k ps h i d (omega arith) ∙ same;
  }

  -- seats that have done nothing tell nothing
  pub told_none : (f : Deed → ℕ) (id : TableId) (a : About C) (k : ℕ) (seats : List (WorkerSeat C))
      → AreFirstSeats edge_of key_of id a k seats → told_by f seats ≡ 0
  told_none f id a k [] h = refl
  told_none f id a k (s ∷ ss) h =
      let e : done_by f (view_of s) ≡ 0 = ap (done_by f) h.0.view in
      let r = told_none f id a (suc k) ss h.1 in omega arith
