use Rattle.std.specs.Prelude.{All}
use Rattle.std.proofs.Common.{rules, ◌≡◌, ℕ, suc, ◌+◌, ◌/◌, ◌<◌, ◌≤◌, ◌++◌, List, length, take, get_or, subst, sym, ap, ◌∙◌, arith, vec_capacity}
use Rattle.std.specs.Global.{Vec}
use Rattle.std.proofs.lemmas.List.{length-append}
use Rattle.std.proofs.lemmas.List.Elements.{All-get_or}
use Rattle.fv_graph.specs.Graph.{stride, place_in}
use Rattle.fv_lines.specs.declared.seen.Seen.{Seen}
use Rattle.fv_engine_codes.specs.Plans.{own_lanes}
use Rattle.fv_engine_crew.specs.Contents.{tasks_in, lanes_seen, AreSeenOf}
use Rattle.fv_engine_crew.specs.inner.Turns.{IsPairAt, source_by}
use Rattle.fv_engine_crew.specs.declared.start.Start.{Start}
use Rattle.fv_engine_crew.specs.declared.content.SeenLanes.{SeenLanes}
use Rattle.fv_engine_crew.specs.declared.parcel.LoopParcel.{LoopParcel}
use Rattle.fv_engine_crew.proofs.Gathering.{seen_append, lanes_of_parcels, lanes_next, lanes_some}
use Rattle.fv_engine_crew.proofs.body.LoopBody.gather.Goals as goal

-- what is known of the parcel at hand
record Here (k : Start) (v : ℕ) (p : LoopParcel) : Type 0 where
  pub key : p.start.value ≡ k
  pub pair : IsPairAt (tasks_in k) v p.edge

here : (k : Start) (v : ℕ) (ps : List LoopParcel) (i : ℕ) (p : LoopParcel) → i < length ps → get_or ps i p ≡ p
    → All (λ (q : LoopParcel). q.start.value ≡ k) ps → All (λ (q : LoopParcel). IsPairAt (tasks_in k) v q.edge) ps → Here k v p
here k v ps i p inside is keys pairs = record {
  key = subst (λ (q : LoopParcel). q.start.value ≡ k) is (All-get_or (λ (q : LoopParcel). q.start.value ≡ k) ps i p inside keys);
  pair = subst (λ (q : LoopParcel). IsPairAt (tasks_in k) v q.edge) is
      (All-get_or (λ (q : LoopParcel). IsPairAt (tasks_in k) v q.edge) ps i p inside pairs);
}

pub unreachable-requires : goal.unreachable-requires
unreachable-requires c =
    let k : Start = c.args.self.now.start in
    let p : LoopParcel = c.parcel-item.result in
    let h : Here k c.args.vector p =
    here k c.args.vector c.args.parcels.now c.loop-parcel.parcel-index p (search (rules, c.loop-parcel-test.true)) (sym c.parcel-item.is)
    c.requires.keys c.requires.pairs in
    let below = subst (λ (s : Start). place_in (tasks_in s) p.edge < (tasks_in s).loops) h.key
    (c.content.ensures.writers c.in_default.field-0 c.in_default.is).0 in
    absurd (omega (arith, below, h.pair.pair))

-- what a parcel at hand brings: the lanes of its source, which the list has room for
record Brings (k : Start) (v i : ℕ) (ps : List LoopParcel) (old : Vec Seen) (more : List Seen) (own : List ℕ) : Type 0 where
  pub mine : AreSeenOf k own (v + 1) more
  pub lanes : lanes_of_parcels k (take (suc i) ps) ≡ lanes_of_parcels k (take i ps) ++ own
  pub fits : length old.items + length more ≤ vec_capacity old

brings : (k : Start) (v i : ℕ) (ps : List LoopParcel) (p : LoopParcel) (old : Vec Seen) (more : SeenLanes) → i < length ps → get_or ps i p ≡ p
    → Here k v p
    → AreSeenOf p.start.value (own_lanes p.start.value.plan.now (source_by (tasks_in p.start.value) p.edge))
    (p.edge / stride (tasks_in p.start.value) + 1) (lanes_seen more)
    → AreSeenOf k (lanes_of_parcels k (take i ps)) (v + 1) old.items → length (lanes_of_parcels k ps) ≤ vec_capacity old
    → Brings k v i ps old (lanes_seen more) (own_lanes k.plan.now (source_by (tasks_in k) p.edge))
brings k v i ps p old more inside is h named seen room =
    let own : List ℕ = own_lanes k.plan.now (source_by (tasks_in k) p.edge) in
    let after : AreSeenOf k own (p.edge / stride (tasks_in k) + 1) (lanes_seen more) =
    subst (λ (s : Start). AreSeenOf s (own_lanes s.plan.now (source_by (tasks_in s) p.edge)) (p.edge / stride (tasks_in s) + 1) (lanes_seen more))
    h.key named in
    let mine : AreSeenOf k own (v + 1) (lanes_seen more) = subst (λ (n : ℕ). AreSeenOf k own (n + 1) (lanes_seen more)) h.pair.vector after in
    let lanes : lanes_of_parcels k (take (suc i) ps) ≡ lanes_of_parcels k (take i ps) ++ own = lanes_next k ps i p inside is in
    record {
      mine = mine;
      lanes = lanes;
      fits = omega (
        arith,
        mine.count,
        seen.count,
        room,
        lanes_some k (suc i) ps,
        ap length lanes,
        length-append (lanes_of_parcels k (take i ps)) own,
      );
    }

pub append_to-requires : goal.append_to-requires
append_to-requires c =
    let k : Start = c.args.self.now.start in
    let i : ℕ = c.loop-parcel.parcel-index in
    let ps : List LoopParcel = c.args.parcels.now in
    let p : LoopParcel = c.parcel-item.result in
    let inside : i < length ps = search (rules, c.loop-parcel-test.true) in
    let is : get_or ps i p ≡ p = sym c.parcel-item.is in
    let h : Here k c.args.vector p = here k c.args.vector ps i p inside is c.requires.keys c.requires.pairs in
    (brings k c.args.vector i ps p c.loop-parcel.seen c.in-Seen.lanes inside is h (c.content.ensures.seen c.in-Seen.lanes c.in-Seen.is).1
    c.loop-parcel.invariant.seen (omega (arith, c.loop-parcel.invariant.room, c.requires.room))).fits

pub loop-parcel-preserved : goal.loop-parcel-preserved
loop-parcel-preserved c =
    let k : Start = c.args.self.now.start in
    let i : ℕ = c.loop-parcel.parcel-index in
    let ps : List LoopParcel = c.args.parcels.now in
    let p : LoopParcel = c.parcel-item.result in
    let next : suc i ≡ i + 1 = omega arith in
    let inside : i < length ps = search (rules, c.loop-parcel-test.true) in
    let is : get_or ps i p ≡ p = sym c.parcel-item.is in
    let h : Here k c.args.vector p = here k c.args.vector ps i p inside is c.requires.keys c.requires.pairs in
    let old : Vec Seen = c.loop-parcel.seen in
    let new : Vec Seen = c.append_to.new.list in
    let more : List Seen = lanes_seen c.in-Seen.lanes in
    let own : List ℕ = own_lanes k.plan.now (source_by (tasks_in k) p.edge) in
    let b : Brings k c.args.vector i ps old more own =
    brings k c.args.vector i ps p old c.in-Seen.lanes inside is h (c.content.ensures.seen c.in-Seen.lanes c.in-Seen.is).1
    c.loop-parcel.invariant.seen (omega (arith, c.loop-parcel.invariant.room, c.requires.room)) in
    record {
      seen = subst (λ (n : ℕ). AreSeenOf k (lanes_of_parcels k (take n ps)) (c.args.vector + 1) new.items) next
          (subst (λ (ls : List ℕ). AreSeenOf k ls (c.args.vector + 1) new.items) (sym b.lanes)
          (subst (λ (ss : List Seen). AreSeenOf k (lanes_of_parcels k (take i ps) ++ own) (c.args.vector + 1) ss) (sym c.append_to.ensures.items)
          (seen_append k (lanes_of_parcels k (take i ps)) own (c.args.vector + 1) old.items more c.loop-parcel.invariant.seen b.mine)));
      room = omega (arith, c.loop-parcel.invariant.room, c.append_to.ensures.room);
    }
