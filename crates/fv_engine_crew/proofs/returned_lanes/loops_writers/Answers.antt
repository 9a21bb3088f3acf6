use Rattle.std.proofs.Common.{◌≡◌, ℕ, ◌+◌, List, [], ◌∷◌, ◌++◌, length, drop, sym, ap, ◌∙◌, subst, arith}
use Rattle.std.specs.Global.{Box}
use Rattle.std.specs.Vec.Iter.{into_iter_items}
use Rattle.std.proofs.lemmas.List.{length_push}
use Rattle.fv_engine_crew.specs.declared.start.Start.{Start}
use Rattle.fv_engine_crew.specs.declared.parcel.LoopParcel.{LoopParcel}
use Rattle.fv_engine_crew.specs.declared.content.Writers.{Writers}
use Rattle.fv_engine_crew.proofs.Handed.{AreFirstWriters, next_parcel, holds_writers, holds_no_seen, writers_push}
use Rattle.fv_engine_crew.proofs.Stepping.{next_of, none_left}
use Rattle.fv_engine_crew.proofs.returned_lanes.loops_writers.Goals as goal

pub loop-parcel-init : goal.loop-parcel-init
loop-parcel-init c =
    let given = c.into_iter-parcel-iterator.ensures.into_iter_gives in
    let none : length c.args.writers.items ≡ 0 = omega (arith, c.requires.none, c.args.writers.ok) in
    record {
      left = given.0;
      long = omega (arith, given.1, ap length given.0, c.args.parcels.ok);
      fewer = omega arith;
      count = none;
      room = omega (arith, c.requires.room, c.args.parcels.ok);
      writers = λ v a. record { count = none; each = λ j d l. absurd (omega arith) };
    }

pub unreachable-requires : goal.unreachable-requires
unreachable-requires c =
    let at = c.loop-parcel in
    let p : LoopParcel = c.in-Some.parcel in
    let n : ℕ = length at.yielded in
    let all : List LoopParcel = c.args.parcels.items in
    let more : List LoopParcel = into_iter_items c.next.new.self in
    let next = next_of all (into_iter_items at.parcel-iterator) more p n at.invariant.left c.in-Some.ensures.steps.0 in
    holds_no_seen c.args.start.now c.requires.parcels.0 n p (next_parcel c.args.start.now c.requires.parcels.0 n all more p next c.requires.parcels.1)
    c.in_default.field-0 c.into_content.result c.in_default.is c.into_content.ensures

pub push_reserved-requires : goal.push_reserved-requires
push_reserved-requires c =
    let at = c.loop-parcel in
    let next = next_of c.args.parcels.items (into_iter_items at.parcel-iterator) (into_iter_items c.next.new.self) c.in-Some.parcel (length at.yielded)
    at.invariant.left c.in-Some.ensures.steps.0 in
    omega (arith, next.there, at.invariant.count, at.invariant.room, at.writers.ok)

pub loop-parcel-preserved : goal.loop-parcel-preserved
loop-parcel-preserved c =
    let at = c.loop-parcel in
    let k : Start = c.args.start.now in
    let p : LoopParcel = c.in-Some.parcel in
    let n : ℕ = length at.yielded in
    let all : List LoopParcel = c.args.parcels.items in
    let more : List LoopParcel = into_iter_items c.next.new.self in
    let one : Box Writers = c.in-Writers.one in
    let steps = c.in-Some.ensures.steps in
    let next = next_of all (into_iter_items at.parcel-iterator) more p n at.invariant.left steps.0 in
    let long : length (at.yielded ++ p ∷ []) ≡ n + 1 = length_push at.yielded p in
    record {
      left = next.then ∙ ap (λ (i : ℕ). drop i all) (sym long);
      long = let was = at.invariant.long in let gone = steps.1 in let short = ap length steps.0 in omega arith;
      fewer = omega (arith, long, next.there);
      count = omega (arith, ap length c.push_reserved.ensures.items, length_push at.writers.items one, at.invariant.count, long);
      room = omega (arith, c.push_reserved.ensures.capacity, at.invariant.room);
      writers = λ v a.
          subst (λ (ws : List (Box Writers)). AreFirstWriters k v (length (at.yielded ++ p ∷ [])) ws) (sym c.push_reserved.ensures.items)
          (subst (λ (i : ℕ). AreFirstWriters k v i (at.writers.items ++ one ∷ [])) (sym long)
          (writers_push k v n at.writers.items one
          (holds_writers k v n p (next_parcel k v n all more p next a) one c.into_content.result c.in-Writers.is c.into_content.ensures)
          (at.invariant.writers v a)));
    }

pub returns : goal.returns
returns c = λ v a.
    let at = c.loop-parcel in
    let all : length at.yielded ≡ length c.args.parcels.items =
    none_left c.args.parcels.items (into_iter_items at.parcel-iterator) (length at.yielded) at.invariant.left at.invariant.fewer
    (omega (arith, at.invariant.long, c.in-None.ensures.steps.0)) in
    let w = at.invariant.writers v a in
    record { count = omega (arith, w.count, all, a.count); each = λ j d l. w.each j d (omega (arith, l, all, a.count)) }
