use Rattle.std.proofs.Common.{◌≡◌, ◌+◌, ◌-◌, ◌<◌, ℕ, ℤ, List, length, drop, sym, ap, ◌∙◌, arith, subst, refl}
use Rattle.std.specs.Prelude.{slice_index}
use Rattle.fv_pool.specs.Layout.{part}
use Rattle.fv_lines.specs.Flat.{HasOrigin}
use Rattle.fv_lines.specs.Shape.{Turned}
use Rattle.fv_lines.specs.Solo.{history_at, len_at, start_at, lengths_in, shapes_in, frames_in, origins_in, written_in, IsSolo}
use Rattle.fv_lines.specs.declared.shape.LaneShape.{LaneShape}
use Rattle.fv_lines.specs.declared.shape.LaneState.{LaneState}
use Rattle.fv_lines.specs.declared.solo.Solo.{Solo}
use Rattle.fv_lines.proofs.lemmas.Parts.{length_part}
use Rattle.fv_lines.proofs.lemmas.Tables.{history_is, len_is, block_is}
use Rattle.fv_lines.proofs.lemmas.Stored.{there_of, lane_is, all_written}
use Rattle.fv_loopcode.specs.headline.Lanes.{Lane}
use Rattle.fv_lines.specs.declared.begun_lane.BegunLane.{BegunLane}
use Rattle.fv_lines.proofs.Reached.{found, field_is}
use Rattle.fv_lines.proofs.Ends.{IsEnded, IsNext, one_ended, next_held, stays_within}
use Rattle.fv_lines.proofs.solo.Solo.finish.Goals as goal

-- a lane's origin, as it is looked up
origin_is : (s : Solo) (i : ℕ) (r : BegunLane) → IsSolo s → i < length (shapes_in s) → slice_index (origins_in s) i ≡ (found s i r).origin
origin_is s i r valid k = field_is (λ (y : BegunLane). y.origin) s i r valid (omega (arith, k, valid.shapes))

pub loop-i-preserved : goal.loop-i-preserved
loop-i-preserved c =
    let i : ℕ = c.loop-i.i in
    let x : LaneShape = c.index-shapes-i.result in
    one_ended (record {
      there = c.loop-i-test.true;
      shapes_long = refl;
      states_long = c.loop-i.auto.states ∙ c.requires.valid.states ∙ sym c.requires.valid.shapes;
      shape_is = c.index-shapes-i.is;
      copied = c.advance.ensures.copied;
      ring = λ large. subst (λ (o : ℕ). Turned x.len (o - x.history + c.args.self.frames) c.advance.result.start)
          (sym (origin_is c.args.self i c.index-begun-i.result c.requires.valid c.loop-i-test.true)) (c.advance.ensures.ring large);
    }) c.loop-i.invariant

pub advance-requires : goal.advance-requires
advance-requires c =
    let i : ℕ = c.loop-i.i in
    let shapes : List LaneShape = c.args.self.shapes.now in
    let x : LaneShape = c.index-shapes-i.result in
    let k : i < length shapes = c.loop-i-test.true in
    let l : i < length c.args.self.layout.now = omega (arith, k, c.requires.valid.shapes) in
    let lane = c.requires.valid.lanes i l in
    let history : history_at shapes i ≡ x.history = history_is shapes i x k ∙ sym (ap (λ (y : LaneShape). y.history) c.index-shapes-i.is) in
    let len : len_at shapes i ≡ x.len = len_is shapes i x k ∙ sym (ap (λ (y : LaneShape). y.len) c.index-shapes-i.is) in
    let block = block_is shapes i x k ∙ sym (ap (λ (y : LaneShape). y.block) c.index-shapes-i.is) in
    let origin : ℕ = slice_index (origins_in c.args.self) i in
    record {
      begun = subst (λ (o : ℕ). HasOrigin x.history x.len o) (origin_is c.args.self i c.index-begun-i.result c.requires.valid k)
          (subst (λ (h : ℕ). HasOrigin h x.len origin) history
          (subst (λ (m : ℕ). HasOrigin (history_at shapes i) m origin) len lane.placed));
      frames = omega (arith, lane.framed, block);
    }

-- what comes after the block of a lane that has ended
next : (s : Solo) (states : List LaneState) (i : ℕ) → IsSolo s → i < length (lengths_in s)
    → IsEnded (shapes_in s) (origins_in s) (frames_in s) states i
    → IsNext (history_at (shapes_in s) i) (len_at (shapes_in s) i) (slice_index (origins_in s) i) (frames_in s) (start_at states i)
next s states i valid l now =
    let lane = valid.lanes i l in
    record {
      placed = lane.placed;
      fits = omega (arith, lane.framed, lane.shaped);
      copied = now.copied;
      ring = now.ring;
    }

pub returns-clause-states : goal.returns-clause-states
returns-clause-states c = λ i l.
    let lane = c.requires.valid.lanes i l in
    let k : i < length c.args.self.shapes.now = omega (arith, l, c.requires.valid.shapes) in
    let now = c.loop-i.invariant i (omega (arith, k, c.loop-i-test.false)) k in (
      lane.long,
      (λ small. omega (arith, now.copied small, lane.framed, lane.shaped)),
      (λ large. stays_within (next c.args.self c.loop-i.states i c.requires.valid l now) large),
    )

pub returns-clause-held : goal.returns-clause-held
returns-clause-held c = λ i there.
    let l : i < length c.args.self.layout.now = there_of c.args.self i there in
    let ls : List ℕ = c.args.self.layout.now in
    let cells : List ℤ = c.args.self.cells.now in
    let lane = c.requires.valid.lanes i l in
    let k : i < length c.args.self.shapes.now = omega (arith, l, c.requires.valid.shapes) in
    let now = c.loop-i.invariant i (omega (arith, k, c.loop-i-test.false)) k in
    next_held (part ls i cells) (slice_index (written_in c.args.self) i) (next c.args.self c.loop-i.states i c.requires.valid l now)
    (length_part ls i cells l c.requires.valid.fits ∙ lane.long) (all_written c.args.self i c.requires.valid c.requires.full l)
    ∙ ap (λ (x : Lane). drop c.args.self.frames x.items) (sym (lane_is c.args.self i there))
