use Rattle.std.proofs.Common.{◌≡◌, ◌+◌, ◌-◌, ◌<◌, ◌≤◌, ℕ, ℤ, List, length, take, drop, set, get_or, sym, ap, ap₂, ◌∙◌, arith, subst, refl}
use Rattle.std.specs.Prelude.{sum, slice_index}
use Rattle.std.proofs.lemmas.List.{length-map}
use Rattle.fv_base.proofs.lemmas.Lists.{table_same}
use Rattle.fv_pool.specs.Layout.{part}
use Rattle.fv_lines.specs.Hold.{from_start}
use Rattle.fv_lines.specs.Solo.{history_at, held_at, held_from, first_at, origins_begun, written_begun}
use Rattle.fv_lines.specs.declared.shape.LaneShape.{LaneShape}
use Rattle.fv_lines.specs.declared.shape.LaneState.{LaneState}
use Rattle.fv_lines.specs.declared.begun_lane.BegunLane.{BegunLane}
use Rattle.fv_lines.proofs.lemmas.Parts.{length_part}
use Rattle.fv_lines.proofs.lemmas.Tables.{no_state, made, lane_in, same_part, same_rest, shapes_fit, start_is}
use Rattle.fv_lines.proofs.Opens.{Before, AreOpened, one_opened, all_shapes}
use Rattle.fv_lines.proofs.solo.Solo.begin.Goals as goal

pub loop-lane-preserved : goal.loop-lane-preserved
loop-lane-preserved c =
    let i : ℕ = c.loop-lane.lane in
    let ls : List ℕ = c.args.layout.now in
    let shapes : List LaneShape = c.args.shapes.now in
    let states : List LaneState = c.args.states.now in
    let b : Before = record { lengths = ls; shapes = shapes; states = states; cells = c.args.cells.now } in
    let begun : List BegunLane = c.loop-lane.begun in
    let now : List ℤ = c.loop-lane.cells in
    let new : List ℤ = c.settle-origin.new.cells in
    let p : ℕ = slice_index c.places-places.result.now i in
    let n : ℕ = c.length-len.result in
    let x : LaneShape = c.index-shapes-i.result in
    let l : i < length ls = omega (arith, c.loop-lane-test.true, c.len-lane-end.ensures) in
    let of_state : i < length states = omega (arith, l, c.requires.lists.1) in
    let place : p ≡ sum (take i ls) = c.places-places.ensures.1 i l in
    let fits : sum ls ≤ length now = omega (arith, c.requires.lists.3, c.loop-lane.auto.cells) in
    let before : take (p + n - p) (drop p now) ≡ part ls i now = same_part ls i p n now place c.length-len.ensures in
    let y : BegunLane = record { shape = x; place = p; origin = c.settle-origin.result; written = 0 } in
    subst (λ (after : List ℤ). AreOpened b (set begun i y) after (i + 1))
    (sym (same_rest ls i p n now new place c.length-len.ensures))
    (one_opened (record {
      new_part = record {
        there = l;
        fits = fits;
        size = c.settle-origin.auto.cells ∙ ap length before ∙ length_part ls i now l fits;
      };
      shapes_long = c.requires.lists.0;
      begun_long = c.loop-lane.auto.begun ∙ c.requires.lists.2;
      shape_is = c.index-shapes-i.is;
      place_is = place;
      none = refl;
      placed = c.settle-origin.ensures.begun.1;
      same = c.settle-origin.ensures.held
          ∙ ap (λ (xs : List ℤ). take x.history (from_start (get_or states i no_state).start xs)) before
          ∙ ap (λ (k : ℕ). take x.history (from_start k (part ls i now))) (sym (start_is states i no_state of_state));
    }) c.loop-lane.invariant)

pub returns-clause-valid : goal.returns-clause-valid
returns-clause-valid c =
    let many : length c.loop-lane.begun ≡ length c.args.layout.now = c.loop-lane.auto.begun ∙ c.requires.lists.2 in
    let all : length c.args.layout.now ≤ c.loop-lane.lane = omega (arith, c.loop-lane-test.false, c.len-lane-end.ensures) in
    record {
      shapes = c.requires.lists.0;
      states = c.requires.lists.1;
      begun = many;
      fits = omega (arith, c.requires.lists.3, c.loop-lane.auto.cells);
      same = all_shapes c.loop-lane.invariant all c.requires.lists.0 many;
      places = (
        length-map c.loop-lane.begun (λ (y : BegunLane). y.place) ∙ many,
        (λ j l. (c.loop-lane.invariant.opened j (omega (arith, l, all)) l).place),
      );
      lanes = λ j l.
          let now = c.loop-lane.invariant.opened j (omega (arith, l, all)) l in
          record {
            long = (c.requires.lanes j l).0;
            shaped = shapes_fit c.args.shapes.now j (omega (arith, l, c.requires.lists.0));
            framed = c.requires.frames j l;
            upto = omega (arith, now.none);
            placed = now.placed;
          };
    }

pub returns-clause-lanes : goal.returns-clause-lanes
returns-clause-lanes c =
    let ls : List ℕ = c.args.layout.now in
    let shapes : List LaneShape = c.args.shapes.now in
    let origins : List ℕ = origins_begun c.loop-lane.begun in
    let written : List ℕ = written_begun c.loop-lane.begun in
    let cells : List ℤ = c.loop-lane.cells in
    table_same (length ls)
    (lane_in (record { lengths = ls; shapes = shapes; origins = origins; written = written; frames = c.args.frames; cells = cells }))
    (λ j. made (history_at shapes j) (held_at ls c.args.states.now (history_at shapes j) j c.args.cells.now) c.args.frames)
    (λ j l.
    let now = c.loop-lane.invariant.opened j (omega (arith, l, c.loop-lane-test.false, c.len-lane-end.ensures)) l in
    let none : history_at shapes j + slice_index written j ≡ history_at shapes j = omega (arith, now.none) in
    ap₂ (made (history_at shapes j))
    (ap (λ (h : ℕ). held_from ls (first_at shapes origins j) h j cells) none ∙ now.held)
    (let r : c.args.frames - slice_index written j ≡ c.args.frames = omega (arith, now.none) in r))
