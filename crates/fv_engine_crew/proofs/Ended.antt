-- What the cells and the states hold when lanes have ended.
use Rattle.std.proofs.Common.{◌≡◌, ℕ, ◌<◌, ◌++◌, List, length, map, take, drop, get_or, refl, sym, ap, ap₂, ◌∙◌, arith, ℤ}
use Rattle.std.specs.List.{flat_map}
use Rattle.std.proofs.lemmas.List.{length-map, take-take}
use Rattle.fv_loopcode.specs.headline.Lanes.{Lane, lane_of}
use Rattle.fv_pool.specs.Layout.{part}
use Rattle.fv_lines.specs.Hold.{from_start, held, Holds}
use Rattle.fv_lines.specs.Solo.{history_at, len_at, start_at, held_at, AreHeld}
use Rattle.fv_lines.specs.Writer.{content_of, shape_of}
use Rattle.fv_lines.specs.declared.shape.LaneShape.{LaneShape}
use Rattle.fv_lines.specs.declared.shape.LaneState.{LaneState}
use Rattle.fv_lines.specs.declared.writer.LaneWriter.{LaneWriter}
use Rattle.fv_lines.specs.Cut.{lengths_by, AreBegun, HoldEnds, HoldStarts}
use Rattle.fv_engine_codes.specs.Lanes.{lane_open}
use Rattle.fv_engine_crew.proofs.lemmas.Handing.{element}
use Rattle.fv_engine_crew.specs.Spread.{HoldAsBefore}
use Rattle.fv_engine_crew.specs.inner.Lanes.{AreSame, AreUntouched}
use Rattle.fv_engine_crew.proofs.Parts.{parts_are}
use Rattle.fv_engine_crew.proofs.Begun.{IsOfLane, open_at, list_begun, later}

-- The same writers as those that began have ended: what they leave lies in the cells, and the states name places in it.
pub record HaveEnded (shapes : List LaneShape) (before : List LaneState) (frames : ℕ) (cells : List ℤ) (begun ws : List LaneWriter) (states : List LaneState)
    (after : List ℤ) : Type 0 where
  pub began : AreBegun shapes before frames cells (length shapes) begun
  pub same : AreSame begun ws
  pub rest : List ℤ
  pub last : after ≡ flat_map content_of ws ++ rest
  pub holds : (i : ℕ) (d : LaneWriter) → i < length ws → Holds (shape_of (get_or ws i d)) (start_at states i) (content_of (get_or ws i d))

module _ {shapes : List LaneShape} {before : List LaneState} {frames : ℕ} {cells : List ℤ} {begun ws : List LaneWriter} {states : List LaneState}
    {after : List ℤ} (e : HaveEnded shapes before frames cells begun ws states after) where
  many : length ws ≡ length shapes
  many = e.same.count ∙ e.began.count

  of_lane : (i : ℕ) (d : LaneWriter) → i < length shapes → IsOfLane shapes frames i (get_or ws i d)
  of_lane i d l = later e.began e.same i d l

  -- a start in what lane i leaves
  held_in : (i : ℕ) (d : LaneWriter) → i < length shapes → held_at (lengths_by shapes) states (history_at shapes i) i after
      ≡ held (shape_of (get_or ws i d)) (start_at states i) (content_of (get_or ws i d))
  held_in i d l =
      let lens : (k : ℕ) (x : LaneWriter) → k < length ws → length (content_of (get_or ws k x)) ≡ len_at shapes k =
      λ k x m. (e.holds k x m).0 ∙ (of_lane k x (omega (arith, m, many))).len in
      ap₂ (λ (n : ℕ) (xs : List ℤ). take n (from_start (start_at states i) xs)) (sym (of_lane i d l).history)
      (ap (part (lengths_by shapes) i) e.last ∙ parts_are ws shapes e.rest many lens i d (omega (arith, l, many)))

  -- each lane's state names a history in its part
  pub are_held : AreHeld (lengths_by shapes) shapes states
  are_held i m =
      let l : i < length shapes = omega (arith, m, length-map shapes (λ (s : LaneShape). s.len)) in
      let d : LaneWriter = element ws i (omega (arith, l, many)) in
      let o : IsOfLane shapes frames i (get_or ws i d) = of_lane i d l in
      let h : Holds (shape_of (get_or ws i d)) (start_at states i) (content_of (get_or ws i d)) = e.holds i d (omega (arith, l, many)) in (
        refl,
        λ low. omega (arith, o.history, o.len, low, h.1 (omega (arith, low, o.history))),
        λ high. omega (arith, o.history, o.len, high, h.2 (omega (arith, high, o.history))),
      )

  -- where the states name the ends of the lists
  pub next : HoldEnds ws states → (i : ℕ) → i < length (lengths_by shapes)
      → held_at (lengths_by shapes) states (history_at shapes i) i after ≡ drop frames (lane_of (map lane_open ws) i).items
  next ends i m =
      let l : i < length shapes = omega (arith, m, length-map shapes (λ (s : LaneShape). s.len)) in
      let there : i < length ws = omega (arith, l, many) in
      let d : LaneWriter = element ws i there in
      held_in i d l ∙ (ends i d there).held_is
      ∙ ap₂ (λ (n : ℕ) (x : Lane). drop n x.items) (of_lane i d l).frames_are (sym (open_at ws i d there))

  -- where they name their beginnings, and nothing was written
  pub as_before : HoldStarts ws states → AreUntouched begun ws → HoldAsBefore shapes before cells states after
  as_before starts untouched i l =
      let there : i < length ws = omega (arith, l, many) in
      let d : LaneWriter = element ws i there in
      held_in i d l ∙ (starts i d there).held_is
      ∙ ap₂ (λ (n : ℕ) (xs : List ℤ). take n xs) (of_lane i d l).history
      (untouched.lists i d (omega (arith, l, e.began.count)) ∙ list_begun e.began i d l)
      ∙ take-take (history_at shapes i) (history_at shapes i) (from_start (start_at before i) (part (lengths_by shapes) i cells)) (omega arith)
