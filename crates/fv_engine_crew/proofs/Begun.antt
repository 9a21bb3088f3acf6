-- Lanes as they begin, and the same ones later.
use Rattle.std.proofs.Common.{◌≡◌, ℕ, ◌-◌, ◌<◌, List, length, map, get_or, sym, ap, ◌∙◌, arith, ℤ}
use Rattle.std.proofs.lemmas.List.{length-map, get_or-map}
use Rattle.std.specs.Prelude.{Vec}
use Rattle.std.specs.declared.alloc.Global.{Global}
use Rattle.fv_base.specs.headline.Lists.{table}
use Rattle.fv_base.proofs.lemmas.Lists.{table_same, table_items}
use Rattle.fv_loopcode.specs.headline.Lanes.{Lane, lane_of, no_lane}
use Rattle.fv_pool.specs.Layout.{part}
use Rattle.fv_lines.proofs.lemmas.Parts.{length_part}
use Rattle.fv_lines.specs.Solo.{history_at, len_at, start_at, held_at, opening_lanes}
use Rattle.fv_lines.specs.Writer.{list_of, shape_of, written_by, frames_of}
use Rattle.fv_lines.specs.declared.shape.LaneShape.{LaneShape}
use Rattle.fv_lines.specs.declared.shape.LaneState.{LaneState}
use Rattle.fv_lines.specs.declared.writer.LaneWriter.{LaneWriter}
use Rattle.fv_lines.specs.Cut.{lengths_by, MayBegin, IsBegun, AreBegun}
use Rattle.fv_engine_codes.specs.Lanes.{lane_open}
use Rattle.fv_engine_crew.specs.Contents.{SameWriter}
use Rattle.fv_engine_crew.proofs.lemmas.Handing.{element}
use Rattle.fv_engine_crew.specs.declared.block.SpreadBlock.{SpreadBlock}
use Rattle.fv_engine_crew.specs.Spread.{MayRunOver}
use Rattle.fv_engine_crew.specs.inner.Lanes.{AreSame}

-- lane i of those that are open
pub open_at : (ws : List LaneWriter) (i : ℕ) (d : LaneWriter) → i < length ws → lane_of (map lane_open ws) i ≡ lane_open (get_or ws i d)
open_at ws i d l = get_or-map lane_open ws i d no_lane l

-- lanes are what their parts are
lane_same : (h n : ℕ) (xs ys : List ℤ) (r s : ℕ) → h ≡ n → xs ≡ ys → r ≡ s
    → (let a : Lane = record { history = h; items = xs; room = r } in a) ≡ (let b : Lane = record { history = n; items = ys; room = s } in b)
lane_same h n xs ys r s a b c =
    ap (λ (k : ℕ). let x : Lane = record { history = k; items = xs; room = r } in x) a
    ∙ ap (λ (zs : List ℤ). let x : Lane = record { history = n; items = zs; room = r } in x) b
    ∙ ap (λ (k : ℕ). let x : Lane = record { history = n; items = ys; room = k } in x) c

-- a block that may run over these cells may begin there
pub may_begin : (b : SpreadBlock) (states : List LaneState) (cells : List ℤ) (rows : List (Vec ℤ Global)) → MayRunOver b states cells rows
    → MayBegin b.shapes.now states b.frames cells
may_begin b states cells rows o =
    let shapes : List LaneShape = b.shapes.now in
    let ls : List ℕ = lengths_by shapes in
    let many : length ls ≡ length shapes = length-map shapes (λ (s : LaneShape). s.len) in
    record {
      count = o.count;
      room = o.room;
      framed = λ i d l. omega (arith, o.framed i (omega (arith, l, many)), get_or-map (λ (s : LaneShape). s.block) shapes i d 0 l);
      holds = λ i d l.
          let there : i < length ls = omega (arith, l, many) in
          let h = o.held_there i there in
          let history : history_at shapes i ≡ (get_or shapes i d).history = get_or-map (λ (s : LaneShape). s.history) shapes i d 0 l in
          let len : len_at shapes i ≡ (get_or shapes i d).len = get_or-map (λ (s : LaneShape). s.len) shapes i d 0 l in (
            length_part ls i cells there o.room ∙ len,
            λ low. omega (arith, history, len, h.1 (omega (arith, low, history))),
            λ high. omega (arith, history, len, h.2 (omega (arith, high, history))),
          );
    }

-- a writer is of the shape of lane i, with the samples of a block to come
pub record IsOfLane (shapes : List LaneShape) (frames i : ℕ) (w : LaneWriter) : Type 0 where
  pub history : (shape_of w).history ≡ history_at shapes i
  pub len : (shape_of w).len ≡ len_at shapes i
  pub frames_are : frames_of w ≡ frames

module _ {shapes : List LaneShape} {states : List LaneState} {frames : ℕ} {cells : List ℤ} {begun : List LaneWriter}
    (h : AreBegun shapes states frames cells (length shapes) begun) where
  -- what a lane begins with
  pub list_begun : (i : ℕ) (d : LaneWriter) → i < length shapes
      → list_of (get_or begun i d) ≡ held_at (lengths_by shapes) states (history_at shapes i) i cells
  list_begun i d l =
      let x : LaneShape = element shapes i l in
      (h.each i x d l).list
      ∙ ap (λ (n : ℕ). held_at (lengths_by shapes) states n i cells) (sym (get_or-map (λ (s : LaneShape). s.history) shapes i x 0 l))

  pub begun_of : (i : ℕ) (d : LaneWriter) → i < length shapes → IsOfLane shapes frames i (get_or begun i d)
  begun_of i d l =
      let x : LaneShape = element shapes i l in
      let b : IsBegun (get_or shapes i x) (start_at states i) frames (part (lengths_by shapes) i cells) (get_or begun i d) = h.each i x d l in
      record {
        history = ap (λ (s : LaneShape). s.history) b.shape_is ∙ sym (get_or-map (λ (s : LaneShape). s.history) shapes i x 0 l);
        len = ap (λ (s : LaneShape). s.len) b.shape_is ∙ sym (get_or-map (λ (s : LaneShape). s.len) shapes i x 0 l);
        frames_are = b.frames_are;
      }

  -- they are the lanes where nothing is written
  pub opening : map lane_open begun ≡ opening_lanes (lengths_by shapes) shapes states frames cells
  opening =
      let f : ℕ → Lane =
      λ i. record { history = history_at shapes i; items = held_at (lengths_by shapes) states (history_at shapes i) i cells; room = frames } in
      let many : length (map lane_open begun) ≡ length (lengths_by shapes) =
      length-map begun lane_open ∙ h.count ∙ sym (length-map shapes (λ (s : LaneShape). s.len)) in
      sym (table_items (map lane_open begun) no_lane)
      ∙ table_same (length (map lane_open begun)) (lane_of (map lane_open begun)) f (λ i m.
      let l : i < length shapes = omega (arith, m, length-map begun lane_open, h.count) in
      let there : i < length begun = omega (arith, l, h.count) in
      let d : LaneWriter = element begun i there in
      let x : LaneShape = element shapes i l in
      let o : IsOfLane shapes frames i (get_or begun i d) = begun_of i d l in
      let nothing : written_by (get_or begun i d) ≡ 0 = (h.each i x d l).written in
      open_at begun i d there ∙ lane_same (shape_of (get_or begun i d)).history (history_at shapes i) (list_of (get_or begun i d))
      (held_at (lengths_by shapes) states (history_at shapes i) i cells) (frames_of (get_or begun i d) - written_by (get_or begun i d)) frames
      o.history (list_begun i d l) (omega (arith, o.frames_are, nothing)))
      ∙ ap (λ (n : ℕ). table n f) many

  -- the same writers later
  pub later : {ws : List LaneWriter} → AreSame begun ws → (i : ℕ) (d : LaneWriter) → i < length shapes → IsOfLane shapes frames i (get_or ws i d)
  later {ws} same i d l =
      let o : IsOfLane shapes frames i (get_or begun i d) = begun_of i d l in
      let s : SameWriter (get_or ws i d) (get_or begun i d) = same.each i d (omega (arith, l, h.count)) in
      record { history = s.history ∙ o.history; len = s.len ∙ o.len; frames_are = s.frames ∙ o.frames_are }
