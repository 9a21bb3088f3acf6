-- A lane of a loop that is appended.
use Rattle.std.proofs.Common.{◌≡◌, ℕ, zero, suc, ◌+◌, ◌-◌, ◌<◌, ◌≤◌, List, [], ◌∷◌, ◌++◌, length, map, set, get_or, refl, sym, ap, ap₂}
use Rattle.std.proofs.Common.{subst, ◌∙◌, arith, ℤ, inl, inr}
use Rattle.std.proofs.lemmas.Bool.{cases_lt}
use Rattle.std.proofs.lemmas.List.{length-map, map-set, get_or_append_left, get_or-append_right, get_or-map, set-append_left}
use Rattle.std.proofs.Math.Seq.{map-set_same}
use Rattle.fv_loopcode.specs.Words.{argument}
use Rattle.fv_loopcode.specs.headline.Lanes.{Lane, lane_of, no_lane}
use Rattle.fv_loopcode.specs.Lanes.{all_appended}
use Rattle.fv_lines.specs.Writer.{list_of, part_of, outer_of, written_by, frames_of, shape_of}
use Rattle.fv_lines.specs.Seen.{lane_seen}
use Rattle.fv_lines.specs.declared.writer.LaneWriter.{LaneWriter}
use Rattle.fv_lines.specs.declared.seen.Seen.{Seen}
use Rattle.fv_lines.proofs.lemmas.Tables.{made, made_more}
use Rattle.fv_lines.specs.declared.shape.LaneShape.{LaneShape}
use Rattle.fv_engine_codes.specs.Lanes.{lane_open, rest_of_writer}

-- these samples more
pub record MoreSamples (old new : LaneWriter) (xs : List ℤ) : Type 0 where
  pub list : list_of new ≡ list_of old ++ xs
  pub written : written_by new ≡ written_by old + length xs
  pub frames : frames_of new ≡ frames_of old
  pub shape : shape_of new ≡ shape_of old
  pub part : part_of new ≡ part_of old
  pub outer : outer_of new ≡ outer_of old

-- the lane with these samples more
abbrev pub with_more : Lane → List ℤ → Lane
with_more lane xs = all_appended lane (argument xs) (length xs)

written_more : {old new : LaneWriter} {xs : List ℤ} → MoreSamples old new xs → lane_open new ≡ with_more (lane_open old) xs
written_more {old} {new} {xs} m =
    ap₂ (λ (s : LaneShape) (f : ℕ). made s.history (list_of new) (f - written_by new)) m.shape m.frames
    ∙ made_more (shape_of old).history (frames_of old) (written_by old) (written_by new) (list_of old) (list_of new) xs m.list m.written

rest_same : {old new : LaneWriter} {xs : List ℤ} → MoreSamples old new xs → rest_of_writer new ≡ rest_of_writer old
rest_same m = λ i. record { part = m.part i; outer = m.outer i; shape = m.shape i; frames = m.frames i }

-- a lane of the loop's own
pub own_lane : (ws : List LaneWriter) (ss : List Seen) (l : ℕ) (w : LaneWriter) → l < length ws → w ≡ get_or ws l w
    → lane_of (map lane_open ws ++ map lane_seen ss) l ≡ lane_open w
own_lane ws ss l w there at =
    let long : l < length (map lane_open ws) = subst (λ (n : ℕ). l < n) (sym (length-map ws lane_open)) there in
    get_or_append_left (map lane_open ws) (map lane_seen ss) no_lane l long ∙ get_or-map lane_open ws l w no_lane there ∙ ap lane_open (sym at)

pub lane_set : (ws : List LaneWriter) (ss : List Seen) (l : ℕ) (old new : LaneWriter) (xs : List ℤ) → l < length ws
    → old ≡ get_or ws l old → MoreSamples old new xs
    → map lane_open (set ws l new) ++ map lane_seen ss
    ≡ set (map lane_open ws ++ map lane_seen ss) l (with_more (lane_of (map lane_open ws ++ map lane_seen ss) l) xs)
lane_set ws ss l old new xs there at m =
    let fs : List Lane = map lane_open ws in
    let gs : List Lane = map lane_seen ss in
    let long : l < length fs = subst (λ (n : ℕ). l < n) (sym (length-map ws lane_open)) there in
    let is : lane_of (fs ++ gs) l ≡ lane_open old = own_lane ws ss l old there at in
    ap (λ (zs : List Lane). zs ++ gs) (map-set lane_open ws l new) ∙ sym (set-append_left fs gs l (lane_open new) long)
    ∙ ap (λ (y : Lane). set (fs ++ gs) l y) (written_more m ∙ ap (λ (z : Lane). with_more z xs) (sym is))

pub rest_set : (ws : List LaneWriter) (l : ℕ) (old new : LaneWriter) (xs : List ℤ) → old ≡ get_or ws l old → MoreSamples old new xs
    → map rest_of_writer (set ws l new) ≡ map rest_of_writer ws
rest_set ws l old new xs at m = map-set_same rest_of_writer ws l new old (rest_same m ∙ ap rest_of_writer at)

-- a seen lane takes no more
seen_full : (ss : List Seen) (k : ℕ) → (get_or (map lane_seen ss) k no_lane).room ≡ 0
seen_full [] zero = refl
seen_full [] (suc k) = refl
seen_full (s ∷ ss) zero = refl
seen_full (s ∷ ss) (suc k) = seen_full ss k

no_room : (ws : List LaneWriter) (ss : List Seen) (l : ℕ) → length ws ≤ l → (lane_of (map lane_open ws ++ map lane_seen ss) l).room ≡ 0
no_room ws ss l le =
    let same : length (map lane_open ws) ≡ length ws = length-map ws lane_open in
    ap (λ (z : Lane). z.room) (get_or-append_right (map lane_open ws) (map lane_seen ss) (length ws) l no_lane same le)
    ∙ seen_full ss (l - length ws)

-- only a lane of the loop's own has room
pub has_room : (ws : List LaneWriter) (ss : List Seen) (l : ℕ) → 1 ≤ (lane_of (map lane_open ws ++ map lane_seen ss) l).room → l < length ws
has_room ws ss l room = elim (cases_lt l (length ws)) [
  | inl low ↦ low
  | inr high ↦ absurd (omega (arith, room, no_room ws ss l high))
]
