-- The lanes of one worker as a store.
use Rattle.std.proofs.Common.{◌≡◌, ◌+◌, ◌-◌, ◌<◌, ℕ, length, take, drop, subst, sym, ap, ◌∙◌, arith}
use Rattle.std.specs.Prelude.{slice_index}
use Rattle.std.proofs.lemmas.List.{length-take-le, length-take, length-drop, length-append}
use Rattle.fv_pool.specs.Layout.{part}
use Rattle.fv_lines.specs.Hold.{from_start}
use Rattle.fv_lines.proofs.lemmas.Parts.{length_part}
use Rattle.fv_base.proofs.lemmas.Lists.{length_table, get_or_table}
use Rattle.fv_loopcode.specs.headline.Lanes.{Lane, no_lane, lane_of}
use Rattle.fv_lines.specs.Solo.{history_at, first_at, list_at, lanes_of, lane_at, lengths_in, shapes_in}
use Rattle.fv_lines.specs.Solo.{cells_in, frames_in, origins_in, written_in, IsSolo, AreFull}
use Rattle.fv_lines.specs.declared.solo.Solo.{Solo}

-- a lane that is there has a length
pub there_of : (s : Solo) (i : ℕ) → i < length (lanes_of s) → i < length (lengths_in s)
there_of s i l = subst (λ (n : ℕ). i < n) (length_table (length (lengths_in s)) (lane_at s)) l

-- a lane among all
pub lane_there : (s : Solo) (i : ℕ) → i < length (lengths_in s) → lane_of (lanes_of s) i ≡ lane_at s i
lane_there s i l = get_or_table (length (lengths_in s)) (lane_at s) i no_lane l

pub lane_is : (s : Solo) (i : ℕ) → i < length (lanes_of s) → lane_of (lanes_of s) i ≡ lane_at s i
lane_is s i l = lane_there s i (there_of s i l)

-- a lane's list has its history and the samples that are written
pub length_list : (s : Solo) (i : ℕ) → IsSolo s → i < length (lengths_in s)
    → length (list_at s i) ≡ history_at (shapes_in s) i + slice_index (written_in s) i
length_list s i valid l =
    let lane = valid.lanes i l in
    let cells = part (lengths_in s) i (cells_in s) in
    let long : length cells ≡ slice_index (lengths_in s) i = length_part (lengths_in s) i (cells_in s) l valid.fits in
    let start = first_at (shapes_in s) (origins_in s) i in
    length-take-le (history_at (shapes_in s) i + slice_index (written_in s) i) (from_start start cells)
    (omega (
      arith,
      length-append (drop start cells) (take start cells),
      length-drop start cells,
      length-take start cells,
      long,
      lane.long,
      lane.shaped,
      lane.framed,
      lane.upto,
    ))

-- where no lane takes a sample more, each has all its samples
pub all_written : (s : Solo) (i : ℕ) → IsSolo s → AreFull (lanes_of s) → i < length (lengths_in s)
    → slice_index (written_in s) i ≡ frames_in s
all_written s i valid full l =
    let there : i < length (lanes_of s) = subst (λ (n : ℕ). i < n) (sym (length_table (length (lengths_in s)) (lane_at s))) l in
    let none : frames_in s - slice_index (written_in s) i ≡ 0 = sym (ap (λ (x : Lane). x.room) (lane_there s i l)) ∙ full i there in
    omega (arith, (valid.lanes i l).upto)
