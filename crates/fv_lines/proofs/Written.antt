-- A lane of one worker, after samples were written after its others.
use Rattle.std.proofs.Common.{◌≡◌, ◌+◌, ◌-◌, ◌<◌, ◌≤◌, ◌++◌, ℕ, ℤ, List, length, take, set, sym, ap, ap₂, ◌∙◌, arith, subst, refl}
use Rattle.std.specs.Prelude.{slice_index}
use Rattle.std.proofs.lemmas.List.{length-set, length-map, map-set}
use Rattle.std.proofs.Math.Seq.{map-set_same}
use borrow.Rule.Slice.PartMut.{put_mid}
use Rattle.fv_base.specs.headline.Lists.{table}
use Rattle.fv_loopcode.specs.Words.{argument}
use Rattle.fv_loopcode.specs.Lanes.{all_appended}
use Rattle.fv_pool.specs.Layout.{ArePlaces, part}
use Rattle.fv_lines.specs.Hold.{from_start}
use Rattle.fv_lines.specs.Solo.{lengths_in, shapes_in, cells_in, lanes_of, lane_at, IsSolo, IsLane, history_at, block_at, len_at}
use Rattle.fv_lines.specs.Solo.{shapes_begun, places_begun, origins_begun, written_begun, origins_in, written_in}
use Rattle.fv_lines.specs.declared.begun_lane.BegunLane.{BegunLane}
use Rattle.fv_lines.specs.declared.solo.Solo.{Solo}
use Rattle.fv_lines.proofs.lemmas.Parts.{IsNewPart, length_part, length_with}
use Rattle.fv_lines.proofs.lemmas.Tables.{Lists, count_in, lane_in, more, same_rest}
use Rattle.fv_lines.proofs.Reached.{found, cells_found, IsReached, field_is, counted}

-- these cells of the lane, of record x, hold its samples and these values
pub record IsWritten (s : Solo) (i : ℕ) (x : BegunLane) (new values : List ℤ) : Type 0 where
  pub valid : IsSolo s
  pub there : i < length (lengths_in s)
  pub at : IsReached s i x
  pub fits : slice_index (written_in s) i + length values ≤ s.frames
  pub size : length new ≡ length (cells_found s x)
  pub list : take (x.shape.history + x.written + length values) (from_start (x.origin - x.shape.history) new)
      ≡ take (x.shape.history + x.written) (from_start (x.origin - x.shape.history) (cells_found s x)) ++ values

-- the cells of all lanes, and how many samples are written of each
abbrev pub cells_after : Solo → BegunLane → List ℤ → List ℤ
cells_after s x new = put_mid x.place (x.place + x.shape.len - x.place) (cells_in s) new

abbrev pub written_after : Solo → ℕ → ℕ → List ℕ
written_after s i count = set (written_in s) i (slice_index (written_in s) i + count)

-- the records after n samples more were written of lane i: nothing else differs
pub record HaveMore (s : Solo) (i n : ℕ) (begun : List BegunLane) : Type 0 where
  pub count : length begun ≡ length s.begun.now
  pub shapes : shapes_begun begun ≡ shapes_begun s.begun.now
  pub places : places_begun begun ≡ places_begun s.begun.now
  pub origins : origins_begun begun ≡ origins_begun s.begun.now
  pub written : written_begun begun ≡ written_after s i n

pub have_more : (s : Solo) (i n : ℕ) (r q : BegunLane) → IsSolo s → i < length (lengths_in s) → HaveMore s i n (set s.begun.now i (record {
  shape = (found s i r).shape;
  place = (found s i r).place;
  origin = (found s i r).origin;
  written = (found s i q).written + n;
}))
have_more s i n r q valid l =
    let x : BegunLane = record {
      shape = (found s i r).shape;
      place = (found s i r).place;
      origin = (found s i r).origin;
      written = (found s i q).written + n;
    } in
    record {
      count = length-set s.begun.now i x;
      shapes = map-set_same (λ (y : BegunLane). y.shape) s.begun.now i x r refl;
      places = map-set_same (λ (y : BegunLane). y.place) s.begun.now i x r refl;
      origins = map-set_same (λ (y : BegunLane). y.origin) s.begun.now i x r refl;
      written = map-set (λ (y : BegunLane). y.written) s.begun.now i x
          ∙ ap (λ (k : ℕ). set (written_in s) i (k + n)) (sym (field_is (λ (y : BegunLane). y.written) s i q valid l));
    }

-- the lists of the lanes
abbrev pub lists_of : Solo → Lists
lists_of s = record {
  lengths = lengths_in s;
  shapes = shapes_in s;
  origins = origins_in s;
  written = written_in s;
  frames = s.frames;
  cells = cells_in s;
}

module _ {s : Solo} {i : ℕ} {x : BegunLane} {new values : List ℤ} (w : IsWritten s i x new values) where
  new_part : IsNewPart (lengths_in s) i (cells_in s) new
  new_part = record {
    there = w.there;
    fits = w.valid.fits;
    size = w.size ∙ ap length w.at.cells ∙ length_part (lengths_in s) i (cells_in s) w.there w.valid.fits;
  }

  -- as many numbers of samples as lanes
  written_long : length (written_in s) ≡ length (lengths_in s)
  written_long = length-map s.begun.now (λ (y : BegunLane). y.written) ∙ w.valid.begun

  -- the lane has these values more, and each other one is as it was
  pub lanes_written : (begun : List BegunLane) → HaveMore s i (length values) begun
      → table (length (lengths_in s))
      (lane_in (record (lists_of s) { origins = origins_begun begun; written = written_begun begun; cells = cells_after s x new }))
      ≡ set (lanes_of s) i (all_appended (lane_at s i) (argument values) (length values))
  lanes_written begun have =
      let h : ℕ = x.shape.history in
      let count : count_in (lists_of s) i ≡ h + x.written = omega (arith, w.at.history, w.at.written) in
      ap₂ (λ (os ws : List ℕ). table (length (lengths_in s)) (lane_in (record (lists_of s) { origins = os; written = ws; cells = cells_after s x new })))
      have.origins have.written
      ∙ ap (λ (xs : List ℤ). table (length (lengths_in s)) (lane_in (record (lists_of s) { written = written_after s i (length values); cells = xs })))
      (same_rest (lengths_in s) i x.place x.shape.len (cells_in s) new w.at.place w.at.size)
      ∙ more (lists_of s) i new values (record {
        new_part = new_part;
        written_long = written_long;
        grown =
            ap₂ (λ (k o : ℕ). take (k + length values) (from_start o new)) count w.at.first ∙ w.list
            ∙ ap (λ (xs : List ℤ). xs ++ values)
            (ap (λ (xs : List ℤ). take (h + x.written) (from_start (x.origin - h) xs)) w.at.cells
            ∙ sym (ap₂ (λ (k o : ℕ). take k (from_start o (part (lengths_in s) i (cells_in s)))) count w.at.first));
      })

  -- as many cells
  pub cells_long : length (cells_after s x new) ≡ length (cells_in s)
  cells_long =
      ap length (same_rest (lengths_in s) i x.place x.shape.len (cells_in s) new w.at.place w.at.size) ∙ length_with new_part

  pub places_stay : (begun : List BegunLane) → HaveMore s i (length values) begun → ArePlaces (lengths_in s) (places_begun begun)
  places_stay begun have = subst (ArePlaces (lengths_in s)) (sym have.places) w.valid.places

  pub lanes_stay : (begun : List BegunLane) → HaveMore s i (length values) begun
      → (j : ℕ) → j < length (lengths_in s) → IsLane (history_at (shapes_in s) j) (block_at (shapes_in s) j) (len_at (shapes_in s) j)
      (slice_index (lengths_in s) j) (slice_index (origins_begun begun) j) (slice_index (written_begun begun) j) s.frames
  lanes_stay begun have j l =
      let lane = w.valid.lanes j l in
      subst (λ (os : List ℕ). IsLane (history_at (shapes_in s) j) (block_at (shapes_in s) j) (len_at (shapes_in s) j)
      (slice_index (lengths_in s) j) (slice_index os j) (slice_index (written_begun begun) j) s.frames) (sym have.origins)
      (subst (λ (ws : List ℕ). IsLane (history_at (shapes_in s) j) (block_at (shapes_in s) j) (len_at (shapes_in s) j)
      (slice_index (lengths_in s) j) (slice_index (origins_in s) j) (slice_index ws j) s.frames) (sym have.written)
      (record {
        long = lane.long;
        shaped = lane.shaped;
        framed = lane.framed;
        upto = counted (written_in s) i j (length values) s.frames (omega (arith, w.there, written_long)) w.fits lane.upto;
        placed = lane.placed;
      }))
