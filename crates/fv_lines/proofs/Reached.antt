-- A lane of one worker, as a call that reads or writes it finds it.
use Rattle.std.proofs.Common.{◌≡◌, ◌+◌, ◌-◌, ◌<◌, ◌≤◌, ℕ, ℤ, List, length, take, drop, map, get_or, set, sym, ap, ◌∙◌, arith, subst, inl, inr}
use Rattle.std.specs.Prelude.{slice_index, sum}
use Rattle.std.proofs.lemmas.List.{get_or-set_same, get_or-set_other, get_or-map}
use Rattle.fv_pool.specs.Layout.{part}
use Rattle.fv_lines.specs.Flat.{HasOrigin, IsBegun}
use Rattle.fv_lines.specs.Solo.{history_at, len_at, first_at, lengths_in, shapes_in, cells_in, origins_in, written_in, shapes_begun, IsSolo}
use Rattle.fv_lines.specs.declared.shape.LaneShape.{LaneShape}
use Rattle.fv_lines.specs.declared.begun_lane.BegunLane.{BegunLane}
use Rattle.fv_lines.specs.declared.solo.Solo.{Solo}
use Rattle.fv_lines.proofs.lemmas.Parts.{place_fits, length_part}
use Rattle.fv_lines.proofs.lemmas.Tables.{same_or_not, same_part}

-- the n cells from a lane's place on
abbrev pub cells_found : Solo → BegunLane → List ℤ
cells_found s x = take (x.place + x.shape.len - x.place) (drop x.place (cells_in s))

-- what the definitions of lane i say is what its record x says, and the lane has begun there
pub record IsReached (s : Solo) (i : ℕ) (x : BegunLane) : Type 0 where
  pub place : x.place ≡ sum (take i (lengths_in s))
  pub size : x.shape.len ≡ slice_index (lengths_in s) i
  pub ends : x.place + x.shape.len ≤ length (cells_in s)
  pub cells : cells_found s x ≡ part (lengths_in s) i (cells_in s)
  pub history : history_at (shapes_in s) i ≡ x.shape.history
  pub len : len_at (shapes_in s) i ≡ x.shape.len
  pub written : slice_index (written_in s) i ≡ x.written
  pub first : first_at (shapes_in s) (origins_in s) i ≡ x.origin - x.shape.history
  pub begun : IsBegun x.shape.history x.shape.len x.origin (cells_found s x)

-- lane i's record, as it is looked up
abbrev pub found : Solo → ℕ → BegunLane → BegunLane
found s i r = get_or s.begun.now i r

-- a number of it, among those of all
pub field_is : (f : BegunLane → ℕ) (s : Solo) (i : ℕ) (r : BegunLane) → IsSolo s → i < length (lengths_in s)
    → slice_index (map f s.begun.now) i ≡ f (found s i r)
field_is f s i r valid l = get_or-map f s.begun.now i r 0 (omega (arith, l, valid.begun))

-- a number of its shape
shape_field_is : (f : LaneShape → ℕ) (s : Solo) (i : ℕ) (r : BegunLane) → IsSolo s → i < length (lengths_in s)
    → slice_index (map f (shapes_in s)) i ≡ f (found s i r).shape
shape_field_is f s i r valid l =
    let k : i < length (shapes_begun s.begun.now) = omega (arith, l, ap length valid.same, valid.shapes) in
    ap (λ (xs : List LaneShape). slice_index (map f xs) i) (sym valid.same)
    ∙ get_or-map f (shapes_begun s.begun.now) i r.shape 0 k
    ∙ ap f (get_or-map (λ (y : BegunLane). y.shape) s.begun.now i r r.shape (omega (arith, l, valid.begun)))

pub reached : (s : Solo) (i : ℕ) (r : BegunLane) → IsSolo s → i < length (lengths_in s) → IsReached s i (found s i r)
reached s i r valid l =
    let x : BegunLane = found s i r in
    let lane = valid.lanes i l in
    let place : x.place ≡ sum (take i (lengths_in s)) = sym (field_is (λ (y : BegunLane). y.place) s i r valid l) ∙ valid.places.1 i l in
    let history : history_at (shapes_in s) i ≡ x.shape.history = shape_field_is (λ (y : LaneShape). y.history) s i r valid l in
    let len : len_at (shapes_in s) i ≡ x.shape.len = shape_field_is (λ (y : LaneShape). y.len) s i r valid l in
    let size : x.shape.len ≡ slice_index (lengths_in s) i = sym len ∙ sym lane.long in
    let cells : cells_found s x ≡ part (lengths_in s) i (cells_in s) = same_part (lengths_in s) i x.place x.shape.len (cells_in s) place size in
    let long : length (part (lengths_in s) i (cells_in s)) ≡ slice_index (lengths_in s) i = length_part (lengths_in s) i (cells_in s) l valid.fits in
    let origin : slice_index (origins_in s) i ≡ x.origin = field_is (λ (y : BegunLane). y.origin) s i r valid l in
    record {
      place = place;
      size = size;
      ends = omega (arith, place, size, place_fits (lengths_in s) i l, valid.fits);
      cells = cells;
      history = history;
      len = len;
      written = field_is (λ (y : BegunLane). y.written) s i r valid l;
      first = omega (arith, origin, history);
      begun = (
        ap length cells ∙ long ∙ lane.long ∙ len,
        subst (λ (o : ℕ). HasOrigin x.shape.history x.shape.len o) origin
            (subst (λ (m : ℕ). HasOrigin x.shape.history m (slice_index (origins_in s) i)) len
            (subst (λ (h : ℕ). HasOrigin h (len_at (shapes_in s) i) (slice_index (origins_in s) i)) history lane.placed)),
      );
    }

-- a number that is n more, and no more than f
pub counted : (w : List ℕ) (i j n f : ℕ) → i < length w → slice_index w i + n ≤ f → slice_index w j ≤ f
    → slice_index (set w i (slice_index w i + n)) j ≤ f
counted w i j n f l less le = elim (same_or_not i j) [
  | inl e ↦
      subst (λ (k : ℕ). slice_index (set w i (slice_index w i + n)) k ≤ f) (sym e)
      (omega (arith, get_or-set_same w i (slice_index w i + n) 0 l, less))
  | inr ne ↦ omega (arith, get_or-set_other w i j (slice_index w i + n) 0 ne, le)
]
