-- Tables, one number for another.
use Rattle.std.proofs.Common.{◌≡◌, ◌≢◌, ◌+◌, ◌-◌, ◌<◌, ◌≤◌, ◌++◌, [], ◌∷◌, zero, suc, length, take, drop, List, ℕ, ℤ, get_or, set, map}
use Rattle.std.proofs.Common.{sym, ap, ap₂, ◌∙◌, arith, ◌⊎◌, inl, inr, append-nil, pos}
use mathlib.Core.List.{append_assoc}
use Rattle.std.proofs.lemmas.List.{ext_get_or, get_or-set_same, get_or-set_other, get_or-map, length-set, length-map, map-set, drop-drop, take_more, take_all}
use Rattle.std.proofs.lemmas.Bool.{cases_lt}
use Rattle.std.specs.Prelude.{sum, slice_index}
use borrow.Rule.Slice.PartMut.{put_mid}
use Rattle.fv_base.specs.headline.Lists.{table}
use Rattle.fv_base.proofs.lemmas.Lists.{length_table, get_or_table}
use Rattle.fv_loopcode.specs.Words.{argument}
use Rattle.fv_loopcode.specs.headline.Lanes.{Lane, appended}
use Rattle.fv_loopcode.specs.Lanes.{all_appended}
use Rattle.fv_pool.specs.Layout.{part}
use Rattle.fv_lines.specs.Hold.{from_start}
use Rattle.fv_lines.specs.Solo.{history_at, block_at, len_at, start_at, first_at, held_from}
use Rattle.fv_lines.specs.declared.shape.LaneShape.{LaneShape}
use Rattle.fv_lines.specs.declared.shape.LaneState.{LaneState}
use Rattle.fv_lines.proofs.lemmas.Parts.{IsNewPart, with_part, part_written, part_kept}

-- what stands for a state where there is none
abbrev pub no_state : LaneState
no_state = record { start = 0 }

pub same_or_not : (i j : ℕ) → (j ≡ i) ⊎ (j ≢ i)
same_or_not i j = elim (cases_lt i j) [
  | inl l ↦ inr (λ e. absurd (omega (arith, l, e)))
  | inr g ↦ elim (cases_lt j i) [ inl l ↦ inr (λ e. absurd (omega (arith, l, e))) | inr h ↦ inl (omega (arith, g, h)) ]
]

pub table_set : {A : Type 0} (n i : ℕ) (f g : ℕ → A) (v : A) → i < n → g i ≡ v → ((j : ℕ) → j < n → j ≢ i → g j ≡ f j)
    → table n g ≡ set (table n f) i v
table_set {A} n i f g v l at others =
    let long : length (table n g) ≡ length (set (table n f) i v) = length_table n g ∙ sym (length_table n f) ∙ sym (length-set (table n f) i v) in
    ext_get_or v (table n g) (set (table n f) i v) long (λ j k.
    let jn : j < n = omega (arith, k, length_table n g) in
    get_or_table n g j v jn ∙ elim (same_or_not i j) [
      | inl e ↦ ap g e ∙ at ∙ sym (get_or-set_same (table n f) i v v (omega (arith, l, length_table n f)))
          ∙ sym (ap (λ (m : ℕ). get_or (set (table n f) i v) m v) e)
      | inr ne ↦ others j jn ne ∙ sym (get_or_table n f j v jn) ∙ sym (get_or-set_other (table n f) i j v v ne)
    ])

-- the lists of the lanes of one worker
pub record Lists : Type 0 where
  pub lengths : List ℕ
  pub shapes : List LaneShape
  pub origins : List ℕ
  pub written : List ℕ
  pub frames : ℕ
  pub cells : List ℤ

-- the samples that lane j has
abbrev pub count_in : Lists → ℕ → ℕ
count_in t j = history_at t.shapes j + slice_index t.written j

abbrev pub items_in : Lists → ℕ → List ℤ
items_in t j = held_from t.lengths (first_at t.shapes t.origins j) (count_in t j) j t.cells

-- lane j, from the lists
abbrev pub lane_in : Lists → ℕ → Lane
lane_in t j = record { history = history_at t.shapes j; items = items_in t j; room = t.frames - slice_index t.written j }

-- the lists after lane i's part became these cells, with n samples more
abbrev pub with_more : Lists → ℕ → List ℤ → ℕ → Lists
with_more t i new n = record {
  lengths = t.lengths;
  shapes = t.shapes;
  origins = t.origins;
  written = set t.written i (slice_index t.written i + n);
  frames = t.frames;
  cells = with_part t.lengths t.cells i new;
}

-- these cells of lane i's part hold its samples and these values
pub record Grows (t : Lists) (i : ℕ) (new values : List ℤ) : Type 0 where
  pub new_part : IsNewPart t.lengths i t.cells new
  pub written_long : length t.written ≡ length t.lengths
  pub grown : take (count_in t i + length values) (from_start (first_at t.shapes t.origins i) new) ≡ items_in t i ++ values

abbrev pub made : ℕ → List ℤ → ℕ → Lane
made h xs r = record { history = h; items = xs; room = r }

-- a lane with the first n of these values more
first_appended : (h r : ℕ) (xs values : List ℤ) (n : ℕ) → n ≤ length values
    → all_appended (made h xs r) (argument values) n ≡ made h (xs ++ take n values) (r - n)
first_appended h r xs values zero l = ap₂ (made h) (sym (append-nil xs)) (let e : r ≡ r - 0 = omega arith in e)
first_appended h r xs values (suc n) l =
    let next : take (n + 1) values ≡ take n values ++ argument values n ∷ [] = take_more values n (pos 0) (omega (arith, l)) in
    let more : n + 1 ≡ suc n = omega arith in
    ap (λ (x : Lane). appended x (argument values n)) (first_appended h r xs values n (omega (arith, l)))
    ∙ ap₂ (made h)
    (append_assoc xs (take n values) (argument values n ∷ []) ∙ ap (λ (ys : List ℤ). xs ++ ys) (sym next) ∙ ap (λ (k : ℕ). xs ++ take k values) more)
    (let e : r - n - 1 ≡ r - suc n = omega arith in e)

-- a lane with these values more, of which fewer are to come
pub made_more : (h f w w' : ℕ) (xs ys values : List ℤ) → ys ≡ xs ++ values → w' ≡ w + length values
    → made h ys (f - w') ≡ all_appended (made h xs (f - w)) (argument values) (length values)
made_more h f w w' xs ys values e k =
    ap₂ (made h) (e ∙ ap (λ (zs : List ℤ). xs ++ zs) (sym (take_all (length values) values (omega arith))))
    (let q : f - w' ≡ f - w - length values = omega (arith, k) in q)
    ∙ sym (first_appended h (f - w) xs values (length values) (omega arith))

pub more : (t : Lists) (i : ℕ) (new values : List ℤ) → Grows t i new values
    → table (length t.lengths) (lane_in (with_more t i new (length values)))
    ≡ set (table (length t.lengths) (lane_in t)) i (all_appended (lane_in t i) (argument values) (length values))
more t i new values grows =
    let n : ℕ = length values in
    let after : Lists = with_more t i new n in
    let count : slice_index after.written i ≡ slice_index t.written i + n =
    get_or-set_same t.written i (slice_index t.written i + n) 0 (omega (arith, grows.new_part.there, grows.written_long)) in
    let longer : count_in after i ≡ count_in t i + n = omega (arith, count) in
    table_set (length t.lengths) i (lane_in t) (lane_in after) (all_appended (lane_in t i) (argument values) n) grows.new_part.there
    (made_more (history_at t.shapes i) t.frames (slice_index t.written i) (slice_index after.written i) (items_in t i) (items_in after i) values
    (ap (λ (xs : List ℤ). take (count_in after i) (from_start (first_at t.shapes t.origins i) xs))
    (part_written grows.new_part)
    ∙ ap (λ (m : ℕ). take m (from_start (first_at t.shapes t.origins i) new)) longer ∙ grows.grown) count)
    (λ j k ne.
    let other : slice_index after.written j ≡ slice_index t.written j = get_or-set_other t.written i j (slice_index t.written i + n) 0 ne in
    ap₂ (λ (m : ℕ) (xs : List ℤ). made (history_at t.shapes j)
    (take (history_at t.shapes j + m) (from_start (first_at t.shapes t.origins j) xs)) (t.frames - m))
    other (part_kept grows.new_part j ne k))

pub start_is : (states : List LaneState) (i : ℕ) (d : LaneState) → i < length states → start_at states i ≡ (get_or states i d).start
start_is states i d l = get_or-map (λ (s : LaneState). s.start) states i d 0 l

pub history_is : (shapes : List LaneShape) (i : ℕ) (d : LaneShape) → i < length shapes → history_at shapes i ≡ (get_or shapes i d).history
history_is shapes i d l = get_or-map (λ (s : LaneShape). s.history) shapes i d 0 l

-- what a part's slice is, by its place
pub same_part : (ls : List ℕ) (i p n : ℕ) (cells : List ℤ) → p ≡ sum (take i ls) → n ≡ slice_index ls i
    → take (p + n - p) (drop p cells) ≡ part ls i cells
same_part ls i p n cells e k = ap₂ (λ (a b : ℕ). take a (drop b cells)) (let q : p + n - p ≡ slice_index ls i = omega (arith, k) in q) e

pub same_rest : (ls : List ℕ) (i p n : ℕ) (cells new : List ℤ) → p ≡ sum (take i ls) → n ≡ slice_index ls i
    → put_mid p (p + n - p) cells new ≡ with_part ls cells i new
same_rest ls i p n cells new e k =
    ap (λ (r : List ℤ). take p cells ++ (new ++ r)) (drop-drop (p + n - p) p cells)
    ∙ ap₂ (λ (a b : ℕ). take a cells ++ (new ++ drop b cells)) e
    (let q : p + (p + n - p) ≡ sum (take i ls) + slice_index ls i = omega (arith, e, k) in q)

-- where one state was replaced
pub start_new : (states : List LaneState) (i : ℕ) (s : LaneState) → i < length states → start_at (set states i s) i ≡ s.start
start_new states i s l =
    ap (λ (xs : List ℕ). get_or xs i 0) (map-set (λ (s : LaneState). s.start) states i s)
    ∙ get_or-set_same (map (λ (s : LaneState). s.start) states) i s.start 0 (omega (arith, l, length-map states (λ (s : LaneState). s.start)))

pub start_other : (states : List LaneState) (i j : ℕ) (s : LaneState) → j ≢ i → start_at (set states i s) j ≡ start_at states j
start_other states i j s ne =
    ap (λ (xs : List ℕ). get_or xs j 0) (map-set (λ (s : LaneState). s.start) states i s)
    ∙ get_or-set_other (map (λ (s : LaneState). s.start) states) i j s.start 0 ne

pub len_is : (shapes : List LaneShape) (i : ℕ) (d : LaneShape) → i < length shapes → len_at shapes i ≡ (get_or shapes i d).len
len_is shapes i d l = get_or-map (λ (s : LaneShape). s.len) shapes i d 0 l

pub block_is : (shapes : List LaneShape) (i : ℕ) (d : LaneShape) → i < length shapes → block_at shapes i ≡ (get_or shapes i d).block
block_is shapes i d l = get_or-map (λ (s : LaneShape). s.block) shapes i d 0 l

pub shapes_fit : (xs : List LaneShape) (i : ℕ) → i < length xs → history_at xs i + block_at xs i ≤ len_at xs i
shapes_fit [] i l = absurd (omega arith)
shapes_fit (x ∷ xs) zero l = x.fits.2
shapes_fit (x ∷ xs) (suc i) l = shapes_fit xs i (omega arith)
