-- How an engine begins.
use Rattle.std.proofs.Common.{◌≡◌, inl, inr, ℕ, zero, suc, ◌+◌, ◌-◌, ◌*◌, ◌<◌, ◌≤◌, List, [], ◌∷◌, ◌++◌, length, take}
use Rattle.std.proofs.Common.{drop, map, sum, replicate, get_or, ℤ, pos, nat_le, refl, sym, ap, ◌∙◌, subst, arith, All, mul-le-mul_right}
use Rattle.std.proofs.Common.{mul-le-mul_left, suc-mul, true}
use Rattle.std.specs.Prelude.{slice_index}
use Rattle.std.proofs.lemmas.Bool.{cases_lt, cond-false, lt-leb}
use Rattle.std.proofs.lemmas.List.{get_or_push, get_or_append_left, length_push, length-take-le, length-append, length-drop, length-replicate}
use Rattle.std.proofs.lemmas.List.{get_or-replicate, length-map}
use Rattle.std.proofs.lemmas.List.Elements.{All-take, All-drop, All-append, All-replicate}
use Rattle.std.proofs.lemmas.Nat.{le-div}
use Rattle.std.proofs.Math.Nat.{div-mul-le_self}
use Rattle.fv_signal.specs.Frames.{Stream, back, table}
use Rattle.fv_base.proofs.lemmas.Lists.{table_same, table_items}
use Rattle.fv_outside.specs.headline.Tasks.{reads_loop}
use Rattle.fv_outside.specs.declared.tasks.Reads.{Reads}
use Rattle.fv_graph.specs.Graph.{ArePairs, no_reads}
use Rattle.fv_graph.proofs.lemmas.Counts.{either_left, either_right, both_of}
use Rattle.std.proofs.lemmas.Bool.{eq-eqb}
use Rattle.fv_pool.specs.Layout.{part}
use Rattle.fv_lines.specs.Hold.{from_start}
use Rattle.fv_lines.specs.Shape.{IsLaneLength}
use Rattle.fv_lines.specs.Solo.{history_at, block_at, len_at, start_at, AreHeld}
use Rattle.fv_lines.specs.declared.shape.LaneShape.{LaneShape}
use Rattle.fv_lines.specs.declared.shape.LaneState.{LaneState}
use Rattle.fv_lines.proofs.lemmas.Tables.{history_is, block_is, len_is, start_is, shapes_fit}
use Rattle.fv_lines.proofs.lemmas.Parts.{length_part}
use Rattle.fv_signal.specs.declared.signal.Signal.{Signal}
use Rattle.fv_signal.specs.headline.Value.{Graph}
use Rattle.fv_analysis.specs.headline.Stands.{node}
use Rattle.fv_loopcode.specs.headline.State.{list_at}
use Rattle.fv_split_plan.specs.headline.View.{PlanView, lane_info, cells_info}
use Rattle.fv_split_plan.specs.headline.Fits.{written_by}
use Rattle.fv_split_plan.specs.headline.Plans.{PlanStands, PlanReads}
use Rattle.fv_engine.specs.Made.{BeginAsTables}
use Rattle.fv_engine_tasks.specs.headline.Block.{vectors_of}
use Rattle.fv_engine.specs.Past.{past}

-- ---- vectors

-- some frames are some vectors, and no more of them
pub vectors_some : (n k : ℕ) → 1 ≤ n → 1 ≤ k → 1 ≤ vectors_of n k
vectors_some n k some l = le-div 1 (n + (k - 1)) k (omega arith) (omega arith)

pub vectors_few : (n k : ℕ) → 1 ≤ n → 1 ≤ k → vectors_of n k ≤ n
vectors_few n k some l = elim (cases_lt n (vectors_of n k)) [
  | inl i ↦ absurd (
      let q = div-mul-le_self (n + (k - 1)) k in let m : suc n * k ≤ vectors_of n k * k = mul-le-mul_right k i in let s = suc-mul n k in
      let w : n * 1 ≤ n * k = mul-le-mul_left n l in omega (arith, q, m, s, w))
  | inr i ↦ i
]

pub vectors_rise : (m n k : ℕ) → 1 ≤ k → m ≤ n → vectors_of m k ≤ vectors_of n k
vectors_rise m n k some l = let q = div-mul-le_self (m + (k - 1)) k in le-div (vectors_of m k) (n + (k - 1)) k (omega arith) (omega (arith, q, l))

-- ---- shapes

-- the shapes of the first n lanes
pub record ShapesSoFar (p : PlanView) (block n : ℕ) (shapes : List LaneShape) : Type 0 where
  pub long : length shapes ≡ n
  pub histories : (l : ℕ) → l < n → history_at shapes l ≡ (lane_info p l).history
  pub blocks : (l : ℕ) → l < n → block_at shapes l ≡ block
  pub lengths : (l : ℕ) → l < n → IsLaneLength (lane_info p l).history block (len_at shapes l)

-- a number that is read off each shape, of the first n and of one more
read_more : (read : List LaneShape → ℕ → ℕ) (field : LaneShape → ℕ)
    → ((shapes : List LaneShape) (l : ℕ) (d : LaneShape) → l < length shapes → read shapes l ≡ field (get_or shapes l d))
    → (shapes : List LaneShape) (s : LaneShape) (wanted : ℕ → ℕ) → ((l : ℕ) → l < length shapes → read shapes l ≡ wanted l)
    → field s ≡ wanted (length shapes) → (l : ℕ) → l < length shapes + 1 → read (shapes ++ s ∷ []) l ≡ wanted l
read_more read field is shapes s wanted old new l i =
    let within : l < length (shapes ++ s ∷ []) = let q = length_push shapes s in omega (arith, q, i) in
    is (shapes ++ s ∷ []) l s within ∙ elim (cases_lt l (length shapes)) [
      | inl m ↦ ap field (get_or_append_left shapes (s ∷ []) s l m) ∙ sym (is shapes l s m) ∙ old l m
      | inr m ↦ let z : length shapes ≡ l = omega (arith, i, m) in ap field (get_or_push shapes s s l z) ∙ new ∙ ap wanted z
    ]

-- the lengths of the lanes so far, and of one more
len_kept : (shapes : List LaneShape) (s : LaneShape) (l : ℕ) → l < length shapes → len_at shapes l ≡ len_at (shapes ++ s ∷ []) l
len_kept shapes s l m =
    len_is shapes l s m ∙ sym (ap (λ (x : LaneShape). x.len) (get_or_append_left shapes (s ∷ []) s l m))
    ∙ sym (len_is (shapes ++ s ∷ []) l s (let q = length_push shapes s in omega (arith, q, m)))

len_new : (shapes : List LaneShape) (s : LaneShape) (l : ℕ) → length shapes ≡ l → s.len ≡ len_at (shapes ++ s ∷ []) l
len_new shapes s l z =
    sym (ap (λ (x : LaneShape). x.len) (get_or_push shapes s s l z))
    ∙ sym (len_is (shapes ++ s ∷ []) l s (let q = length_push shapes s in omega (arith, q, z)))

pub more_shapes : (p : PlanView) (block n : ℕ) (shapes : List LaneShape) (s : LaneShape) → ShapesSoFar p block n shapes
    → s.history ≡ (lane_info p n).history → s.block ≡ block → IsLaneLength (lane_info p n).history block s.len
    → ShapesSoFar p block (n + 1) (shapes ++ s ∷ [])
more_shapes p block n shapes s h e f long = subst (λ m. ShapesSoFar p block (m + 1) (shapes ++ s ∷ [])) h.long (record {
  long = length_push shapes s;
  histories = read_more history_at (λ (x : LaneShape). x.history) history_is shapes s (λ l. (lane_info p l).history)
      (λ l m. h.histories l (omega (arith, m, h.long))) (e ∙ ap (λ k. (lane_info p k).history) (sym h.long));
  blocks = read_more block_at (λ (x : LaneShape). x.block) block_is shapes s (λ l. block) (λ l m. h.blocks l (omega (arith, m, h.long))) f;
  lengths = λ l i. elim (cases_lt l (length shapes)) [
    | inl m ↦ subst (λ k. IsLaneLength (lane_info p l).history block k) (len_kept shapes s l m) (h.lengths l (omega (arith, m, h.long)))
    | inr m ↦ let z : length shapes ≡ l = omega (arith, i, m) in
        subst (λ k. IsLaneLength (lane_info p l).history block k) (len_new shapes s l z)
        (subst (λ k. IsLaneLength (lane_info p k).history block s.len) (sym h.long ∙ z) long)
  ];
})

-- ---- cells

-- one more of the plan's cells has the items of its table
pub more_lists : (p : PlanView) (n : ℕ) (lists : List (List ℤ)) (items : List ℤ) → BeginAsTables p n lists
    → items ≡ list_at p.tables (cells_info p n).table → BeginAsTables p (n + 1) (lists ++ items ∷ [])
more_lists p n lists items b e = record {
  count = let q = length_push lists items in omega (arith, q, b.count);
  each = λ k i. elim (cases_lt k n) [
    | inl l ↦ get_or_append_left lists (items ∷ []) [] k (omega (arith, l, b.count)) ∙ b.each k l
    | inr m ↦ let z : length lists ≡ k = omega (arith, i, m, b.count) in let y : n ≡ k = omega (arith, i, m) in
        get_or_push lists items [] k z ∙ e ∙ ap (λ j. list_at p.tables (cells_info p j).table) y
  ];
}

-- items of tables are what is written there before time 0
pub begin_so : {g : Graph} {p : PlanView} (s : PlanStands g p) (c : ℕ → Stream) {lists : List (List ℤ)} → BeginAsTables p (length p.cells) lists
    → (k : ℕ) → k < length p.cells → list_at lists k ≡ written_by g [] c (node g (s.names.cells k)) 0
begin_so {g} {p} s c b k i =
    let a = s.cells.are k i in
    b.each k i ∙ ap (λ tables. list_at tables (cells_info p k).table) s.cells.tables ∙ sym (ap (λ (x : Signal). written_by g [] c x 0) a.3.is)

-- ---- what the lists hold

-- no lane's history lies anywhere but at its part's front
pub all_held : (lengths : List ℕ) (shapes : List LaneShape) (states : List LaneState) → lengths ≡ map (λ (s : LaneShape). s.len) shapes
    → ((i : ℕ) → i < length shapes → start_at states i ≡ 0) → AreHeld lengths shapes states
all_held lengths shapes states e zeros i l =
    let m : i < length shapes = let q = ap length e ∙ length-map shapes (λ (s : LaneShape). s.len) in omega (arith, q, l) in
    let z = zeros i m in let f = shapes_fit shapes i m in
    (ap (λ (xs : List ℕ). slice_index xs i) e, (λ h. omega (arith, z, f)), (λ h. omega (arith, z, f, h)))

pub starts_zero : (n i : ℕ) (s : LaneState) → s.start ≡ 0 → i < n → start_at (replicate n s) i ≡ 0
starts_zero n i s e l =
    start_is (replicate n s) i s (let q = length-replicate n s in omega (arith, q, l)) ∙ ap (λ (x : LaneState). x.start) (get_or-replicate n i s s l) ∙ e

abbrev IsZero : ℤ → Type 0
IsZero x = x ≡ pos 0

-- the past of any stream before time 0 is zeros
past_zero : (h : ℕ) (v : Stream) → past h v 0 ≡ table h (λ k. pos 0)
past_zero h v =
    table_same h (λ k. back v (0 + k) (pos h)) (λ k. pos 0)
    (λ k l. cond-false (nat_le h (0 + k)) (v (0 + k - h)) (pos 0) (lt-leb h (0 + k) (omega (arith, l))))

zeros_are : (h : ℕ) (xs : List ℤ) → length xs ≡ h → All IsZero xs → xs ≡ table h (λ k. pos 0)
zeros_are h xs e z =
    sym (table_items xs (pos 0)) ∙ ap (λ n. table n (λ i. get_or xs i (pos 0))) e
    ∙ table_same h (λ i. get_or xs i (pos 0)) (λ k. pos 0) (λ i l. z i (pos 0) (omega (arith, e, l)))

-- a part of zeros holds the past of any stream before time 0
pub nothing_yet : (lengths : List ℕ) (i h : ℕ) (cells : List ℤ) (v : Stream) → i < length lengths → h ≤ slice_index lengths i
    → cells ≡ replicate (sum lengths) (pos 0) → take h (from_start 0 (part lengths i cells)) ≡ past h v 0
nothing_yet lengths i h cells v l room is =
    let own = part lengths i cells in
    let all_zero = All-append IsZero (drop 0 own) (take 0 own) (All-drop IsZero 0 own part_zero) (All-take IsZero 0 own part_zero) in
    zeros_are h (take h (from_start 0 own)) long (All-take IsZero h (from_start 0 own) all_zero) ∙ sym (past_zero h v)
  where
    cells_zero : All IsZero cells
    cells_zero = subst (λ (xs : List ℤ). All IsZero xs) (sym is) (All-replicate IsZero (sum lengths) (pos 0) refl)

    part_zero : All IsZero (part lengths i cells)
    part_zero = All-take IsZero (slice_index lengths i) (drop (sum (take i lengths)) cells) (All-drop IsZero (sum (take i lengths)) cells cells_zero)

    long : length (take h (from_start 0 (part lengths i cells))) ≡ h
    long =
        let own = part lengths i cells in
        let q = length_part lengths i cells l (let k = ap length is ∙ length-replicate (sum lengths) (pos 0) in omega (arith, k)) in
        let a = length-append (drop 0 own) (take 0 own) in let d = length-drop 0 own in
        length-take-le h (from_start 0 own) (omega (arith, a, d, q, room))

-- ---- pairs

-- a pair that stands in the list is told
pair_told : (rs : List Reads) (k : ℕ) → k < length rs → reads_loop rs (get_or rs k no_reads).reader (get_or rs k no_reads).source ≡ true
pair_told [] k l = absurd (omega (arith, l))
pair_told (r ∷ rs) zero l = either_left _ _ (both_of _ _ (eq-eqb r.reader r.reader refl) (eq-eqb r.source r.source refl))
pair_told (r ∷ rs) (suc k) l = either_right _ _ (pair_told rs k (omega (arith, l)))

pub are_pairs : (p : PlanView) → PlanReads p → ArePairs p.loops p.reads
are_pairs p r = record {
  in_order = λ k l. r.lower (get_or p.reads k no_reads).reader (get_or p.reads k no_reads).source (pair_told p.reads k l);
  once = λ j i. let q = r.once j i in omega (arith, q);
}
