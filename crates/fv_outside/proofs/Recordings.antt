-- One more block is kept after those before it, whose pairs and lines stay in their places.
use Rattle.std.proofs.Common.{◌≡◌, ℕ, zero, suc, ◌+◌, ◌-◌, ◌<◌, ◌≤◌, List, [], ◌∷◌, ◌++◌, length, map, take, drop, true, nat_le, refl, sym}
use Rattle.std.proofs.Common.{ap, ap₂, ◌∙◌, arith, length-append}
use Rattle.std.specs.Prelude.{slice_range, ◌&&◌}
use Rattle.std.proofs.lemmas.List.{take-append-le, drop-append-le, take_all, drop_at, map_push, length_push, length-drop}
use Rattle.std.proofs.lemmas.Bool.{le-leb}
use Rattle.fv_outside.specs.declared.tasks.Reads.{Reads}
use Rattle.fv_outside.specs.declared.gate.Line.{Line}
use Rattle.fv_outside.specs.declared.recorder.KeptBlock.{KeptBlock}
use Rattle.fv_outside.specs.headline.Journal.{BlockEntry}
use Rattle.fv_outside.specs.Journal.{told_after}
use Rattle.fv_outside.specs.Recorded.{entry_of, told_of, IsRecorded}

-- a part of the first list stays where it is
range_stays : {A : Type 0} (xs ys : List A) (i j : ℕ) → i ≤ j → j ≤ length xs → slice_range (xs ++ ys) i j ≡ slice_range xs i j
range_stays xs ys i j le h =
    ap (take (j - i)) (drop-append-le i xs ys (omega arith)) ∙ take-append-le (j - i) (drop i xs) ys (omega (arith, length-drop i xs))

-- and the second list is the last part
range_behind : {A : Type 0} (xs ys : List A) (i j : ℕ) → i ≡ length xs → j ≡ length (xs ++ ys) → slice_range (xs ++ ys) i j ≡ ys
range_behind xs ys i j e f =
    ap (take (j - i)) (drop_at xs ys i (sym e)) ∙ take_all (j - i) ys (omega (arith, length-append xs ys))

-- the blocks before mean what they did
entries_stay : (blocks : List KeptBlock) (reads rs : List Reads) (lines ls : List Line) → IsRecorded blocks reads lines
    → map (entry_of (reads ++ rs) (lines ++ ls)) blocks ≡ map (entry_of reads lines) blocks
entries_stay [] reads rs lines ls h = refl
entries_stay (b ∷ bs) reads rs lines ls h =
    let among = h 0 b (omega arith) in
    ap₂ (λ e es. e ∷ es)
    (ap₂ (λ r l. record { tasks = record { loops = b.loops; vectors = b.vectors; reads = r }; lines = l })
    (range_stays reads rs b.reads.start b.reads.end among.reads_rise among.reads_end)
    (range_stays lines ls b.lines.start b.lines.end among.lines_rise among.lines_end))
    (entries_stay bs reads rs lines ls (λ k d l. h (suc k) d (omega arith)))

-- a block whose pairs and lines are the last ones
pub record IsLast (reads rs : List Reads) (lines ls : List Line) (block : KeptBlock) : Type 0 where
  pub reads_start : block.reads.start + length rs ≡ length (reads ++ rs)
  pub reads_end : block.reads.end ≡ length (reads ++ rs)
  pub lines_start : block.lines.start + length ls ≡ length (lines ++ ls)
  pub lines_end : block.lines.end ≡ length (lines ++ ls)

pub recorded_more : (blocks : List KeptBlock) (reads rs : List Reads) (lines ls : List Line) (most_blocks most_lines : ℕ) (b : KeptBlock)
    → IsRecorded blocks reads lines → IsLast reads rs lines ls b → length blocks < most_blocks → length rs ≤ most_lines - length reads
    → length ls ≤ most_lines - length lines
    → told_of true (blocks ++ b ∷ []) (reads ++ rs) (lines ++ ls) most_blocks most_lines
    ≡ told_after (told_of true blocks reads lines most_blocks most_lines)
    (record { tasks = record { loops = b.loops; vectors = b.vectors; reads = rs }; lines = ls })
recorded_more blocks reads rs lines ls most_blocks most_lines b kept last one pairs more =
    let entry : BlockEntry = record { tasks = record { loops = b.loops; vectors = b.vectors; reads = rs }; lines = ls } in
    let mine : entry_of (reads ++ rs) (lines ++ ls) b ≡ entry =
    ap₂ (λ r l. record { tasks = record { loops = b.loops; vectors = b.vectors; reads = r }; lines = l })
    (range_behind reads rs b.reads.start b.reads.end (let s = last.reads_start in omega (arith, length-append reads rs)) last.reads_end)
    (range_behind lines ls b.lines.start b.lines.end (let s = last.lines_start in omega (arith, length-append lines ls)) last.lines_end) in
    let entries = map_push (entry_of (reads ++ rs) (lines ++ ls)) blocks b ∙ ap₂ (λ es e. es ++ e ∷ []) (entries_stay blocks reads rs lines ls kept) mine in
    let calls : most_blocks - length (blocks ++ b ∷ []) ≡ (most_blocks - length blocks) - 1 = omega (arith, length_push blocks b) in
    let line_room : most_lines - length (lines ++ ls) ≡ (most_lines - length lines) - length ls = omega (arith, length-append lines ls) in
    let pair_room : most_lines - length (reads ++ rs) ≡ (most_lines - length reads) - length rs = omega (arith, length-append reads rs) in
    let some : nat_le 1 (most_blocks - length blocks) ≡ true = le-leb 1 (most_blocks - length blocks) (omega arith) in
    let pairs_fit : nat_le (length rs) (most_lines - length reads) ≡ true = le-leb (length rs) (most_lines - length reads) pairs in
    let lines_fit : nat_le (length ls) (most_lines - length lines) ≡ true = le-leb (length ls) (most_lines - length lines) more in
    rw (some, pairs_fit, lines_fit) (rw (entries, calls, line_room, pair_room) refl)
