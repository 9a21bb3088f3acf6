-- Lists, element by element.
use Rattle.std.proofs.Common.{◌≡◌, ℕ, zero, suc, ◌+◌, ◌<◌, List, [], ◌∷◌, ◌++◌, length, take, drop, sum, get_or, sym, ap, ◌∙◌, arith, ℤ, pos}
use Rattle.std.specs.Prelude.{slice_index}
use Rattle.std.specs.List.{flat_map}
use Rattle.std.proofs.lemmas.List.{append_assoc, take_at}
use Rattle.std.proofs.lemmas.List.Sums.{sum_by-cons}
use Rattle.std.proofs.Math.Seq.{drop-append-add}
use Rattle.fv_num.specs.headline.Words.{argument}
use Rattle.fv_base.specs.headline.Lists.{table}
use Rattle.fv_base.proofs.lemmas.Lists.{table_same, table_items}
use Rattle.fv_pool.specs.Layout.{part}
use Rattle.fv_lines.specs.Solo.{len_at}
use Rattle.fv_lines.specs.Writer.{content_of}
use Rattle.fv_lines.specs.declared.shape.LaneShape.{LaneShape}
use Rattle.fv_lines.specs.declared.writer.LaneWriter.{LaneWriter}
use Rattle.fv_lines.specs.Cut.{lengths_by}

-- lists of the same numbers
pub same_numbers : (xs ys : List ℤ) → length xs ≡ length ys → ((k : ℕ) → k < length xs → argument xs k ≡ argument ys k) → xs ≡ ys
same_numbers xs ys long same =
    sym (table_items xs (pos 0)) ∙ table_same (length xs) (argument xs) (argument ys) same
    ∙ ap (λ (n : ℕ). table n (argument ys)) long ∙ table_items ys (pos 0)

-- what lanes leave, one after another, has each lane's in its part
pub parts_are : (ws : List LaneWriter) (shapes : List LaneShape) (rest : List ℤ) → length ws ≡ length shapes
    → ((i : ℕ) (d : LaneWriter) → i < length ws → length (content_of (get_or ws i d)) ≡ len_at shapes i)
    → (i : ℕ) (d : LaneWriter) → i < length ws → part (lengths_by shapes) i (flat_map content_of ws ++ rest) ≡ content_of (get_or ws i d)
parts_are [] shapes rest long lens i d l = absurd (omega arith)
parts_are (w ∷ ws) [] rest long lens i d l = absurd (omega (arith, long))
parts_are (w ∷ ws) (s ∷ ss) rest long lens zero d l =
    ap (take s.len) (append_assoc (content_of w) (flat_map content_of ws) rest)
    ∙ take_at (content_of w) (flat_map content_of ws ++ rest) s.len (lens zero d l)
parts_are (w ∷ ws) (s ∷ ss) rest long lens (suc i) d l =
    let ls : List ℕ = lengths_by ss in
    let here : length (content_of w) ≡ s.len = lens zero d (omega arith) in
    let place : sum (take (suc i) (lengths_by (s ∷ ss))) ≡ length (content_of w) + sum (take i ls) =
    sum_by-cons (λ n. n) s.len (take i ls) ∙ ap (λ (n : ℕ). n + sum (take i ls)) (sym here) in
    ap (λ (n : ℕ). take (slice_index ls i) (drop n ((content_of w ++ flat_map content_of ws) ++ rest))) place
    ∙ ap (λ (xs : List ℤ). take (slice_index ls i) (drop (length (content_of w) + sum (take i ls)) xs))
    (append_assoc (content_of w) (flat_map content_of ws) rest)
    ∙ ap (take (slice_index ls i)) (drop-append-add (content_of w) (flat_map content_of ws ++ rest) (sum (take i ls)))
    ∙ parts_are ws ss rest (omega (arith, long)) (λ k e m. lens (suc k) e (omega arith)) i d (omega arith)
