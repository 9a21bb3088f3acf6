-- What a graph's outputs give is what the diagram answers, and samples are their frames, one after another.
use Rattle.std.proofs.Common.{◌≡◌, ℕ, zero, suc, ◌+◌, ◌*◌, ◌<◌, ◌≤◌, List, [], ◌∷◌, ◌++◌, length, take, get_or, All, ℤ, pos, sym, ap, ap₂, ◌∙◌, arith}
use Rattle.std.specs.Prelude.{slice_index_or}
use Rattle.std.proofs.Math.Seq.{take-add}
use Rattle.std.proofs.lemmas.List.{append-nil, take_all}
use Rattle.std.proofs.lemmas.List.Elements.{All-get_or}
use Rattle.std.proofs.lemmas.Grind.{flat_map-append}
use Rattle.fv_base.proofs.lemmas.Lists.{table_same, table_items}
use Rattle.fv_num.specs.headline.Words.{argument}
use Rattle.fv_num.specs.headline.Frames.{Frame, Stream, column, table, rows, joined}
use Rattle.fv_num.specs.headline.Interval.{Interval}
use Rattle.fv_diagram.specs.headline.Diagram.{Diagram, outputs}
use Rattle.fv_diagram.specs.Diagram.{IsWellFormed}
use Rattle.fv_diagram.specs.headline.Streams.{run}
use Rattle.fv_diagram.specs.Laws.{AnswersEach, AnswersWide}
use Rattle.fv_signal.specs.headline.Value.{Graph, value}
use Rattle.fv_propagate.specs.headline.Propagated.{AreTaken, Propagates}
use Rattle.fv_engine.specs.Stands.{played}
use Rattle.fv_num.proofs.lemmas.Parts.{part_is}
use Rattle.fv_engine_render.proofs.Samples.{cells_same}

-- frames of one width are a table
frames_are : (Y : List Frame) (m : ℕ) → All (λ (y : Frame). length y ≡ m) Y → table (length Y) (λ u. table m (λ j. column Y j u)) ≡ Y
frames_are Y m wide =
    let same : (u : ℕ) → u < length Y → table m (λ j. column Y j u) ≡ get_or Y u [] = λ u l.
    let y = get_or Y u [] in
    ap (λ k. table k (λ j. get_or y j (pos 0))) (sym (All-get_or (λ (y : Frame). length y ≡ m) Y u [] l wide)) ∙ table_items y (pos 0) in
    table_same (length Y) (λ u. table m (λ j. column Y j u)) (λ u. get_or Y u []) same ∙ table_items Y []

-- A graph gives what the diagram gives, also on these frames and controls.
pub record GivesOn (d : Diagram) (spans : List Interval) (g : Graph) (X : List Frame) (c : ℕ → Stream) : Type 0 where
  pub well : IsWellFormed d
  pub gives : Propagates d spans g
  pub taken : AreTaken d spans X c
  pub width : length g.outputs ≡ outputs d

pub played_is_run : {d : Diagram} {spans : List Interval} {g : Graph} {X : List Frame} {c : ℕ → Stream} (e : ℕ → Stream) → AnswersEach d → AnswersWide d
    → GivesOn d spans g X c → played g X c 0 (length X) ≡ run d c e X
played_is_run {d} {spans} {g} {X} {c} e each wide on =
    let Y = run d c e X in
    let at : ℕ → ℕ → ℤ = λ u j. value g (slice_index_or g.outputs j 0) X c (0 + u) in
    let given : (u j : ℕ) → u < length X → j < length g.outputs → at u j ≡ column Y j u =
    λ u j l m. let z : 0 + u ≡ u = omega arith in ap (value g (slice_index_or g.outputs j 0) X c) z ∙ on.gives X c e on.taken j u m l in
    cells_same (length X) (length g.outputs) at (λ u j. column Y j u) given
    ∙ ap (λ k. table (length X) (λ u. table k (λ j. column Y j u))) on.width
    ∙ ap (λ k. table k (λ u. table (outputs d) (λ j. column Y j u))) (sym (each c e X))
    ∙ frames_are Y (outputs d) (wide on.well c e X on.taken.wide)

joined_rows : (w n : ℕ) (xs : List ℤ) → n * w ≤ length xs → joined (rows w n xs) ≡ take (n * w) xs
joined_rows w zero xs h = let z : 0 * w ≡ 0 = omega arith in ap (λ k. take k xs) (sym z)
joined_rows w (suc n) xs h =
    let e : suc n * w ≡ n * w + w = omega arith in
    let row = table w (λ j. argument xs (n * w + j)) in
    flat_map-append (λ (x : Frame). x) (rows w n xs) (row ∷ [])
    ∙ ap₂ (λ (a b : List ℤ). a ++ b) (joined_rows w n xs (omega (arith, e, h))) (append-nil row ∙ sym (part_is xs (n * w) w (omega (arith, e, h))))
    ∙ sym (take-add (n * w) w xs) ∙ ap (λ k. take k xs) (sym e)

-- all samples
pub joined_all : (w n : ℕ) (xs : List ℤ) → length xs ≡ n * w → joined (rows w n xs) ≡ xs
joined_all w n xs h = joined_rows w n xs (omega (arith, h)) ∙ take_all (n * w) xs (omega (arith, h))
