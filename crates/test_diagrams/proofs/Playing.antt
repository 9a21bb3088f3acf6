-- The answer grows by a frame at a time.
use Rattle.std.proofs.Common.{◌≡◌, ℕ, zero, suc, ◌+◌, ◌<◌, ◌≤◌, List, [], ◌∷◌, ◌++◌, length, get_or, ℤ, pos}
use Rattle.std.proofs.Common.{sym, ◌∙◌, ap, arith, refl}
use Rattle.std.proofs.lemmas.List.{append-nil, nil_from_length}
use Rattle.std.proofs.lemmas.Grind.{flat_map-append}
use Rattle.fv_num.specs.headline.Frames.{Frame, Stream, table, column}
use Rattle.fv_diagram.specs.headline.Diagram.{Diagram}
use Rattle.fv_diagram.specs.Diagram.{control_bound}
use Rattle.fv_diagram.specs.headline.Streams.{run, last}
use Rattle.fv_diagram.specs.Laws.{AnswersEach, AnswersOneMore, AnswersAlike}
use Rattle.fv_base.proofs.lemmas.Lists.{get_or_table}
use Rattle.fv_control.specs.declared.script.Change.{Change}
use Rattle.fv_control.specs.headline.Streams.{control_streams}
use Rattle.fv_diagram.specs.headline.Samples.{joined, no_slots}
use Rattle.fv_control.proofs.lemmas.Listening.{heard_at}

-- on no frames nothing is answered
pub answers_none : (d : Diagram) (c e : ℕ → Stream) → AnswersEach d → run d c e [] ≡ []
answers_none d c e each = nil_from_length (run d c e []) (each c e [])

-- the samples with those of one frame more
pub played_more : (d : Diagram) (controls : Frame) (C X : List Frame) (x y : Frame) (old new : List ℤ) → AnswersOneMore d → length C ≡ length X →
    y ≡ last (run d (column (C ++ controls ∷ [])) no_slots (X ++ x ∷ [])) →
    old ≡ joined (run d (column C) no_slots X) → new ≡ old ++ y →
    new ≡ joined (run d (column (C ++ controls ∷ [])) no_slots (X ++ x ∷ []))
played_more d controls C X x y old new more long given so_far written =
    let one = more no_slots C X controls x long in
    let whole = run d (column (C ++ controls ∷ [])) no_slots (X ++ x ∷ []) in
    let first = run d (column C) no_slots X in
    let samples : joined whole ≡ joined first ++ y =
    ap joined one ∙ flat_map-append (λ (w : Frame). w) first (last whole ∷ []) ∙ ap (λ w. joined first ++ w) (append-nil (last whole) ∙ sym given) in
    written ∙ ap (λ w. w ++ y) so_far ∙ sym samples

-- the controls' frames are those of the streams
pub played_heard : (d : Diagram) (changes : List Change) (initial : Frame) (n : ℕ) (X : List Frame) → AnswersAlike d →
    control_bound d ≤ length initial → length X ≡ n →
    run d (column (table n (heard_at changes initial))) no_slots X ≡ run d (control_streams changes initial) no_slots X
played_heard d changes initial n X same reads long =
    same (column (table n (heard_at changes initial))) (control_streams changes initial) no_slots no_slots X
    (λ k t bound time.
    ap (λ (c : Frame). get_or c k (pos 0)) (get_or_table n (heard_at changes initial) t [] (omega arith))
    ∙ get_or_table (length initial) (λ j. control_streams changes initial j t) k (pos 0) (omega arith))
    (λ s t free time. refl)
