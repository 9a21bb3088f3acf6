-- The numbers of a head, one more at a time.
use Rattle.std.proofs.Common.{length, ◌≡◌, ℕ, ◌+◌, List, [], ◌∷◌, ◌++◌, map, replicate, refl, sym, ap, subst, ◌∙◌, arith, ℤ}
use Rattle.std.proofs.lemmas.List.{length-map, length-replicate, nil_from_length, map-append, replicate-append-replicate}
use Rattle.fv_diagram.specs.Words.{argument}
use Rattle.fv_diagram.specs.Frames.{Frame, column}
use Rattle.fv_diagram.specs.headline.Diagram.{Diagram}
use Rattle.fv_diagram.specs.Diagram.{control_bound}
use Rattle.fv_diagram.specs.Laws.{AnswersAlike, AnswersEach, AnswersOneMore}
use Rattle.fv_diagram_runner.specs.Steps.{RunnerState, StandsFor}
use Rattle.fv_diagram.specs.headline.Streams.{run, last}
use Rattle.fv_diagram_numbers.specs.headline.Numbers.{at_first, silent}
use Rattle.fv_diagram_numbers.specs.headline.Heads.{table_numbers}

-- n frames without numbers
abbrev pub frames : ℕ → List Frame
frames n = replicate n []

one_frame_more : (n : ℕ) → frames n ++ [] ∷ [] ≡ frames (n + 1)
one_frame_more n = replicate-append-replicate n 1 []

-- without controls, their streams do not matter
quiet : (d : Diagram) (C X : List Frame) → control_bound d ≡ 0 → AnswersAlike d → run d (column C) silent X ≡ run d silent silent X
quiet d C X none same = same (column C) silent silent silent X (λ k t l h. absurd (omega (arith, l, none))) (λ s t f h. refl)

-- what is given first
pub first_given : (d : Diagram) (out : Frame) → control_bound d ≡ 0 → AnswersAlike d
    → out ≡ last (run d (column ([] ++ [] ∷ [])) silent ([] ++ [] ∷ [])) → out ≡ at_first d
first_given d out none same e = e ∙ ap last (quiet d ([] ∷ []) ([] ∷ []) none same)

-- The runner stands for the diagram after n frames, and these are its first n numbers.
pub record Ran (m : RunnerState) (d : Diagram) (n : ℕ) (numbers : List ℤ) : Type 0 where
  pub stands : StandsFor m d (frames n) (frames n)
  pub same : numbers ≡ table_numbers n d

pub ran_none : (m : RunnerState) (d : Diagram) (numbers : List ℤ) → AnswersEach d → StandsFor m d [] [] → numbers ≡ [] → Ran m d 0 numbers
ran_none m d numbers each stands e = record {
  stands = stands;
  same = e ∙ sym (ap (map (λ (y : Frame). argument y 1)) (nil_from_length (run d silent silent []) (each silent silent [])));
}

one_number_more : (d : Diagram) (n : ℕ) → control_bound d ≡ 0 → AnswersAlike d → AnswersOneMore d
    → table_numbers (n + 1) d ≡ table_numbers n d ++ argument (last (run d (column (frames n ++ [] ∷ [])) silent (frames n ++ [] ∷ []))) 1 ∷ []
one_number_more d n none same more =
    let f : Frame → ℤ = λ y. argument y 1 in
    let X : List Frame = frames n ++ [] ∷ [] in
    let Y : List Frame = run d (column X) silent X in
    ap (λ Z. map f (run d silent silent Z)) (sym (one_frame_more n)) ∙ ap (map f) (sym (quiet d X X none same))
    ∙ ap (map f) (more silent (frames n) (frames n) [] [] refl) ∙ map-append f (run d (column (frames n)) silent (frames n)) (last Y ∷ [])
    ∙ ap (λ Z. map f Z ++ f (last Y) ∷ []) (quiet d (frames n) (frames n) none same)

-- one frame more
pub ran_on : (m k : RunnerState) (d : Diagram) (n : ℕ) (old new : List ℤ) (out : Frame) → control_bound d ≡ 0 → AnswersAlike d → AnswersOneMore d
    → Ran m d n old → StandsFor k d (frames n ++ [] ∷ []) (frames n ++ [] ∷ [])
    → out ≡ last (run d (column (frames n ++ [] ∷ [])) silent (frames n ++ [] ∷ [])) → new ≡ old ++ argument out 1 ∷ [] → Ran k d (n + 1) new
ran_on m k d n old new out none same more r stands given pushed = record {
  stands = subst (λ (X : List Frame). StandsFor k d X X) (one_frame_more n) stands;
  same =
      pushed ∙ ap (λ (y : Frame). old ++ argument y 1 ∷ []) given
      ∙ ap (λ xs. xs ++ argument (last (run d (column (frames n ++ [] ∷ [])) silent (frames n ++ [] ∷ []))) 1 ∷ []) r.same
      ∙ sym (one_number_more d n none same more);
}

-- A table of n numbers has n.
pub as_many : (d : Diagram) (n : ℕ) → AnswersEach d → length (table_numbers n d) ≡ n
as_many d n each =
    length-map (run d silent silent (frames n)) (λ (y : Frame). argument y 1) ∙ each silent silent (frames n) ∙ length-replicate n []
