-- Parts side by side answer what each part answers.
use Rattle.std.proofs.Common.{◌≡◌, ℕ, zero, suc, ◌+◌, ◌-◌, ◌<◌, List, [], ◌∷◌, ◌++◌, length, map}
use Rattle.std.proofs.Common.{take, drop, get_or, All, refl, sym, ap, ap₂, ◌∙◌, subst, arith, pos}
use Rattle.std.proofs.lemmas.List.{get_or_append_left, get_or-append_right, length-map, length-drop, length-take-le, drop-drop}
use Rattle.std.proofs.lemmas.List.Sums.{sum_by-cons}
use Rattle.fv_diagram.specs.Frames.{Frame, Stream, column, frame_at}
use Rattle.fv_diagram.specs.headline.Diagram.{Diagram, inputs, outputs}
use Rattle.fv_diagram.specs.headline.Streams.{beside, run}
use Rattle.fv_diagram.proofs.lemmas.Answers.{answers_alike, answers_wide}
use Rattle.fv_diagram.proofs.lemmas.Causality.{length_run}
use Rattle.fv_diagram.proofs.lemmas.Each.{each_map}
use Rattle.fv_compile.specs.Joined.{part_controls}
use Rattle.fv_compile.specs.headline.Parts.{part_frames}
use Rattle.fv_compile.specs.headline.Parts.{Part, shifted, side_by_side}
use Rattle.fv_compile.specs.Parts.{AreWellFormed, PartsAnswer, PartsAnswerAlike, controls_of, own, own_controls, own_frames}
use Rattle.fv_compile.specs.headline.Parts.{inputs_of, outputs_of}
use Rattle.fv_compile.proofs.lemmas.Shifted.{inputs_shifted, shifted_answers}

-- a frame is so wide
abbrev pub Has : ℕ → Frame → Type 0
Has n x = length x ≡ n

-- ---- columns of frames side by side

frame_beside : (A B : List Frame) (t : ℕ) → t < length A → length A ≡ length B → frame_at (beside A B) t ≡ frame_at A t ++ frame_at B t
frame_beside [] B t l e = absurd (omega (arith, l))
frame_beside (a ∷ A) [] t l e = absurd (omega (arith, e))
frame_beside (a ∷ A) (b ∷ B) zero l e = refl
frame_beside (a ∷ A) (b ∷ B) (suc t) l e = frame_beside A B t (omega (arith, l)) (omega (arith, e))

column_left : (A B : List Frame) (n i t : ℕ) → t < length A → length A ≡ length B → All (Has n) A → i < n → column (beside A B) i t ≡ column A i t
column_left A B n i t l e w m =
    ap (λ x. get_or x i (pos 0)) (frame_beside A B t l e) ∙ get_or_append_left (frame_at A t) (frame_at B t) (pos 0) i (omega (arith, m, w t [] l))

column_right : (A B : List Frame) (n i t : ℕ) → t < length A → length A ≡ length B → All (Has n) A → column (beside A B) (n + i) t ≡ column B i t
column_right A B n i t l e w =
    let back : (n + i) - n ≡ i = omega arith in
    ap (λ x. get_or x (n + i) (pos 0)) (frame_beside A B t l e)
    ∙ get_or-append_right (frame_at A t) (frame_at B t) n (n + i) (pos 0) (w t [] l) (omega arith)
    ∙ ap (λ k. get_or (frame_at B t) k (pos 0)) back

-- ---- the columns of a part of a part

part_behind : (a b w : ℕ) (X : List Frame) → part_frames b w (map (drop a) X) ≡ part_frames (a + b) w X
part_behind a b w [] = refl
part_behind a b w (x ∷ X) = ap₂ (λ y Y. y ∷ Y) (ap (take w) (drop-drop b a x)) (part_behind a b w X)

-- ---- the first part, and those after it

module _ (n : ℕ) (p : Part) (ps : List Part) (c e : ℕ → Stream) (X : List Frame) (well : AreWellFormed (p ∷ ps))
    (wide : All (Has (inputs_of (p ∷ ps))) X) where
  abbrev a : ℕ
  a = inputs p.diagram

  abbrev rest : Diagram
  rest = side_by_side (n + length p.spans) ps

  -- what the first part answers, and what the others answer
  abbrev A : List Frame
  A = run p.diagram (part_controls n c) e (map (take a) X)

  abbrev B : List Frame
  B = run rest c e (map (drop a) X)

  both : run (side_by_side n (p ∷ ps)) c e X ≡ beside A B
  both =
      ap (λ i. beside (run (shifted n p.diagram) c e (map (take i) X)) (run rest c e (map (drop i) X))) (inputs_shifted n p.diagram)
      ∙ ap (λ Y. beside Y B) (shifted_answers p.diagram n c e (map (take a) X))

  all : inputs_of (p ∷ ps) ≡ a + inputs_of ps
  all = sum_by-cons (λ (q : Part). inputs q.diagram) p ps

  pub behind_wide : All (Has (inputs_of ps)) (map (drop a) X)
  behind_wide = each_map (Has (inputs_of (p ∷ ps))) (Has (inputs_of ps)) (drop a) X (λ x l. omega (arith, l, all, length-drop a x)) wide

  first_wide : All (Has (outputs p.diagram)) A
  first_wide =
      answers_wide p.diagram (well 0 p (omega arith)) (part_controls n c) e (map (take a) X)
      (each_map (Has (inputs_of (p ∷ ps))) (Has a) (take a) X (λ x l. length-take-le a x (omega (arith, l, all))) wide)

  first_long : length A ≡ length X
  first_long = length_run p.diagram (part_controls n c) e (map (take a) X) ∙ length-map X (take a)

  behind_long : length B ≡ length X
  behind_long = length_run rest c e (map (drop a) X) ∙ length-map X (drop a)

  pub first_column : (j t : ℕ) → j < outputs p.diagram → t < length X → column (run (side_by_side n (p ∷ ps)) c e X) j t ≡ column A j t
  first_column j t l m =
      ap (λ Y. column Y j t) both ∙ column_left A B (outputs p.diagram) j t (omega (arith, m, first_long)) (first_long ∙ sym behind_long) first_wide l

  pub behind_column : (j t : ℕ) → t < length X → column (run (side_by_side n (p ∷ ps)) c e X) (outputs p.diagram + j) t ≡ column B j t
  behind_column j t m =
      ap (λ Y. column Y (outputs p.diagram + j) t) both
      ∙ column_right A B (outputs p.diagram) j t (omega (arith, m, first_long)) (first_long ∙ sym behind_long) first_wide

-- ---- all parts

abbrev PartColumn : (n : ℕ) → List Part → (c e : ℕ → Stream) → List Frame → (k : ℕ) → Part → Type 0
PartColumn n ps c e X k p =
    (j t : ℕ) → j < outputs p.diagram → t < length X → column (run (side_by_side n ps) c e X) (outputs_of (take k ps) + j) t
    ≡ column (run p.diagram (part_controls (n + controls_of (take k ps)) c) e (part_frames (inputs_of (take k ps)) (inputs p.diagram) X)) j t

part_column_at : (ps : List Part) (n : ℕ) (c e : ℕ → Stream) (X : List Frame) → AreWellFormed ps → All (Has (inputs_of ps)) X → (k : ℕ) (d : Part)
    → k < length ps → PartColumn n ps c e X k (get_or ps k d)
part_column_at [] n c e X well wide k d l j t m u = absurd (omega (arith, l))
part_column_at (p ∷ ps) n c e X well wide zero d l j t m u =
    let none : n ≡ n + 0 = omega arith in
    let at_j : 0 + j ≡ j = omega arith in
    ap (λ i. column (run (side_by_side n (p ∷ ps)) c e X) i t) at_j
    ∙ first_column n p ps c e X well wide j t m u
    ∙ ap (λ i. column (run p.diagram (part_controls i c) e (part_frames 0 (inputs p.diagram) X)) j t) none
part_column_at (p ∷ ps) n c e X well wide (suc k) d l j t m u =
    let q = get_or ps k d in
    let a = inputs p.diagram in
    let first = take k ps in
    let outs : outputs_of (p ∷ first) + j ≡ outputs p.diagram + (outputs_of first + j) =
    omega (arith, sum_by-cons (λ (q : Part). outputs q.diagram) p first) in
    let controls : (n + length p.spans) + controls_of first ≡ n + controls_of (p ∷ first) =
    omega (arith, sum_by-cons (λ (q : Part). length q.spans) p first) in
    let ins : a + inputs_of first ≡ inputs_of (p ∷ first) = sym (sum_by-cons (λ (q : Part). inputs q.diagram) p first) in
    ap (λ i. column (run (side_by_side n (p ∷ ps)) c e X) i t) outs
    ∙ behind_column n p ps c e X well wide (outputs_of first + j) t u
    ∙ part_column_at ps (n + length p.spans) c e (map (drop a) X) (λ i o h. well (suc i) o (omega (arith, h))) (behind_wide n p ps c e X well wide) k d
    (omega (arith, l)) j t m (omega (arith, u, length-map X (drop a)))
    ∙ ap₂ (λ i Y. column (run q.diagram (part_controls i c) e Y) j t) controls
    (part_behind a (inputs_of first) (inputs q.diagram) X ∙ ap (λ i. part_frames i (inputs q.diagram) X) ins)

pub parts_answer : PartsAnswer
parts_answer ps c e X well wide k d l j t m u =
    let p = get_or ps k d in
    let first = take k ps in
    let none : 0 + controls_of first ≡ controls_of first = omega arith in
    part_column_at ps 0 c e X well wide k d l j t m u
    ∙ ap (λ i. column (run p.diagram (part_controls i c) e (part_frames (inputs_of first) (inputs p.diagram) X)) j t) none

-- ---- two that agree on a part

pub parts_answer_alike : PartsAnswerAlike
parts_answer_alike a b d e same frames controls j t l m =
    let p = own a d in
    let q = own b d in
    let Y = own_frames a d in
    let long : length Y ≡ length a.frames =
    length-map a.frames (λ x. take (inputs p.diagram) (drop (inputs_of (take a.number a.parts)) x)) in
    let longer : length (own_frames b d) ≡ length b.frames =
    length-map b.frames (λ x. take (inputs q.diagram) (drop (inputs_of (take b.number b.parts)) x)) in
    let alike : run p.diagram (own_controls a) e Y ≡ run p.diagram (own_controls b) e Y =
    answers_alike p.diagram (own_controls a) (own_controls b) e e Y (λ k u h i. controls k u h (omega (arith, i, long))) (λ s u h i. refl) in
    parts_answer a.parts a.controls e a.frames a.well a.wide a.number d a.within j t l m
    ∙ ap (λ Z. column Z j t) alike
    ∙ ap₂ (λ (o : Part) Z. column (run o.diagram (own_controls b) e Z) j t) same frames
    ∙ sym (parts_answer b.parts b.controls e b.frames b.well b.wide b.number d b.within j t (subst (λ (o : Part). j < outputs o.diagram) same l)
    (omega (arith, m, long, longer, ap length frames)))
