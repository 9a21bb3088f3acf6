-- A diagram whose controls are numbered after others.
use Rattle.std.proofs.Common.{◌≡◌, ℕ, suc, ◌+◌, ◌-◌, List, [], ◌∷◌, ◌++◌, map, reverse, take, drop, refl, ap, ap₂, ◌∙◌, pos}
use Rattle.fv_diagram.specs.Frames.{Frame}
use Rattle.fv_diagram.specs.headline.Diagram.{Diagram, Primitive, Constant, Control, Slot, Wave, Table, Bind, Par, Seq, Split, Merge, Rec, inputs, outputs}
use Rattle.fv_diagram.specs.headline.Streams.{beside, bound, column, dealt, fed_back, feedback, last, merged, run}
use Rattle.fv_compile.specs.Joined.{part_controls}
use Rattle.fv_compile.specs.headline.Parts.{shifted}
use Rattle.fv_compile.specs.Parts.{ShiftedAnswers}

-- ---- arities

pub outputs_shifted : (n : ℕ) (d : Diagram) → outputs (shifted n d) ≡ outputs d
outputs_shifted n (Primitive p) = refl
outputs_shifted n (Constant z) = refl
outputs_shifted n (Control k) = refl
outputs_shifted n (Slot s) = refl
outputs_shifted n (Wave w) = refl
outputs_shifted n (Table T writes) = refl
outputs_shifted n (Bind s a) = outputs_shifted n a
outputs_shifted n (Par a b) = ap₂ (λ x y. x + y) (outputs_shifted n a) (outputs_shifted n b)
outputs_shifted n (Seq a b) = outputs_shifted n b
outputs_shifted n (Split a b) = outputs_shifted n b
outputs_shifted n (Merge a b) = outputs_shifted n b
outputs_shifted n (Rec a b) = outputs_shifted n a

pub inputs_shifted : (n : ℕ) (d : Diagram) → inputs (shifted n d) ≡ inputs d
inputs_shifted n (Primitive p) = refl
inputs_shifted n (Constant z) = refl
inputs_shifted n (Control k) = refl
inputs_shifted n (Slot s) = refl
inputs_shifted n (Wave w) = refl
inputs_shifted n (Table T writes) = refl
inputs_shifted n (Bind s a) = ap suc (inputs_shifted n a)
inputs_shifted n (Par a b) = ap₂ (λ x y. x + y) (inputs_shifted n a) (inputs_shifted n b)
inputs_shifted n (Seq a b) = inputs_shifted n a
inputs_shifted n (Split a b) = inputs_shifted n a
inputs_shifted n (Merge a b) = inputs_shifted n a
inputs_shifted n (Rec a b) = ap₂ (λ x y. x - y) (inputs_shifted n a) (outputs_shifted n b)

-- ---- answers

feedback_alike : (A A' B B' : List Frame → List Frame) (n : ℕ) → ((Z : List Frame) → A Z ≡ A' Z) → ((Z : List Frame) → B Z ≡ B' Z) → (X : List Frame)
    → feedback A B n X ≡ feedback A' B' n X
feedback_alike A A' B B' n p q [] = refl
feedback_alike A A' B B' n p q (x ∷ X) =
    let Y = feedback A B n X in
    let Y' = feedback A' B' n X in
    let e : Y ≡ Y' = feedback_alike A A' B B' n p q X in
    let R = reverse (x ∷ X) in
    let f : B (fed_back n Y) ≡ B' (fed_back n Y') = q (fed_back n Y) ∙ ap (λ y. B' (fed_back n y)) e in
    let g : A (beside (B (fed_back n Y)) R) ≡ A' (beside (B' (fed_back n Y')) R) =
    p (beside (B (fed_back n Y)) R) ∙ ap (λ y. A' (beside y R)) f in
    ap₂ (λ y z. y ++ last z ∷ []) e g

pub shifted_answers : (d : Diagram) → ShiftedAnswers d
shifted_answers (Primitive p) n c e X = refl
shifted_answers (Constant z) n c e X = refl
shifted_answers (Control k) n c e X = refl
shifted_answers (Slot s) n c e X = refl
shifted_answers (Wave w) n c e X = refl
shifted_answers (Table T writes) n c e X = refl
shifted_answers (Bind s a) n c e X = shifted_answers a n c (bound e s (column X 0)) (map (drop 1) X)
shifted_answers (Par a b) n c e X =
    ap₂ beside
    (ap (λ i. run (shifted n a) c e (map (take i) X)) (inputs_shifted n a) ∙ shifted_answers a n c e (map (take (inputs a)) X))
    (ap (λ i. run (shifted n b) c e (map (drop i) X)) (inputs_shifted n a) ∙ shifted_answers b n c e (map (drop (inputs a)) X))
shifted_answers (Seq a b) n c e X = ap (run (shifted n b) c e) (shifted_answers a n c e X) ∙ shifted_answers b n c e (run a (part_controls n c) e X)
shifted_answers (Split a b) n c e X =
    let Y = run a (part_controls n c) e X in
    ap₂ (λ i Z. run (shifted n b) c e (map (dealt (pos 0) i) Z)) (inputs_shifted n b) (shifted_answers a n c e X)
    ∙ shifted_answers b n c e (map (dealt (pos 0) (inputs b)) Y)
shifted_answers (Merge a b) n c e X =
    let Y = run a (part_controls n c) e X in
    ap₂ (λ i Z. run (shifted n b) c e (map (merged i) Z)) (inputs_shifted n b) (shifted_answers a n c e X)
    ∙ shifted_answers b n c e (map (merged (inputs b)) Y)
shifted_answers (Rec a b) n c e X =
    ap (λ i. feedback (run (shifted n a) c e) (run (shifted n b) c e) i (reverse X)) (inputs_shifted n b)
    ∙ feedback_alike (run (shifted n a) c e) (run a (part_controls n c) e) (run (shifted n b) c e) (run b (part_controls n c) e) (inputs b)
    (shifted_answers a n c e) (shifted_answers b n c e) (reverse X)
