-- Wires that are wired as a diagram carry its answer.
use Rattle.std.proofs.Common.{◌≡◌, ℕ, zero, suc, ◌%◌, ◌<◌, ◌≤◌, List, [], ◌∷◌, ◌++◌, length, map, reverse, take, drop}
use Rattle.std.proofs.Common.{get_or, replicate, refl, sym, ap, ap₂, ◌∙◌, arith, pos, true, false, if◌then◌else◌, nat_eq}
use Rattle.std.proofs.lemmas.List.{map_push, map-append, length-map, take-map, drop-map, get_or-map}
use Rattle.std.proofs.Math.Nat.{mod-lt}
use Rattle.fv_diagram.specs.headline.Diagram.{Diagram, Primitive, Constant, Control, Slot, Wave, Table, Bind, Par, Seq, Split, Merge, Rec, inputs}
use Rattle.fv_diagram.specs.headline.Streams.{Frame, Stream, column, table, primitive_at, wave_at, table_at}
use Rattle.fv_diagram.specs.headline.Streams.{beside, dealt, merged, bound, last, fed_back, feedback, run}
use Rattle.fv_num.specs.headline.Frames.{carried}
use Rattle.fv_num.specs.Frames.{carries}
use Rattle.fv_diagram.specs.Wires.{plugged, Wired, SlotsCarry}
use Rattle.fv_diagram.proofs.lemmas.Lists.{table_same, length_table, map_table, get_or_table, beside_snoc, last_snoc}
use Rattle.fv_diagram.proofs.lemmas.Causality.{feedback_snoc}

pub beside_table : (n : ℕ) (f g : ℕ → Frame) → beside (table n f) (table n g) ≡ table n (λ t. f t ++ g t)
beside_table zero f g = refl
beside_table (suc n) f g = beside_snoc (table n f) (table n g) (f n) (g n) (length_table n f ∙ sym (length_table n g))
    ∙ ap (λ X. X ++ (f n ++ g n) ∷ []) (beside_table n f g)

pub column_carries : (v : ℕ → Stream) (ws : List ℕ) (n i t : ℕ) → t < n → column (carries v ws n) i t ≡ get_or (carried v ws t) i (pos 0)
column_carries v ws n i t l = ap (λ x. get_or x i (pos 0)) (get_or_table n (carried v ws) t [] l)

module _ (v : ℕ → Stream) where
  carries_take : (k : ℕ) (ws : List ℕ) (n : ℕ) → map (take k) (carries v ws n) ≡ carries v (take k ws) n
  carries_take k ws n = map_table (take k) n (carried v ws) ∙ table_same n _ _ (λ t l. take-map (λ w. v w t) k ws)

  carries_drop : (k : ℕ) (ws : List ℕ) (n : ℕ) → map (drop k) (carries v ws n) ≡ carries v (drop k ws) n
  carries_drop k ws n = map_table (drop k) n (carried v ws) ∙ table_same n _ _ (λ t l. drop-map (λ w. v w t) k ws)

  carries_append : (us ws : List ℕ) (n : ℕ) → beside (carries v us n) (carries v ws n) ≡ carries v (us ++ ws) n
  carries_append us ws n = beside_table n (carried v us) (carried v ws) ∙ table_same n _ _ (λ t l. sym (map-append (λ w. v w t) us ws))

  carried_dealt : (k : ℕ) (ws : List ℕ) (t : ℕ) → 1 ≤ length ws → dealt (pos 0) k (carried v ws t) ≡ carried v (dealt 0 k ws) t
  carried_dealt k ws t h =
      table_same k _ _ (λ i l.
      let m : i % length ws < length ws = mod-lt i (omega arith) in
      ap (λ n. get_or (carried v ws t) (i % n) (pos 0)) (length-map ws (λ w. v w t)) ∙ get_or-map (λ w. v w t) ws (i % length ws) 0 (pos 0) m)
      ∙ sym (map_table (λ w. v w t) k (λ i. get_or ws (i % length ws) 0))

  carries_dealt : (k : ℕ) (ws : List ℕ) (n : ℕ) → 1 ≤ length ws → map (dealt (pos 0) k) (carries v ws n) ≡ carries v (dealt 0 k ws) n
  carries_dealt k ws n h = map_table (dealt (pos 0) k) n (carried v ws) ∙ table_same n _ _ (λ t l. carried_dealt k ws t h)

  -- what is fed back is what the wires one sample later carry
  carries_fed_back : (k : ℕ) (late outs : List ℕ) (n : ℕ) → carried v late 0 ≡ replicate k (pos 0)
      → ((t : ℕ) → carried v late (suc t) ≡ take k (carried v outs t)) → fed_back k (carries v outs n) ≡ carries v late (suc n)
  carries_fed_back k late outs zero h g = ap (λ x. x ∷ []) (sym h)
  carries_fed_back k late outs (suc n) h g =
      ap (λ X. replicate k (pos 0) ∷ X) (map_push (take k) (carries v outs n) (carried v outs n))
      ∙ ap₂ (λ X x. X ++ x ∷ []) (carries_fed_back k late outs n h g) (sym (g n))

  plugged_carry : (slots : ℕ → ℕ) (e : ℕ → Stream) (s w n : ℕ) (x : Stream) → SlotsCarry v slots e n → ((t : ℕ) → t < n → x t ≡ v w t)
      → SlotsCarry v (plugged slots s w) (bound e s x) n
  plugged_carry slots e s w n x h g k t l = elim (nat_eq k s) as
      (λ b. (if b then x else e k) t ≡ v (if b then w else slots k) t) [ true ↦ g t l | false ↦ h k t l ]

  module _ (c : ℕ → Stream) where
    -- other wires that carry the same streams
    pub wired_same : (d : Diagram) (slots : ℕ → ℕ) (ins outs outs' : List ℕ) → ((t : ℕ) → carried v outs' t ≡ carried v outs t)
        → Wired v c d slots ins outs → Wired v c d slots ins outs'
    wired_same (Primitive p) slots ins outs outs' e h = λ n t l. e t ∙ h n t l
    wired_same (Constant z) slots ins outs outs' e h = λ t. e t ∙ h t
    wired_same (Control k) slots ins outs outs' e h = λ t. e t ∙ h t
    wired_same (Slot s) slots ins outs outs' e h = λ t. e t ∙ h t
    wired_same (Wave w) slots ins outs outs' e h = λ t. e t ∙ h t
    wired_same (Table T writes) slots ins outs outs' e h = λ n t l. e t ∙ h n t l
    wired_same (Bind s a) slots ins outs outs' e h = (h.0, h.1, h.2, wired_same a (plugged slots s h.0) h.1 outs outs' e h.3)
    wired_same (Par a b) slots ins outs outs' e h = (h.0, h.1, h.2, h.3, λ t. e t ∙ h.4 t)
    wired_same (Seq a b) slots ins outs outs' e h = (h.0, h.1, wired_same b slots h.0 outs outs' e h.2)
    wired_same (Split a b) slots ins outs outs' e h = (h.0, h.1, h.2, wired_same b slots (dealt 0 (inputs b) h.0) outs outs' e h.3)
    wired_same (Merge a b) slots ins outs outs' e h = (h.0, h.1, h.2, h.3, wired_same b slots h.1 outs outs' e h.4)
    wired_same (Rec a b) slots ins outs outs' e h =
        (h.0, h.1, h.2, λ t. h.3 t ∙ ap (take (inputs b)) (sym (e t)), h.4, wired_same a slots (h.1 ++ ins) outs outs' e h.5)

    -- the frames that the wires outs carry are the diagram's answer on those that the wires ins carry
    pub wired_answers : (d : Diagram) (slots : ℕ → ℕ) (e : ℕ → Stream) (ins outs : List ℕ) (n : ℕ) → Wired v c d slots ins outs
        → SlotsCarry v slots e n → run d c e (carries v ins n) ≡ carries v outs n
    wired_answers (Primitive p) slots e ins outs n h g = ap (λ k. table k (primitive_at p (carries v ins n))) (length_table n _)
        ∙ table_same n _ _ (λ t l. sym (h n t l))
    wired_answers (Constant z) slots e ins outs n h g = ap (λ k. table k (λ t. z ∷ [])) (length_table n _) ∙ table_same n _ _ (λ t l. sym (h t))
    wired_answers (Control k) slots e ins outs n h g = ap (λ m. table m (λ t. c k t ∷ [])) (length_table n _) ∙ table_same n _ _ (λ t l. sym (h t))
    wired_answers (Slot s) slots e ins outs n h g = ap (λ m. table m (λ t. e s t ∷ [])) (length_table n _)
        ∙ table_same n _ _ (λ t l. ap (λ z. z ∷ []) (g s t l) ∙ sym (h t))
    wired_answers (Wave w) slots e ins outs n h g = ap (λ m. table m (wave_at w)) (length_table n _) ∙ table_same n _ _ (λ t l. sym (h t))
    wired_answers (Table T writes) slots e ins outs n h g = ap (λ m. table m (table_at T writes (carries v ins n))) (length_table n _)
        ∙ table_same n _ _ (λ t l. sym (h n t l))
    wired_answers (Bind s a) slots e ins outs n h g =
        let w = h.0 in let rest = h.1 in
        let x = column (carries v ins n) 0 in
        let first : (t : ℕ) → t < n → x t ≡ v w t = λ t l. column_carries v ins n 0 t l ∙ ap (λ ws. get_or (carried v ws t) 0 (pos 0)) h.2 in
        ap (run a c (bound e s x)) (carries_drop 1 ins n ∙ ap (λ ws. carries v (drop 1 ws) n) h.2)
        ∙ wired_answers a (plugged slots s w) (bound e s x) rest outs n h.3 (plugged_carry slots e s w n x g first)
    wired_answers (Par a b) slots e ins outs n h g =
        ap₂ beside
        (ap (run a c e) (carries_take (inputs a) ins n) ∙ wired_answers a slots e (take (inputs a) ins) h.0 n h.2 g)
        (ap (run b c e) (carries_drop (inputs a) ins n) ∙ wired_answers b slots e (drop (inputs a) ins) h.1 n h.3 g)
        ∙ beside_table n (carried v h.0) (carried v h.1) ∙ table_same n _ _ (λ t l. sym (h.4 t))
    wired_answers (Seq a b) slots e ins outs n h g =
        ap (run b c e) (wired_answers a slots e ins h.0 n h.1 g) ∙ wired_answers b slots e h.0 outs n h.2 g
    wired_answers (Split a b) slots e ins outs n h g =
        ap (λ Y. run b c e (map (dealt (pos 0) (inputs b)) Y)) (wired_answers a slots e ins h.0 n h.1 g)
        ∙ ap (run b c e) (carries_dealt (inputs b) h.0 n h.2)
        ∙ wired_answers b slots e (dealt 0 (inputs b) h.0) outs n h.3 g
    wired_answers (Merge a b) slots e ins outs n h g =
        ap (λ Y. run b c e (map (merged (inputs b)) Y)) (wired_answers a slots e ins h.0 n h.2 g)
        ∙ ap (run b c e) (map_table (merged (inputs b)) n (carried v h.0) ∙ table_same n _ _ (λ t l. sym (h.3 t)))
        ∙ wired_answers b slots e h.1 outs n h.4 g
    wired_answers (Rec a b) slots e ins outs zero h g = refl
    wired_answers (Rec a b) slots e ins outs (suc n) h g =
        let late = h.0 in let given = h.1 in
        let X = carries v ins n in
        let Y : feedback (run a c e) (run b c e) (inputs b) (reverse X) ≡ carries v outs n = wired_answers (Rec a b) slots e ins outs n h
        (λ s t l. g s t (omega arith)) in
        let f : run b c e (fed_back (inputs b) (feedback (run a c e) (run b c e) (inputs b) (reverse X))) ≡ carries v given (suc n) =
        ap (λ Z. run b c e (fed_back (inputs b) Z)) Y ∙ ap (run b c e) (carries_fed_back (inputs b) late outs n h.2 h.3)
        ∙ wired_answers b slots e late given (suc n) h.4 g in
        let r : run a c e (beside (run b c e (fed_back (inputs b) (feedback (run a c e) (run b c e) (inputs b) (reverse X))))
        (carries v ins (suc n))) ≡ carries v outs (suc n) =
        ap (λ F. run a c e (beside F (carries v ins (suc n)))) f ∙ ap (run a c e) (carries_append given ins (suc n))
        ∙ wired_answers a slots e (given ++ ins) outs (suc n) h.5 g in
        feedback_snoc (run a c e) (run b c e) (inputs b) X (carried v ins n)
        ∙ ap₂ (λ y z. y ++ last z ∷ []) Y r
        ∙ ap (λ x. carries v outs n ++ x ∷ []) (last_snoc (carries v outs n) (carried v outs n))
