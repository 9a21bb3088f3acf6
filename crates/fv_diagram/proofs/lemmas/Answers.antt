-- How many frames an answer has, how wide they are, and what they depend on.
use Rattle.std.proofs.Common.{◌≡◌, ℕ, Bool, true, false, ℤ, suc, ◌+◌, ◌-◌, List, [], ◌∷◌, ◌++◌, length}
use Rattle.std.proofs.Common.{map, reverse, take, drop, refl, sym, ap, ap₂, ◌∙◌, subst, arith, All, pos}
use Rattle.std.proofs.lemmas.List.{get_or_append_left, length-append, length-take-le, length-drop, length-replicate, length-reverse}
use Rattle.fv_base.proofs.lemmas.Lists.{length_table}
use Rattle.fv_num.specs.declared.primitive.Primitive.{Primitive as Prim}
use Rattle.fv_num.specs.declared.primitive.Primitive.TheVariants as prim
use Rattle.fv_diagram.specs.headline.Diagram.{Diagram, Primitive, Constant, Control, Slot, Wave, Table, Bind}
use Rattle.fv_diagram.specs.headline.Diagram.{Par, Seq, Split, Merge, Rec, primitive_outputs, inputs, outputs}
use Rattle.fv_diagram.specs.headline.Streams.{Frame, column, primitive_at, wave_at, table_at, dealt, merged, bound, last, run}
use Rattle.fv_diagram.specs.Laws.{AnswersEach, AnswersWide, AnswersAlike, AnswersOneMore}
use Rattle.fv_diagram.proofs.lemmas.Lists.{last_snoc}
use Rattle.fv_diagram.proofs.lemmas.Each.{each_table, each_map, each_beside, each_reverse, each_feedback}
use Rattle.fv_diagram.proofs.lemmas.Causality.{length_run, run_same, causal, AgreeRead, AgreeFree}

pub answers_each : (d : Diagram) → AnswersEach d
answers_each d = length_run d

pub answers_alike : (d : Diagram) → AnswersAlike d
unfolding AgreeRead AgreeFree
answers_alike d c c' e e' X h g = run_same d c c' e e' X h g

pub answers_one_more : (d : Diagram) → AnswersOneMore d
unfolding AgreeRead AgreeFree
answers_one_more d e C X controls x l =
    let c' = column (C ++ controls ∷ []) in
    let i = causal d c' e X x in
    let same : run d c' e X ≡ run d (column C) e X =
    run_same d c' (column C) e e X
    (λ k t r m. ap (λ y. column (y ∷ []) k 0) (get_or_append_left C (controls ∷ []) [] t (omega arith))) (λ k t f m. refl) in
    i.1 ∙ ap (λ Y. Y ++ i.0 ∷ []) same
    ∙ ap (λ z. run d (column C) e X ++ z ∷ []) (sym (ap last i.1 ∙ last_snoc (run d c' e X) i.0))

-- ---- widths

abbrev Has : ℕ → Frame → Type 0
Has n x = length x ≡ n

abbrev Wide : ℕ → List Frame → Type 0
Wide n X = All (Has n) X

primitive_wide : (p : Prim) (X : List Frame) (t : ℕ) → length (primitive_at p X t) ≡ primitive_outputs p
primitive_wide prim.Wire X t = refl
primitive_wide prim.Int X t = refl
primitive_wide prim.Attach X t = refl
primitive_wide prim.Cut X t = refl
primitive_wide prim.Mem X t = refl
primitive_wide prim.Prefix X t = refl
primitive_wide prim.Delay X t = refl
primitive_wide (prim.Point op) X t = refl
primitive_wide prim.ReadTable X t = refl
primitive_wide prim.WriteTable X t = refl

table_wide : (T : List ℤ) (writes : Bool) (X : List Frame) (t : ℕ) → length (table_at T writes X t) ≡ 1
table_wide T false X t = refl
table_wide T true X t = refl

pub answers_wide : (d : Diagram) → AnswersWide d
answers_wide (Primitive p) h c e X w = each_table (Has (primitive_outputs p)) (length X) (primitive_at p X) (λ t l. primitive_wide p X t)
answers_wide (Constant n) h c e X w = each_table (Has 1) (length X) (λ t. n ∷ []) (λ t l. refl)
answers_wide (Control k) h c e X w = each_table (Has 1) (length X) (λ t. c k t ∷ []) (λ t l. refl)
answers_wide (Slot s) h c e X w = each_table (Has 1) (length X) (λ t. e s t ∷ []) (λ t l. refl)
answers_wide (Wave v) h c e X w = each_table (Has 2) (length X) (wave_at v) (λ t l. refl)
answers_wide (Table T writes) h c e X w = each_table (Has 1) (length X) (table_at T writes X) (λ t l. table_wide T writes X t)
answers_wide (Bind s a) h c e X w =
    answers_wide a h c (bound e s (column X 0)) (map (drop 1) X)
    (each_map (Has (suc (inputs a))) (Has (inputs a)) (drop 1) X (λ x l. omega (arith, length-drop 1 x)) w)
answers_wide (Par a b) h c e X w =
    each_beside (Has (outputs a)) (Has (outputs b)) (Has (outputs a + outputs b)) (run a c e (map (take (inputs a)) X)) (run b c e (map (drop (inputs a)) X))
    (λ x y f g. length-append x y ∙ ap₂ (λ m n. m + n) f g)
    (answers_wide a h.0 c e (map (take (inputs a)) X) (each_map (Has (inputs a + inputs b)) (Has (inputs a)) (take (inputs a)) X
    (λ x l. length-take-le (inputs a) x (omega arith)) w))
    (answers_wide b h.1 c e (map (drop (inputs a)) X) (each_map (Has (inputs a + inputs b)) (Has (inputs b)) (drop (inputs a)) X
    (λ x l. omega (arith, length-drop (inputs a) x)) w))
answers_wide (Seq a b) h c e X w =
    answers_wide b h.1 c e (run a c e X) (subst (λ n. Wide n (run a c e X)) h.2 (answers_wide a h.0 c e X w))
answers_wide (Split a b) h c e X w =
    answers_wide b h.1 c e (map (dealt (pos 0) (inputs b)) (run a c e X))
    (each_map (Has (outputs a)) (Has (inputs b)) (dealt (pos 0) (inputs b)) (run a c e X) (λ x l. length_table (inputs b) _) (answers_wide a h.0 c e X w))
answers_wide (Merge a b) h c e X w =
    answers_wide b h.1 c e (map (merged (inputs b)) (run a c e X))
    (each_map (Has (outputs a)) (Has (inputs b)) (merged (inputs b)) (run a c e X) (λ x l. length_table (inputs b) _) (answers_wide a h.0 c e X w))
answers_wide (Rec a b) h c e X w =
    each_feedback (run a c e) (run b c e) (inputs b) (length X) (Has (inputs a - outputs b)) (Has (outputs a)) (Has (inputs b)) (Has (outputs b))
    (Has (inputs a))
    (length-replicate (inputs b) (pos 0)) (λ y f. length-take-le (inputs b) y (omega (arith, h.2)))
    (λ x y f g. length-append x y ∙ ap₂ (λ m n. m + n) f g ∙ (let k : outputs b + (inputs a - outputs b) ≡ inputs a = omega (arith, h.3) in k))
    (length_run a c e) (length_run b c e) (λ Z l. answers_wide a h.0 c e Z) (λ Z l. answers_wide b h.1 c e Z) (reverse X) (omega (arith, length-reverse X))
    (each_reverse (Has (inputs a - outputs b)) X w)
