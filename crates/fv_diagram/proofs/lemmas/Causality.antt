-- The answer on more frames begins with the answer on fewer.
use Rattle.std.proofs.Common.{◌≡◌, ℕ, zero, suc, ◌-◌, ◌<◌, ◌≤◌, List, [], ◌∷◌, ◌++◌, length, map, reverse, take, drop, get_or, replicate, refl, sym, ap}
use Rattle.std.proofs.Common.{ap₂, ◌∙◌, arith, append_assoc, append-nil, inl, inr, ℤ, pos, negsuc, Bool, true, false, if◌then◌else◌, nat_eq, nat_le}
use Rattle.std.proofs.lemmas.List.{reverse-append, reverse-reverse, get_or_append_left, map_push, length-append, length-map}
use Rattle.std.proofs.lemmas.List.{length-reverse, take-append-le, take_all, take_at, nil_from_length, length-take-le}
use Rattle.std.proofs.lemmas.Bool.{eqb-false}
use Rattle.fv_num.specs.headline.Words.{apply_of}
use Rattle.fv_num.specs.declared.primitive.Primitive.{Primitive as Prim}
use Rattle.fv_num.specs.declared.primitive.Primitive.TheVariants.{Wire, Cut, Mem, Prefix, Delay, Int, Attach, Point, ReadTable, WriteTable}
use Rattle.fv_diagram.specs.headline.Diagram.{Diagram, Primitive, Constant, Control, Slot, Wave, Table, Bind, Par, Seq, Split, Merge, Rec, inputs}
use Rattle.fv_diagram.specs.Diagram.{control_bound, IsFree, HasNoFreeSlot}
use Rattle.fv_diagram.specs.headline.Streams.{Frame, Stream, frame_at, column, table, delayed, prefixed, back, primitive_at}
use Rattle.fv_diagram.specs.headline.Streams.{wave_at, table_at, beside, dealt, merged, bound, last, fed_back, feedback, run}
use Rattle.fv_diagram.specs.Laws.{AnswersPrefixes, AnswersItself, fed_back_over}
use Rattle.fv_num.specs.headline.Tables.{place, read_at, written_at}
use Rattle.fv_num.proofs.lemmas.Tables.{last_written_same}
use Rattle.fv_diagram.proofs.lemmas.Lists.{snoc_induction, length_snoc, table_same, length_table, beside_snoc, length_beside, last_snoc}

-- ---- lengths

beside_short : (X Y : List Frame) → length (beside X Y) ≤ length Y
beside_short [] Y = omega arith
beside_short (x ∷ X) [] = omega arith
beside_short (x ∷ X) (y ∷ Y) = omega (arith, beside_short X Y)

pub length_feedback : (A B : List Frame → List Frame) (n : ℕ) (X : List Frame) → length (feedback A B n X) ≡ length X
length_feedback A B n [] = refl
length_feedback A B n (x ∷ X) = length_snoc (feedback A B n X) _ ∙ ap suc (length_feedback A B n X)

pub length_run : (d : Diagram) (c e : ℕ → Stream) (X : List Frame) → length (run d c e X) ≡ length X
length_run (Primitive p) c e X = length_table (length X) (primitive_at p X)
length_run (Constant n) c e X = length_table (length X) (λ t. n ∷ [])
length_run (Control k) c e X = length_table (length X) (λ t. c k t ∷ [])
length_run (Slot s) c e X = length_table (length X) (λ t. e s t ∷ [])
length_run (Wave w) c e X = length_table (length X) (wave_at w)
length_run (Table T writes) c e X = length_table (length X) (table_at T writes X)
length_run (Bind s a) c e X = length_run a c (bound e s (column X 0)) (map (drop 1) X) ∙ length-map X (drop 1)
length_run (Par a b) c e X =
    let p : length (run a c e (map (take (inputs a)) X)) ≡ length X = length_run a c e (map (take (inputs a)) X) ∙ length-map X (take (inputs a)) in
    let q : length (run b c e (map (drop (inputs a)) X)) ≡ length X = length_run b c e (map (drop (inputs a)) X) ∙ length-map X (drop (inputs a)) in
    length_beside (run a c e (map (take (inputs a)) X)) (run b c e (map (drop (inputs a)) X)) (p ∙ sym q) ∙ p
length_run (Seq a b) c e X = length_run b c e (run a c e X) ∙ length_run a c e X
length_run (Split a b) c e X = length_run b c e (map (dealt (pos 0) (inputs b)) (run a c e X)) ∙ length-map (run a c e X) (dealt (pos 0) (inputs b))
    ∙ length_run a c e X
length_run (Merge a b) c e X = length_run b c e (map (merged (inputs b)) (run a c e X)) ∙ length-map (run a c e X) (merged (inputs b)) ∙ length_run a c e X
length_run (Rec a b) c e X = length_feedback (run a c e) (run b c e) (inputs b) (reverse X) ∙ length-reverse X

-- ---- only the times that the frames have count

pub AgreeBelow : ℕ → (ℕ → Stream) → (ℕ → Stream) → Type 0
AgreeBelow n e e' = (k t : ℕ) → t < n → e k t ≡ e' k t

bound_same : (n : ℕ) (e e' : ℕ → Stream) (s : ℕ) (x x' : Stream) → AgreeBelow n e e' → ((t : ℕ) → t < n → x t ≡ x' t) →
    AgreeBelow n (bound e s x) (bound e' s x')
unfolding AgreeBelow
bound_same n e e' s x x' h g k t l = elim (nat_eq k s) as (λ b. (if b then x else e k) t ≡ (if b then x' else e' k) t) [ true ↦ g t l | false ↦ h k t l ]

-- the free slots of the diagram have the same streams
unfoldable pub AgreeFree : Diagram → ℕ → (ℕ → Stream) → (ℕ → Stream) → Type 0
AgreeFree d n e e' = (k t : ℕ) → IsFree k d → t < n → e k t ≡ e' k t

bound_free : (a : Diagram) (n m : ℕ) (e e' : ℕ → Stream) (s : ℕ) (x : Stream) → m ≤ n → AgreeFree (Bind s a) n e e' → AgreeFree a m (bound e s x) (bound e' s x)
unfolding AgreeFree
bound_free a n m e e' s x r g k t f l = by (nat_eq k s) refl
  where
    by : (b : Bool) → nat_eq k s ≡ b → (if b then x else e k) t ≡ (if b then x else e' k) t
    by true h = refl
    by false h = g k t (f, eqb-false k s h) (omega arith)

feedback_same : (A A' B B' : List Frame → List Frame) (n : ℕ) (X : List Frame) → ((Z : List Frame) → length Z ≤ length X → A Z ≡ A' Z) →
    ((Z : List Frame) → length Z ≤ length X → B Z ≡ B' Z) → feedback A B n X ≡ feedback A' B' n X
feedback_same A A' B B' n [] p q = refl
feedback_same A A' B B' n (x ∷ X) p q =
    let Y = feedback A B n X in
    let Y' = feedback A' B' n X in
    let e : Y ≡ Y' = feedback_same A A' B B' n X (λ Z l. p Z (omega arith)) (λ Z l. q Z (omega arith)) in
    let R = reverse (x ∷ X) in
    let f : B (fed_back n Y) ≡ B' (fed_back n Y') =
    q (fed_back n Y) (omega (arith, length-map Y (take n), length_feedback A B n X)) ∙ ap (λ y. B' (fed_back n y)) e in
    let g : A (beside (B (fed_back n Y)) R) ≡ A' (beside (B' (fed_back n Y')) R) =
    p (beside (B (fed_back n Y)) R) (omega (arith, beside_short (B (fed_back n Y)) R, length-reverse (x ∷ X))) ∙ ap (λ y. A' (beside y R)) f in
    ap₂ (λ y z. y ++ last z ∷ []) e g

-- the controls that the diagram reads have the same streams
unfoldable pub AgreeRead : Diagram → ℕ → (ℕ → Stream) → (ℕ → Stream) → Type 0
AgreeRead d n c c' = (k t : ℕ) → k < control_bound d → t < n → c k t ≡ c' k t

pub run_same : (d : Diagram) (c c' e e' : ℕ → Stream) (X : List Frame) → AgreeRead d (length X) c c' → AgreeFree d (length X) e e' → run d c e X ≡ run d c' e' X
unfolding AgreeRead AgreeFree
run_same (Primitive p) c c' e e' X h g = refl
run_same (Constant n) c c' e e' X h g = refl
run_same (Control k) c c' e e' X h g = table_same (length X) _ _ (λ t l. ap (λ z. z ∷ []) (h k t (omega arith) l))
run_same (Slot s) c c' e e' X h g = table_same (length X) _ _ (λ t l. ap (λ z. z ∷ []) (g s t refl l))
run_same (Wave w) c c' e e' X h g = refl
run_same (Table T writes) c c' e e' X h g = refl
run_same (Bind s a) c c' e e' X h g =
    run_same a c c' (bound e s (column X 0)) (bound e' s (column X 0)) (map (drop 1) X)
    (λ k t r l. h k t r (omega (arith, length-map X (drop 1))))
    (bound_free a (length X) (length (map (drop 1) X)) e e' s (column X 0) (omega (arith, length-map X (drop 1))) g)
run_same (Par a b) c c' e e' X h g =
    ap₂ beside
    (run_same a c c' e e' (map (take (inputs a)) X) (λ k t r l. h k t (omega arith) (omega (arith, length-map X (take (inputs a)))))
    (λ k t f l. g k t (inl f) (omega (arith, length-map X (take (inputs a))))))
    (run_same b c c' e e' (map (drop (inputs a)) X) (λ k t r l. h k t (omega arith) (omega (arith, length-map X (drop (inputs a)))))
    (λ k t f l. g k t (inr f) (omega (arith, length-map X (drop (inputs a))))))
run_same (Seq a b) c c' e e' X h g =
    run_same b c c' e e' (run a c e X) (λ k t r l. h k t (omega arith) (omega (arith, length_run a c e X)))
    (λ k t f l. g k t (inr f) (omega (arith, length_run a c e X)))
    ∙ ap (run b c' e') (run_same a c c' e e' X (λ k t r l. h k t (omega arith) l) (λ k t f l. g k t (inl f) l))
run_same (Split a b) c c' e e' X h g =
    let f = dealt (pos 0) (inputs b) in
    run_same b c c' e e' (map f (run a c e X)) (λ k t r l. h k t (omega arith) (omega (arith, length-map (run a c e X) f, length_run a c e X)))
    (λ k t r l. g k t (inr r) (omega (arith, length-map (run a c e X) f, length_run a c e X)))
    ∙ ap (λ Y. run b c' e' (map f Y)) (run_same a c c' e e' X (λ k t r l. h k t (omega arith) l) (λ k t r l. g k t (inl r) l))
run_same (Merge a b) c c' e e' X h g =
    let f = merged (inputs b) in
    run_same b c c' e e' (map f (run a c e X)) (λ k t r l. h k t (omega arith) (omega (arith, length-map (run a c e X) f, length_run a c e X)))
    (λ k t r l. g k t (inr r) (omega (arith, length-map (run a c e X) f, length_run a c e X)))
    ∙ ap (λ Y. run b c' e' (map f Y)) (run_same a c c' e e' X (λ k t r l. h k t (omega arith) l) (λ k t r l. g k t (inl r) l))
run_same (Rec a b) c c' e e' X h g =
    feedback_same (run a c e) (run a c' e') (run b c e) (run b c' e') (inputs b) (reverse X)
    (λ Z l. run_same a c c' e e' Z (λ k t r m. h k t (omega arith) (omega (arith, length-reverse X)))
    (λ k t f m. g k t (inl f) (omega (arith, length-reverse X))))
    (λ Z l. run_same b c c' e e' Z (λ k t r m. h k t (omega arith) (omega (arith, length-reverse X)))
    (λ k t f m. g k t (inr f) (omega (arith, length-reverse X))))

-- where no slot is free, the streams of the slots do not count
pub run_closed : (d : Diagram) (c e e' : ℕ → Stream) (X : List Frame) → HasNoFreeSlot d → run d c e X ≡ run d c e' X
unfolding AgreeRead AgreeFree
run_closed d c e e' X h = run_same d c c e e' X (λ k t r l. refl) (λ k t f l. absurd (h k f))

-- ---- one frame more

-- the answer on one frame more is the answer, and one frame more
pub record Causal (f : List Frame → List Frame) : Type 0 where
  pub more : (X : List Frame) (x : Frame) → (y : Frame) × (f (X ++ x ∷ []) ≡ f X ++ y ∷ [])

frame_same : (X : List Frame) (x : Frame) (t : ℕ) → t < length X → frame_at (X ++ x ∷ []) t ≡ frame_at X t
frame_same X x t l = get_or_append_left X (x ∷ []) [] t l

pub column_same : (X : List Frame) (x : Frame) (i t : ℕ) → t < length X → column (X ++ x ∷ []) i t ≡ column X i t
column_same X x i t l = ap (λ y. get_or y i (pos 0)) (frame_same X x t l)

pub delayed_same : (x y : Stream) (t : ℕ) → ((u : ℕ) → u < t → x u ≡ y u) → delayed x t ≡ delayed y t
delayed_same x y zero h = refl
delayed_same x y (suc t) h = h t (omega arith)

prefixed_same : (x y u v : Stream) (t : ℕ) → ((i : ℕ) → i ≤ t → x i ≡ y i) → ((i : ℕ) → i ≤ t → u i ≡ v i) → prefixed x u t ≡ prefixed y v t
prefixed_same x y u v zero h g = h 0 (omega arith)
prefixed_same x y u v (suc t) h g = g t (omega arith)

pub back_same : (x y : Stream) (t : ℕ) (d : ℤ) → ((i : ℕ) → i ≤ t → x i ≡ y i) → back x t d ≡ back y t d
back_same x y t (pos d) h = elim (nat_le d t) as (λ b. (if b then x (t - d) else pos 0) ≡ (if b then y (t - d) else pos 0))
    [ true ↦ h (t - d) (omega arith) | false ↦ refl ]
back_same x y t (negsuc d) h = refl

primitive_same : (p : Prim) (X : List Frame) (x : Frame) (t : ℕ) → t < length X → primitive_at p (X ++ x ∷ []) t ≡ primitive_at p X t
primitive_same Wire X x t l = ap (λ z. z ∷ []) (column_same X x 0 t l)
primitive_same Int X x t l = ap (λ z. z ∷ []) (column_same X x 0 t l)
primitive_same Attach X x t l = ap (λ z. z ∷ []) (column_same X x 0 t l)
primitive_same Cut X x t l = refl
primitive_same Mem X x t l = ap (λ z. z ∷ []) (delayed_same (column (X ++ x ∷ []) 0) (column X 0) t (λ u m. column_same X x 0 u (omega arith)))
primitive_same Prefix X x t l = ap (λ z. z ∷ []) (prefixed_same (column (X ++ x ∷ []) 0) (column X 0) (column (X ++ x ∷ []) 1) (column X 1) t
    (λ u m. column_same X x 0 u (omega arith)) (λ u m. column_same X x 1 u (omega arith)))
primitive_same Delay X x t l =
    ap (λ z. z ∷ []) (back_same (column (X ++ x ∷ []) 0) (column X 0) t (column (X ++ x ∷ []) 1 t) (λ u m. column_same X x 0 u (omega arith))
    ∙ ap (back (column X 0) t) (column_same X x 1 t l))
primitive_same (Point op) X x t l = ap (λ y. apply_of op y ∷ []) (frame_same X x t l)
primitive_same ReadTable X x t l = refl
primitive_same WriteTable X x t l = refl

table_kept : (T : List ℤ) (writes : Bool) (X : List Frame) (x : Frame) (t : ℕ) → t < length X → table_at T writes (X ++ x ∷ []) t ≡ table_at T writes X t
table_kept T false X x t l = ap (λ r. read_at T r ∷ []) (column_same X x 0 t l)
table_kept T true X x t l =
    ap (λ r. written_at T (column (X ++ x ∷ []) 0) (column (X ++ x ∷ []) 1) t r ∷ []) (column_same X x 2 t l)
    ∙ ap (λ z. z ∷ []) (last_written_same T (column (X ++ x ∷ []) 0) (column X 0) (column (X ++ x ∷ []) 1) (column X 1) (place (length T) (column X 2 t)) t
    (λ u m. column_same X x 0 u (omega arith)) (λ u m. column_same X x 1 u (omega arith)))

table_more : (X : List Frame) (x : Frame) (f g : ℕ → Frame) → ((t : ℕ) → t < length X → f t ≡ g t) →
    table (length (X ++ x ∷ [])) f ≡ table (length X) g ++ f (length X) ∷ []
table_more X x f g h = ap (λ n. table n f) (length_snoc X x) ∙ ap (λ Y. Y ++ f (length X) ∷ []) (table_same (length X) f g h)

pub feedback_snoc : (A B : List Frame → List Frame) (n : ℕ) (X : List Frame) (x : Frame) →
    feedback A B n (reverse (X ++ x ∷ [])) ≡ feedback A B n (reverse X) ++ last (A (beside (B (fed_back n (feedback A B n (reverse X)))) (X ++ x ∷ []))) ∷ []
feedback_snoc A B n X x =
    let e : reverse (X ++ x ∷ []) ≡ x ∷ reverse X = reverse-append X (x ∷ []) in
    let r : reverse (x ∷ reverse X) ≡ X ++ x ∷ [] = ap reverse (sym e) ∙ reverse-reverse (X ++ x ∷ []) in
    ap (feedback A B n) e ∙ ap (λ R. feedback A B n (reverse X) ++ last (A (beside (B (fed_back n (feedback A B n (reverse X)))) R)) ∷ []) r

pub causal : (d : Diagram) (c e : ℕ → Stream) (X : List Frame) (x : Frame) → (y : Frame) × (run d c e (X ++ x ∷ []) ≡ run d c e X ++ y ∷ [])
unfolding AgreeBelow AgreeRead AgreeFree
causal (Primitive p) c e X x = (_, table_more X x (primitive_at p (X ++ x ∷ [])) (primitive_at p X) (primitive_same p X x))
causal (Constant n) c e X x = (_, table_more X x (λ t. n ∷ []) (λ t. n ∷ []) (λ t l. refl))
causal (Control k) c e X x = (_, table_more X x (λ t. c k t ∷ []) (λ t. c k t ∷ []) (λ t l. refl))
causal (Slot s) c e X x = (_, table_more X x (λ t. e s t ∷ []) (λ t. e s t ∷ []) (λ t l. refl))
causal (Wave w) c e X x = (_, table_more X x (wave_at w) (wave_at w) (λ t l. refl))
causal (Table T writes) c e X x = (_, table_more X x (table_at T writes (X ++ x ∷ [])) (table_at T writes X) (table_kept T writes X x))
causal (Bind s a) c e X x =
    let x' = column (X ++ x ∷ []) 0 in
    let i = causal a c (bound e s x') (map (drop 1) X) (drop 1 x) in (
      i.0,
      ap (run a c (bound e s x')) (map_push (drop 1) X x) ∙ i.1 ∙ ap (λ Y. Y ++ i.0 ∷ [])
          (run_same a c c (bound e s x') (bound e s (column X 0)) (map (drop 1) X) (λ k t r l. refl)
          (λ k t f l. bound_same (length X) e e s x' (column X 0) (λ k t l. refl) (λ t l. column_same X x 0 t l) k t (omega (arith, length-map X (drop 1))))),
    )
causal (Par a b) c e X x =
    let n = inputs a in
    let i = causal a c e (map (take n) X) (take n x) in
    let j = causal b c e (map (drop n) X) (drop n x) in
    let l : length (run a c e (map (take n) X)) ≡ length (run b c e (map (drop n) X)) =
    length_run a c e (map (take n) X) ∙ length-map X (take n) ∙ sym (length_run b c e (map (drop n) X) ∙ length-map X (drop n)) in (
      i.0 ++ j.0,
      ap₂ beside (ap (run a c e) (map_push (take n) X x) ∙ i.1) (ap (run b c e) (map_push (drop n) X x) ∙ j.1)
          ∙ beside_snoc (run a c e (map (take n) X)) (run b c e (map (drop n) X)) i.0 j.0 l,
    )
causal (Seq a b) c e X x =
    let i = causal a c e X x in
    let j = causal b c e (run a c e X) i.0 in
    (j.0, ap (run b c e) i.1 ∙ j.1)
causal (Split a b) c e X x =
    let f = dealt (pos 0) (inputs b) in
    let i = causal a c e X x in
    let j = causal b c e (map f (run a c e X)) (f i.0) in
    (j.0, ap (λ Y. run b c e (map f Y)) i.1 ∙ ap (run b c e) (map_push f (run a c e X) i.0) ∙ j.1)
causal (Merge a b) c e X x =
    let f = merged (inputs b) in
    let i = causal a c e X x in
    let j = causal b c e (map f (run a c e X)) (f i.0) in
    (j.0, ap (λ Y. run b c e (map f Y)) i.1 ∙ ap (run b c e) (map_push f (run a c e X) i.0) ∙ j.1)
causal (Rec a b) c e X x = (_, feedback_snoc (run a c e) (run b c e) (inputs b) X x)

-- ---- the two laws

pub answers_prefixes : (d : Diagram) → AnswersPrefixes d
answers_prefixes d c e X Z = snoc_induction (λ Z. take (length X) (run d c e (X ++ Z)) ≡ run d c e X)
    (ap (λ Y. take (length X) (run d c e Y)) (append-nil X) ∙ take_all (length X) (run d c e X) (omega (arith, length_run d c e X)))
    (λ Z z h.
    let i = causal d c e (X ++ Z) z in
    ap (λ Y. take (length X) (run d c e Y)) (sym (append_assoc X Z (z ∷ []))) ∙ ap (take (length X)) i.1
    ∙ take-append-le (length X) (run d c e (X ++ Z)) (i.0 ∷ []) (omega (arith, length_run d c e (X ++ Z), length-append X Z)) ∙ h)
    Z

fed_back_snoc : (n : ℕ) (Y : List Frame) (y : Frame) → fed_back n (Y ++ y ∷ []) ≡ fed_back n Y ++ take n y ∷ []
fed_back_snoc n Y y = ap (λ Z. replicate n (pos 0) ∷ Z) (map_push (take n) Y y)

length_fed_back : (n : ℕ) (Y : List Frame) → length (fed_back n Y) ≡ suc (length Y)
length_fed_back n Y = ap suc (length-map Y (take n))

fed_back_over_snoc : (b : Diagram) (Y : List Frame) (y : Frame) → fed_back_over b (Y ++ y ∷ []) ≡ fed_back (inputs b) Y
fed_back_over_snoc b Y y =
    ap (take (length (Y ++ y ∷ []))) (fed_back_snoc (inputs b) Y y)
    ∙ take_at (fed_back (inputs b) Y) (take (inputs b) y ∷ []) (length (Y ++ y ∷ [])) (length_fed_back (inputs b) Y ∙ sym (length_snoc Y y))

-- what is fed back is what is fed back over the answer, and one frame more
fed_back_more : (b : Diagram) (Y : List Frame) → (z : Frame) × (fed_back (inputs b) Y ≡ fed_back_over b Y ++ z ∷ [])
fed_back_more b Y = snoc_induction (λ Y. (z : Frame) × (fed_back (inputs b) Y ≡ fed_back_over b Y ++ z ∷ []))
    (replicate (inputs b) (pos 0), refl)
    (λ Y y h. (take (inputs b) y, fed_back_snoc (inputs b) Y y ∙ ap (λ Z. Z ++ take (inputs b) y ∷ []) (sym (fed_back_over_snoc b Y y))))
    Y

length_fed_back_over : (b : Diagram) (Y : List Frame) → length (fed_back_over b Y) ≡ length Y
length_fed_back_over b Y = length-take-le (length Y) (fed_back (inputs b) Y) (omega (arith, length_fed_back (inputs b) Y))

nothing : (Z : List Frame) → length Z ≤ 0 → length Z ≡ 0
nothing Z h = omega arith

-- the second law at the frames X
abbrev Whole : Diagram → Diagram → (c e : ℕ → Stream) → List Frame → Type 0
Whole a b c e X = run (Rec a b) c e X ≡ run a c e (beside (run b c e (fed_back_over b (run (Rec a b) c e X))) X)

whole_none : (a b : Diagram) (c e : ℕ → Stream) → Whole a b c e []
whole_none a b c e = sym (nil_from_length _ (length_run a c e _ ∙ nothing (beside (run b c e []) []) (beside_short (run b c e []) [])))

whole_more : (a b : Diagram) (c e : ℕ → Stream) (X : List Frame) (x : Frame) → Whole a b c e X → Whole a b c e (X ++ x ∷ [])
whole_more a b c e X x h =
    let Y = run (Rec a b) c e X in
    let F = run b c e (fed_back (inputs b) Y) in
    let G = run b c e (fed_back_over b Y) in
    let V = run a c e (beside F (X ++ x ∷ [])) in
    let step : run (Rec a b) c e (X ++ x ∷ []) ≡ Y ++ last V ∷ [] = feedback_snoc (run a c e) (run b c e) (inputs b) X x in
    let z = fed_back_more b Y in
    let f = causal b c e (fed_back_over b Y) z.0 in
    let fg : F ≡ G ++ f.0 ∷ [] = ap (run b c e) z.1 ∙ f.1 in
    let l : length G ≡ length X = length_run b c e (fed_back_over b Y) ∙ length_fed_back_over b Y ∙ length_run (Rec a b) c e X in
    let s : beside F (X ++ x ∷ []) ≡ beside G X ++ (f.0 ++ x) ∷ [] = ap (λ Z. beside Z (X ++ x ∷ [])) fg ∙ beside_snoc G X f.0 x l in
    let w = causal a c e (beside G X) (f.0 ++ x) in
    let v : V ≡ Y ++ w.0 ∷ [] = ap (run a c e) s ∙ w.1 ∙ ap (λ Z. Z ++ w.0 ∷ []) (sym h) in
    let whole : run (Rec a b) c e (X ++ x ∷ []) ≡ V = step ∙ ap (λ Z. Y ++ last Z ∷ []) v ∙ ap (λ z. Y ++ z ∷ []) (last_snoc Y w.0) ∙ sym v in
    whole ∙ ap (λ Z. run a c e (beside (run b c e Z) (X ++ x ∷ []))) (sym (fed_back_over_snoc b Y (last V)) ∙ ap (fed_back_over b) (sym step))

pub answers_itself : (a b : Diagram) → AnswersItself a b
answers_itself a b c e X = snoc_induction (Whole a b c e) (whole_none a b c e) (whole_more a b c e) X
