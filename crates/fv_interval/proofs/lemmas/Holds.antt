-- The answers of a diagram lie in the spans of its outputs.
use Rattle.std.proofs.Common.{◌≡◌, ℕ, zero, suc, ◌+◌, ◌-◌, ◌%◌, ◌<◌, ◌≤◌, List, [], ◌∷◌, ◌++◌, length, map, reverse, take, drop, get_or, replicate}
use Rattle.std.proofs.Common.{refl, sym, ap, ap₂, ◌∙◌, subst, arith, All, ℤ, pos, negsuc, Bool, true, false, if◌then◌else◌, nat_eq, nat_le, w32, FitsSigned}
use Rattle.std.proofs.lemmas.List.{length-append, length-take-le, length-drop, length-replicate, length-map, length-reverse, get_or-replicate, get_or-take}
use Rattle.std.proofs.lemmas.List.Elements.{All-get_or, All-cons, All-take, All-head, All-tail}
use Rattle.std.proofs.lemmas.Bool.{true≢false}
use Rattle.fv_num.specs.headline.Tables.{place, read_at, last_written, written_at}
use Rattle.std.proofs.lemmas.Int.{ints, clamps}
use Rattle.std.proofs.Math.Nat.{mod-lt}
use Rattle.fv_num.specs.declared.op.Op.TheVariants.{Add}
use Rattle.fv_num.specs.headline.Words.{argument, apply_of}
use Rattle.fv_num.specs.headline.Frames.{Frame, Stream, frame_at, column, table, delayed, prefixed, back}
use Rattle.fv_num.specs.headline.Interval.{Interval, IsWithin, IsSpan, full, point, hull, span_at}
use Rattle.fv_num.specs.headline.Spans.{span_of}
use Rattle.fv_base.proofs.lemmas.Lists.{length_table, table_items}
use Rattle.fv_num.proofs.lemmas.Closed.{holds, closed}
use Rattle.fv_diagram.specs.Primitive.{Primitive as Prim}
use Rattle.fv_diagram.specs.Primitive.TheVariants as prim
use Rattle.fv_diagram.specs.headline.Diagram.{Diagram, Primitive, Constant, Control, Slot, Wave, Table, Bind, Par, Seq, Split, Merge, Rec, inputs, outputs}
use Rattle.fv_diagram.specs.headline.Diagram.{primitive_inputs, table_inputs, is_table_primitive}
use Rattle.fv_diagram.specs.Diagram.{IsWellFormed, AreNumbers}
use Rattle.fv_diagram.specs.Laws.{fed_back_over}
use Rattle.fv_diagram.specs.headline.Streams.{primitive_at, wave_at, table_at, beside, dealt, every, added, wrapped_sum, merged, bound, fed_back, run}
use Rattle.fv_diagram.proofs.lemmas.Lists.{length_beside}
use Rattle.fv_diagram.proofs.lemmas.Causality.{length_run}
use Rattle.fv_diagram.proofs.lemmas.Each.{each_table, each_map, each_beside, each_reverse, each_feedback}
use Rattle.fv_interval.specs.headline.WireSpans.{primitive_spans, hull_with, hull_of, table_span, added_span, summed_span, merged_spans, bound_span, spans}
use Rattle.fv_interval.specs.headline.Laws.{IsOf}
use Rattle.fv_interval.specs.Laws.{AreOf, AnswersHold, AllDelaysHold}

-- ---- lists of numbers and of spans

of_length : (I : List Interval) (x : Frame) → AreOf I x → length x ≡ length I
of_length [] [] h = refl
of_length [] (z ∷ x) h = absurd h
of_length (s ∷ I) [] h = absurd h
of_length (s ∷ I) (z ∷ x) h = ap suc (of_length I x h.1)

of_take : (n : ℕ) (I : List Interval) (x : Frame) → AreOf I x → AreOf (take n I) (take n x)
of_take zero I x h = tt
of_take (suc n) [] [] h = tt
of_take (suc n) [] (z ∷ x) h = absurd h
of_take (suc n) (s ∷ I) [] h = absurd h
of_take (suc n) (s ∷ I) (z ∷ x) h = (h.0, of_take n I x h.1)

of_drop : (n : ℕ) (I : List Interval) (x : Frame) → AreOf I x → AreOf (drop n I) (drop n x)
of_drop zero I x h = h
of_drop (suc n) [] [] h = tt
of_drop (suc n) [] (z ∷ x) h = absurd h
of_drop (suc n) (s ∷ I) [] h = absurd h
of_drop (suc n) (s ∷ I) (z ∷ x) h = of_drop n I x h.1

of_append : (I K : List Interval) (x y : Frame) → AreOf I x → AreOf K y → AreOf (I ++ K) (x ++ y)
of_append [] K [] y h g = g
of_append [] K (z ∷ x) y h g = absurd h
of_append (s ∷ I) K [] y h g = absurd h
of_append (s ∷ I) K (z ∷ x) y h g = (h.0, of_append I K x y h.1 g)

of_get : (I : List Interval) (x : Frame) (i : ℕ) (d : Interval) → AreOf I x → i < length I → IsOf (get_or I i d) (get_or x i (pos 0))
of_get [] x i d h l = absurd (omega arith)
of_get (s ∷ I) [] i d h l = absurd h
of_get (s ∷ I) (z ∷ x) zero d h l = h.0
of_get (s ∷ I) (z ∷ x) (suc i) d h l = of_get I x i d h.1 (omega arith)

of_table : (n : ℕ) (f : ℕ → Interval) (g : ℕ → ℤ) → ((i : ℕ) → i < n → IsOf (f i) (g i)) → AreOf (table n f) (table n g)
of_table zero f g h = tt
of_table (suc n) f g h = of_append (table n f) (f n ∷ []) (table n g) (g n ∷ []) (of_table n f g (λ i l. h i (omega arith))) (h n (omega arith), tt)

full_of : (z : ℤ) → FitsSigned w32 z → IsOf full z
full_of z f = (
  record { ordered = omega (arith, ints); lo_fits = omega (arith, ints); hi_fits = omega (arith, ints) },
  record {
    above = omega
        (arith, ints);
    below = omega (arith, ints);
  },
)

of_fits : (s : Interval) (z : ℤ) → IsOf s z → FitsSigned w32 z
of_fits s z h = omega (arith, ints, h.0.lo_fits, h.0.hi_fits, h.1.above, h.1.below)

-- numbers of 32 bits are of the full span
of_full : (n : ℕ) (y : Frame) → length y ≡ n → ((i : ℕ) → i < n → FitsSigned w32 (get_or y i (pos 0))) → AreOf (table n (λ i. full)) y
of_full n y e h =
    subst (AreOf (table n (λ i. full))) (ap (λ k. table k (λ i. get_or y i (pos 0))) (sym e) ∙ table_items y (pos 0))
    (of_table n (λ i. full) (λ i. get_or y i (pos 0)) (λ i l. full_of (get_or y i (pos 0)) (h i l)))

point_of : (n : ℤ) → FitsSigned w32 n → IsOf (point n) n
point_of n f = (record { ordered = omega (arith, ints); lo_fits = f; hi_fits = f }, record { above = omega (arith, ints); below = omega (arith, ints) })

left_of : (s t : Interval) (z : ℤ) → IsSpan t → IsOf s z → IsOf (hull s t) z
left_of s t z p h = (
  record {
    ordered = omega (arith, ints, clamps, h.0.ordered);
    lo_fits = omega (arith, ints, clamps, h.0.lo_fits, p.lo_fits);
    hi_fits = omega
        (arith, ints, clamps, h.0.hi_fits, p.hi_fits);
  },
  record { above = omega (arith, ints, clamps, h.1.above); below = omega (arith, ints, clamps, h.1.below) },
)

right_of : (s t : Interval) (z : ℤ) → IsSpan s → IsOf t z → IsOf (hull s t) z
right_of s t z p h = (
  record {
    ordered = omega (arith, ints, clamps, h.0.ordered);
    lo_fits = omega (arith, ints, clamps, h.0.lo_fits, p.lo_fits);
    hi_fits = omega
        (arith, ints, clamps, h.0.hi_fits, p.hi_fits);
  },
  record { above = omega (arith, ints, clamps, h.1.above); below = omega (arith, ints, clamps, h.1.below) },
)

-- ---- tables

abbrev Fit : ℤ → Type 0
Fit n = FitsSigned w32 n

-- what lies in a span lies in its hull with numbers
in_with : (s : Interval) (ns : List ℤ) (z : ℤ) → IsOf s z → All Fit ns → IsOf (hull_with s ns) z
in_with s [] z h a = h
in_with s (n ∷ ns) z h a =
    in_with (hull s (point n)) ns z (left_of s (point n) z (point_of n (All-head Fit n ns a)).0 h) (All-tail Fit n ns a)

-- and so does each of the numbers
in_rest : (s : Interval) (ns : List ℤ) → IsSpan s → All Fit ns → (i : ℕ) → i < length ns → IsOf (hull_with s ns) (argument ns i)
in_rest s [] p a i l = absurd (omega arith)
in_rest s (n ∷ ns) p a zero l =
    in_with (hull s (point n)) ns n (right_of s (point n) n p (point_of n (All-head Fit n ns a))) (All-tail Fit n ns a)
in_rest s (n ∷ ns) p a (suc i) l =
    in_rest (hull s (point n)) ns (right_of s (point n) n p (point_of n (All-head Fit n ns a))).0 (All-tail Fit n ns a) i (omega arith)

listed_in : (T : List ℤ) (i : ℕ) → AreNumbers T → i < length T → IsOf (hull_of T) (argument T i)
listed_in [] i a l = absurd (omega arith)
listed_in (n ∷ ns) zero a l = in_with (point n) ns n (point_of n (All-head Fit n ns a.each)) (All-tail Fit n ns a.each)
listed_in (n ∷ ns) (suc i) a l = in_rest (point n) ns (point_of n (All-head Fit n ns a.each)).0 (All-tail Fit n ns a.each) i (omega arith)

place_below : (n : ℕ) (z : ℤ) → 1 ≤ n → place n z < n
place_below n (pos i) h = omega arith
place_below n (negsuc i) h = omega arith

reads_hold : (T : List ℤ) (r : ℤ) → AreNumbers T → IsOf (hull_of T) (read_at T r)
reads_hold T r a = listed_in T (place (length T) r) a (place_below (length T) r a.some)

-- what a test picks lies where both lie
one_of : (s : Interval) (b : Bool) (x y : ℤ) → IsOf s x → IsOf s y → IsOf s (if b then x else y)
one_of s true x y h g = h
one_of s false x y h g = g

last_holds : (T : List ℤ) (w x : Stream) (s : Interval) (i t : ℕ) → AreNumbers T → i < length T → ((u : ℕ) → u ≤ t → IsOf s (x u))
    → IsOf (hull (hull_of T) s) (last_written T w x i t)
last_holds T w x s i zero a l h =
    one_of (hull (hull_of T) s) (nat_eq (place (length T) (w 0)) i) (x 0) (argument T i)
    (right_of (hull_of T) s (x 0) (listed_in T i a l).0 (h 0 (omega arith)))
    (left_of (hull_of T) s (argument T i) (h 0 (omega arith)).0 (listed_in T i a l))
last_holds T w x s i (suc t) a l h =
    one_of (hull (hull_of T) s) (nat_eq (place (length T) (w (suc t))) i) (x (suc t)) (last_written T w x i t)
    (right_of (hull_of T) s (x (suc t)) (listed_in T i a l).0 (h (suc t) (omega arith)))
    (last_holds T w x s i t a l (λ u m. h u (omega arith)))

writes_hold : (T : List ℤ) (w x : Stream) (s : Interval) (t : ℕ) (r : ℤ) → AreNumbers T → ((u : ℕ) → u ≤ t → IsOf s (x u))
    → IsOf (hull (hull_of T) s) (written_at T w x t r)
writes_hold T w x s t r a h = last_holds T w x s (place (length T) r) t a (place_below (length T) r a.some) h

zero_span : IsSpan (point (pos 0))
zero_span = (point_of (pos 0) (omega (arith, ints))).0

zero_of : IsOf (point (pos 0)) (pos 0)
zero_of = point_of (pos 0) (omega (arith, ints))

-- ---- sums

sum_of : (s x : Interval) (a b : ℤ) → IsOf s a → IsOf x b → IsOf (span_of Add (s ∷ x ∷ [])) (apply_of Add (a ∷ b ∷ []))
sum_of s x a b h g =
    let is : (i : ℕ) → i < 2 → IsSpan (span_at (s ∷ x ∷ []) i) = two_spans in
    (closed Add (s ∷ x ∷ []) refl is, holds Add (s ∷ x ∷ []) refl is (a ∷ b ∷ []) two_within)
  where
    two_spans : (i : ℕ) → i < 2 → IsSpan (span_at (s ∷ x ∷ []) i)
    two_spans zero l = h.0
    two_spans (suc zero) l = g.0
    two_spans (suc (suc i)) l = absurd (omega arith)

    two_within : (i : ℕ) → i < 2 → IsWithin (span_at (s ∷ x ∷ []) i) (argument (a ∷ b ∷ []) i)
    two_within zero l = h.1
    two_within (suc zero) l = g.1
    two_within (suc (suc i)) l = absurd (omega arith)

added_of : (s : Interval) (a : ℤ) (I : List Interval) (x : Frame) → IsOf s a → AreOf I x → IsOf (added_span s I) (added a x)
added_of s a [] [] h g = h
added_of s a [] (z ∷ x) h g = absurd g
added_of s a (t ∷ I) [] h g = absurd g
added_of s a (t ∷ I) (z ∷ x) h g = added_of (span_of Add (s ∷ t ∷ [])) (apply_of Add (a ∷ z ∷ [])) I x (sum_of s t a z h g.0) g.1

summed_of : (I : List Interval) (x : Frame) → AreOf I x → IsOf (summed_span I) (wrapped_sum x)
summed_of [] [] h = zero_of
summed_of [] (z ∷ x) h = absurd h
summed_of (s ∷ I) [] h = absurd h
summed_of (s ∷ I) (z ∷ x) h = added_of s z I x h.0 h.1

every_of : (n j i : ℕ) (I : List Interval) (x : Frame) → AreOf I x → AreOf (every n j i I) (every n j i x)
every_of n j i [] [] h = tt
every_of n j i [] (z ∷ x) h = absurd h
every_of n j i (s ∷ I) [] h = absurd h
every_of n j i (s ∷ I) (z ∷ x) h =
    let g = every_of n j (suc i) I x h.1 in
    elim (nat_eq (i % n) j) as (λ b. AreOf (if b then s ∷ every n j (suc i) I else every n j (suc i) I)
    (if b then z ∷ every n j (suc i) x else every n j (suc i) x)) [
      | true ↦ (h.0, g)
      | false ↦ g
    ]

merged_of : (n : ℕ) (I : List Interval) (x : Frame) → AreOf I x → AreOf (merged_spans n I) (merged n x)
merged_of n I x h = of_table n _ _ (λ j l. summed_of (every n j 0 I) (every n j 0 x) (every_of n j 0 I x h))

dealt_of : (n : ℕ) (I : List Interval) (x : Frame) → 1 ≤ length I → AreOf I x → AreOf (dealt (point (pos 0)) n I) (dealt (pos 0) n x)
dealt_of n I x l h = of_table n _ _ (λ i k.
    subst (λ m. IsOf (get_or I (i % length I) (point (pos 0))) (get_or x (i % m) (pos 0))) (sym (of_length I x h))
    (of_get I x (i % length I) (point (pos 0)) h (mod-lt i l)))

-- ---- primitives

module _ (I : List Interval) (X : List Frame) (w : All (AreOf I) X) where
  at : (i t : ℕ) → i < length I → t < length X → IsOf (span_at I i) (column X i t)
  at i t l m = of_get I (frame_at X t) i (point (pos 0)) (All-get_or (AreOf I) X t [] m w) l

  late : (t : ℕ) → 0 < length I → t < length X → IsOf (hull (span_at I 0) (point (pos 0))) (delayed (column X 0) t)
  late zero l m = right_of (span_at I 0) (point (pos 0)) (pos 0) (at 0 0 l m).0 zero_of
  late (suc t) l m = left_of (span_at I 0) (point (pos 0)) (column X 0 t) zero_span (at 0 t l (omega arith))

  first : (t : ℕ) → 1 < length I → t < length X → IsOf (hull (span_at I 0) (span_at I 1)) (prefixed (column X 0) (column X 1) t)
  first zero l m = left_of (span_at I 0) (span_at I 1) (column X 0 0) (at 1 0 l m).0 (at 0 0 (omega arith) m)
  first (suc t) l m = right_of (span_at I 0) (span_at I 1) (column X 1 t) (at 0 (suc t) (omega arith) m).0 (at 1 t l (omega arith))

  ago : (t : ℕ) (d : ℤ) → 0 < length I → t < length X → IsOf (hull (span_at I 0) (point (pos 0))) (back (column X 0) t d)
  ago t (negsuc d) l m = right_of (span_at I 0) (point (pos 0)) (pos 0) (at 0 t l m).0 zero_of
  ago t (pos d) l m = elim (nat_le d t) as (λ b. IsOf (hull (span_at I 0) (point (pos 0))) (if b then column X 0 (t - d) else pos 0)) [
    | true ↦ left_of (span_at I 0) (point (pos 0)) (column X 0 (t - d)) zero_span (at 0 (t - d) l (omega arith))
    | false ↦ right_of (span_at I 0) (point (pos 0)) (pos 0) (at 0 t l m).0 zero_of
  ]

  primitive_of : (p : Prim) → is_table_primitive p ≡ false → length I ≡ primitive_inputs p → (t : ℕ) → t < length X →
      AreOf (primitive_spans p I) (primitive_at p X t)
  primitive_of prim.Wire q e t m = (at 0 t (omega arith) m, tt)
  primitive_of prim.Int q e t m = (at 0 t (omega arith) m, tt)
  primitive_of prim.Attach q e t m = (at 0 t (omega arith) m, tt)
  primitive_of prim.Cut q e t m = tt
  primitive_of prim.Mem q e t m = (late t (omega arith) m, tt)
  primitive_of prim.Prefix q e t m = (first t (omega arith) m, tt)
  primitive_of prim.Delay q e t m = (ago t (column X 1 t) (omega arith) m, tt)
  primitive_of (prim.Point op) q e t m =
      ((closed op I e (λ i l. (at i t l m).0), holds op I e (λ i l. (at i t l m).0) (frame_at X t) (λ i l. (at i t l m).1)), tt)
  primitive_of prim.ReadTable q e t m = absurd (true≢false q)
  primitive_of prim.WriteTable q e t m = absurd (true≢false q)

  table_of : (T : List ℤ) (writes : Bool) → AreNumbers T → length I ≡ table_inputs writes → (t : ℕ) → t < length X
      → AreOf (table_span T writes I ∷ []) (table_at T writes X t)
  table_of T false k e t m = (reads_hold T (column X 0 t) k, tt)
  table_of T true k e t m =
      (writes_hold T (column X 0) (column X 1) (span_at I 1) t (column X 2 t) k (λ u b. at 1 u (omega arith) (omega arith)), tt)

-- ---- diagrams

pub answers_length : (d : Diagram) (c e : ℕ → Interval) (I : List Interval) → IsWellFormed d → length I ≡ inputs d → length (spans d c e I) ≡ outputs d
answers_length (Primitive prim.Wire) c e I h l = refl
answers_length (Primitive prim.Int) c e I h l = refl
answers_length (Primitive prim.Attach) c e I h l = refl
answers_length (Primitive prim.Cut) c e I h l = refl
answers_length (Primitive prim.Mem) c e I h l = refl
answers_length (Primitive prim.Prefix) c e I h l = refl
answers_length (Primitive prim.Delay) c e I h l = refl
answers_length (Primitive (prim.Point op)) c e I h l = refl
answers_length (Primitive prim.ReadTable) c e I h l = refl
answers_length (Primitive prim.WriteTable) c e I h l = refl
answers_length (Constant n) c e I h l = refl
answers_length (Control k) c e I h l = refl
answers_length (Slot s) c e I h l = refl
answers_length (Wave w) c e I h l = refl
answers_length (Table T writes) c e I h l = refl
answers_length (Bind s a) c e I h l = answers_length a c (bound_span e s (span_at I 0)) (drop 1 I) h (omega (arith, l, length-drop 1 I))
answers_length (Par a b) c e I h l =
    length-append (spans a c e (take (inputs a) I)) (spans b c e (drop (inputs a) I))
    ∙ ap₂ (λ m n. m + n) (answers_length a c e (take (inputs a) I) h.0 (length-take-le (inputs a) I (omega arith)))
    (answers_length b c e (drop (inputs a) I) h.1 (omega (arith, l, length-drop (inputs a) I)))
answers_length (Seq a b) c e I h l = answers_length b c e (spans a c e I) h.1 (answers_length a c e I h.0 l ∙ h.2)
answers_length (Split a b) c e I h l = answers_length b c e (dealt (point (pos 0)) (inputs b) (spans a c e I)) h.1 (length_table (inputs b) _)
answers_length (Merge a b) c e I h l = answers_length b c e (merged_spans (inputs b) (spans a c e I)) h.1 (length_table (inputs b) _)
answers_length (Rec a b) c e I h l =
    let K = spans b c e (table (inputs b) (λ i. full)) in
    let k : length K ≡ outputs b = answers_length b c e (table (inputs b) (λ i. full)) h.1 (length_table (inputs b) _) in
    answers_length a c e (K ++ I) h.0 (omega (arith, length-append K I, k, l, h.3))

zeros_of : (n : ℕ) → AreOf (table n (λ i. full)) (replicate n (pos 0))
zeros_of n = of_full n (replicate n (pos 0)) (length-replicate n (pos 0))
    (λ i m. subst (FitsSigned w32) (sym (get_or-replicate n i (pos 0) (pos 0) m)) (omega (arith, ints)))

cut_of : (n : ℕ) (O : List Interval) (y : Frame) → n ≤ length O → AreOf O y → AreOf (table n (λ i. full)) (take n y)
cut_of n O y l h =
    of_full n (take n y) (length-take-le n y (omega (arith, of_length O y h)))
    (λ i m. subst (FitsSigned w32) (sym (get_or-take n y i (pos 0) m)) (of_fits (get_or O i full) (get_or y i (pos 0)) (of_get O y i full h (omega arith))))

bound_of : (n : ℕ) (e : ℕ → Interval) (es : ℕ → Stream) (s : ℕ) (u : Interval) (x : Stream) → ((k t : ℕ) → t < n → IsOf (e k) (es k t)) →
    ((t : ℕ) → t < n → IsOf u (x t)) → (k t : ℕ) → t < n → IsOf (bound_span e s u k) (bound es s x k t)
bound_of n e es s u x h g k t l = elim (nat_eq k s) as (λ b. IsOf (if b then u else e k) ((if b then x else es k) t)) [ true ↦ g t l | false ↦ h k t l ]

pub answers_hold : (d : Diagram) → AnswersHold d
answers_hold (Primitive p) wf fit c e I cs es X l hc he w = each_table (AreOf (primitive_spans p I)) (length X) (primitive_at p X)
    (λ t m. primitive_of I X w p wf l t m)
answers_hold (Constant n) wf fit c e I cs es X l hc he w = each_table (AreOf (point n ∷ [])) (length X) _ (λ t m. (point_of n fit, tt))
answers_hold (Control k) wf fit c e I cs es X l hc he w = each_table (AreOf (c k ∷ [])) (length X) _ (λ t m. (hc k t, tt))
answers_hold (Slot s) wf fit c e I cs es X l hc he w = each_table (AreOf (e s ∷ [])) (length X) _ (λ t m. (he s t m, tt))
answers_hold (Wave v) wf fit c e I cs es X l hc he w = each_table (AreOf (point (pos (length v)) ∷ hull_of v ∷ [])) (length X) (wave_at v)
    (λ t m. (point_of (pos (length v)) fit.counted, (let below : t % length v < length v = mod-lt t fit.some in listed_in v (t % length v) fit below, tt)))
answers_hold (Table T writes) wf fit c e I cs es X l hc he w = each_table (AreOf (table_span T writes I ∷ [])) (length X) (table_at T writes X)
    (λ t m. table_of I X w T writes fit l t m)
answers_hold (Bind s a) wf fit c e I cs es X l hc he w =
    answers_hold a wf fit c (bound_span e s (span_at I 0)) (drop 1 I) cs (bound es s (column X 0)) (map (drop 1) X) (omega (arith, l, length-drop 1 I)) hc
    (λ k t m. bound_of (length X) e es s (span_at I 0) (column X 0) he (λ t m. at I X w 0 t (omega arith) m) k t (omega (arith, length-map X (drop 1))))
    (each_map (AreOf I) (AreOf (drop 1 I)) (drop 1) X (λ x h. of_drop 1 I x h) w)
answers_hold (Par a b) wf fit c e I cs es X l hc he w =
    let n = inputs a in
    each_beside (AreOf (spans a c e (take n I))) (AreOf (spans b c e (drop n I))) (AreOf (spans a c e (take n I) ++ spans b c e (drop n I)))
    (run a cs es (map (take n) X)) (run b cs es (map (drop n) X))
    (λ x y h g. of_append (spans a c e (take n I)) (spans b c e (drop n I)) x y h g)
    (answers_hold a wf.0 fit.0 c e (take n I) cs es (map (take n) X) (length-take-le n I (omega arith)) hc
    (λ s t m. he s t (omega (arith, length-map X (take n)))) (each_map (AreOf I) (AreOf (take n I)) (take n) X (λ x h. of_take n I x h) w))
    (answers_hold b wf.1 fit.1 c e (drop n I) cs es (map (drop n) X) (omega (arith, l, length-drop n I)) hc
    (λ s t m. he s t (omega (arith, length-map X (drop n)))) (each_map (AreOf I) (AreOf (drop n I)) (drop n) X (λ x h. of_drop n I x h) w))
answers_hold (Seq a b) wf fit c e I cs es X l hc he w =
    answers_hold b wf.1 fit.1 c e (spans a c e I) cs es (run a cs es X) (answers_length a c e I wf.0 l ∙ wf.2) hc
    (λ s t m. he s t (omega (arith, length_run a cs es X)))
    (answers_hold a wf.0 fit.0 c e I cs es X l hc he w)
answers_hold (Split a b) wf fit c e I cs es X l hc he w =
    let K = spans a c e I in
    let f = dealt (pos 0) (inputs b) in
    let some : 1 ≤ outputs a = wf.2 in
    answers_hold b wf.1 fit.1 c e (dealt (point (pos 0)) (inputs b) K) cs es (map f (run a cs es X)) (length_table (inputs b) _) hc
    (λ s t m. he s t (omega (arith, length-map (run a cs es X) f, length_run a cs es X)))
    (each_map (AreOf K) (AreOf (dealt (point (pos 0)) (inputs b) K)) f (run a cs es X)
    (λ x h. dealt_of (inputs b) K x (omega (arith, some, answers_length a c e I wf.0 l)) h) (answers_hold a wf.0 fit.0 c e I cs es X l hc he w))
answers_hold (Merge a b) wf fit c e I cs es X l hc he w =
    let K = spans a c e I in
    let f = merged (inputs b) in
    answers_hold b wf.1 fit.1 c e (merged_spans (inputs b) K) cs es (map f (run a cs es X)) (length_table (inputs b) _) hc
    (λ s t m. he s t (omega (arith, length-map (run a cs es X) f, length_run a cs es X)))
    (each_map (AreOf K) (AreOf (merged_spans (inputs b) K)) f (run a cs es X) (λ x h. merged_of (inputs b) K x h)
    (answers_hold a wf.0 fit.0 c e I cs es X l hc he w))
answers_hold (Rec a b) wf fit c e I cs es X l hc he w =
    let n = inputs b in
    let F = table n (λ i. full) in
    let K = spans b c e F in
    let O = spans a c e (K ++ I) in
    let k : length K ≡ outputs b = answers_length b c e F wf.1 (length_table n _) in
    let wide : length (K ++ I) ≡ inputs a = omega (arith, length-append K I, k, l, wf.3) in
    let o : length O ≡ outputs a = answers_length a c e (K ++ I) wf.0 wide in
    each_feedback (run a cs es) (run b cs es) n (length X) (AreOf I) (AreOf O) (AreOf F) (AreOf K) (AreOf (K ++ I)) (zeros_of n)
    (λ y h. cut_of n O y (omega (arith, o, wf.2)) h)
    (λ x y h g. of_append K I x y h g) (length_run a cs es) (length_run b cs es)
    (λ Z m. answers_hold a wf.0 fit.0 c e (K ++ I) cs es Z wide hc (λ s t r. he s t (omega arith)))
    (λ Z m. answers_hold b wf.1 fit.1 c e F cs es Z (length_table n _) hc (λ s t r. he s t (omega arith)))
    (reverse X) (omega (arith, length-reverse X)) (each_reverse (AreOf I) X w)

pub delays_hold : (d : Diagram) → AllDelaysHold d
delays_hold (Primitive prim.Delay) wf fit c e I cs es X l hc he w = λ t m. (at I X w 1 t (omega arith) m).1
delays_hold (Primitive prim.Wire) wf fit c e I cs es X l hc he w = tt
delays_hold (Primitive prim.Int) wf fit c e I cs es X l hc he w = tt
delays_hold (Primitive prim.Attach) wf fit c e I cs es X l hc he w = tt
delays_hold (Primitive prim.Cut) wf fit c e I cs es X l hc he w = tt
delays_hold (Primitive prim.Mem) wf fit c e I cs es X l hc he w = tt
delays_hold (Primitive prim.Prefix) wf fit c e I cs es X l hc he w = tt
delays_hold (Primitive (prim.Point op)) wf fit c e I cs es X l hc he w = tt
delays_hold (Primitive prim.ReadTable) wf fit c e I cs es X l hc he w = tt
delays_hold (Primitive prim.WriteTable) wf fit c e I cs es X l hc he w = tt
delays_hold (Constant n) wf fit c e I cs es X l hc he w = tt
delays_hold (Control k) wf fit c e I cs es X l hc he w = tt
delays_hold (Slot s) wf fit c e I cs es X l hc he w = tt
delays_hold (Wave v) wf fit c e I cs es X l hc he w = tt
delays_hold (Table T writes) wf fit c e I cs es X l hc he w = tt
delays_hold (Bind s a) wf fit c e I cs es X l hc he w =
    delays_hold a wf fit c (bound_span e s (span_at I 0)) (drop 1 I) cs (bound es s (column X 0)) (map (drop 1) X) (omega (arith, l, length-drop 1 I)) hc
    (λ k t m. bound_of (length X) e es s (span_at I 0) (column X 0) he (λ t m. at I X w 0 t (omega arith) m) k t (omega (arith, length-map X (drop 1))))
    (each_map (AreOf I) (AreOf (drop 1 I)) (drop 1) X (λ x h. of_drop 1 I x h) w)
delays_hold (Par a b) wf fit c e I cs es X l hc he w =
    let n = inputs a in (
      delays_hold a wf.0 fit.0 c e (take n I) cs es (map (take n) X) (length-take-le n I (omega arith)) hc
          (λ s t m. he s t (omega (arith, length-map X (take n)))) (each_map (AreOf I) (AreOf (take n I)) (take n) X (λ x h. of_take n I x h) w),
      delays_hold b wf.1 fit.1 c e (drop n I) cs es (map (drop n) X) (omega (arith, l, length-drop n I)) hc
          (λ s t m. he s t (omega (arith, length-map X (drop n)))) (each_map (AreOf I) (AreOf (drop n I)) (drop n) X (λ x h. of_drop n I x h) w),
    )
delays_hold (Seq a b) wf fit c e I cs es X l hc he w = (
  delays_hold a wf.0 fit.0 c e I cs es X l hc he w,
  delays_hold b wf.1 fit.1 c e (spans a c e I) cs es (run a cs es X) (answers_length a c e I wf.0 l ∙ wf.2) hc
      (λ s t m. he s t (omega (arith, length_run a cs es X)))
      (answers_hold a wf.0 fit.0 c e I cs es X l hc he w),
)
delays_hold (Split a b) wf fit c e I cs es X l hc he w =
    let K = spans a c e I in
    let f = dealt (pos 0) (inputs b) in
    let some : 1 ≤ outputs a = wf.2 in (
      delays_hold a wf.0 fit.0 c e I cs es X l hc he w,
      delays_hold b wf.1 fit.1 c e (dealt (point (pos 0)) (inputs b) K) cs es (map f (run a cs es X)) (length_table (inputs b) _) hc
          (λ s t m. he s t (omega (arith, length-map (run a cs es X) f, length_run a cs es X)))
          (each_map (AreOf K) (AreOf (dealt (point (pos 0)) (inputs b) K)) f (run a cs es X)
          (λ x h. dealt_of (inputs b) K x (omega (arith, some, answers_length a c e I wf.0 l)) h) (answers_hold a wf.0 fit.0 c e I cs es X l hc he w)),
    )
delays_hold (Merge a b) wf fit c e I cs es X l hc he w =
    let K = spans a c e I in
    let f = merged (inputs b) in (
      delays_hold a wf.0 fit.0 c e I cs es X l hc he w,
      delays_hold b wf.1 fit.1 c e (merged_spans (inputs b) K) cs es (map f (run a cs es X)) (length_table (inputs b) _) hc
          (λ s t m. he s t (omega (arith, length-map (run a cs es X) f, length_run a cs es X)))
          (each_map (AreOf K) (AreOf (merged_spans (inputs b) K)) f (run a cs es X) (λ x h. merged_of (inputs b) K x h)
          (answers_hold a wf.0 fit.0 c e I cs es X l hc he w)),
    )
delays_hold (Rec a b) wf fit c e I cs es X l hc he w =
    let n = inputs b in
    let F = table n (λ i. full) in
    let K = spans b c e F in
    let O = spans a c e (K ++ I) in
    let k : length K ≡ outputs b = answers_length b c e F wf.1 (length_table n _) in
    let wide : length (K ++ I) ≡ inputs a = omega (arith, length-append K I, k, l, wf.3) in
    let o : length O ≡ outputs a = answers_length a c e (K ++ I) wf.0 wide in
    let Y = run (Rec a b) cs es X in
    let y : All (AreOf O) Y = answers_hold (Rec a b) wf fit c e I cs es X l hc he w in
    let G = fed_back_over b Y in
    let long : length Y ≡ length X = length_run (Rec a b) cs es X in
    let g : All (AreOf F) G = All-take (AreOf F) (length Y) (fed_back n Y)
    (All-cons (AreOf F) (replicate n (pos 0)) (map (take n) Y) (zeros_of n)
    (each_map (AreOf O) (AreOf F) (take n) Y (λ x h. cut_of n O x (omega (arith, o, wf.2)) h) y)) in
    let few : length G ≡ length X = length-take-le (length Y) (fed_back n Y) (omega (arith, length-map Y (take n))) ∙ long in
    let he' : (s t : ℕ) → t < length G → IsOf (e s) (es s t) = λ s t m. he s t (omega (arith, few)) in
    let r : length (run b cs es G) ≡ length X = length_run b cs es G ∙ few in (
      delays_hold b wf.1 fit.1 c e F cs es G (length_table n _) hc he' g,
      delays_hold a wf.0 fit.0 c e (K ++ I) cs es (beside (run b cs es G) X) wide hc (λ s t m. he s t (omega (arith, length_beside (run b cs es G) X r, r)))
          (each_beside (AreOf K) (AreOf I) (AreOf (K ++ I)) (run b cs es G) X (λ x y h g. of_append K I x y h g)
          (answers_hold b wf.1 fit.1 c e F cs es G (length_table n _) hc he' g) w),
    )
