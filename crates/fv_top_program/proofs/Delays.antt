-- The delays of parts side by side are those of each part, one part after another.
use Rattle.std.proofs.Common.{◌≡◌, ℕ, zero, suc, ◌+◌, ◌<◌, ◌≤◌, List, [], ◌∷◌, ◌++◌, length, take}
use Rattle.std.proofs.Common.{drop, refl, sym, ap, ap₂, ◌∙◌, arith, pos, append_assoc, append-nil}
use Rattle.std.specs.Prelude.{flat_map, max}
use Rattle.std.proofs.Math.Seq.{take-append_seam, drop-append_seam}
use Rattle.std.proofs.Math.Nat.{le-max_left, le-max_right}
use Rattle.std.proofs.lemmas.List.{get_or-append-add, get_or_append_left, length-append}
use Rattle.fv_base.specs.headline.Lists.{table}
use Rattle.fv_base.proofs.lemmas.Lists.{length_table}
use Rattle.fv_interval.specs.Interval.{Interval, full, point, span_at}
use Rattle.fv_diagram.specs.Primitive.{Primitive as Prim}
use Rattle.fv_diagram.specs.Primitive.TheVariants.{Wire, Cut, Mem, Prefix, Delay, Int, Attach, Point, ReadTable, WriteTable}
use Rattle.fv_diagram.specs.headline.Diagram.{Diagram, Primitive, Constant, Control, Slot, Wave, Table, Bind, Par, Seq, Split, Merge, Rec, inputs}
use Rattle.fv_diagram.specs.Diagram.{control_bound}
use Rattle.fv_diagram.specs.headline.Streams.{dealt}
use Rattle.fv_interval.specs.headline.Delays.{delays_of}
use Rattle.fv_interval.specs.headline.SpanHooks.{control_span}
use Rattle.fv_interval.specs.headline.WireSpans.{bound_span, delay_spans, merged_spans, spans}
use Rattle.fv_compile.specs.headline.Parts.{Part, shifted, side_by_side}
use Rattle.fv_compile.specs.Parts.{spans_of}
use Rattle.fv_compile.proofs.lemmas.Shifted.{inputs_shifted}

-- ---- a diagram with other controls before its own

-- the spans c, n places further on, are the spans d where the diagram names them
abbrev AreMoved : (n : ℕ) → (c d : ℕ → Interval) → Diagram → Type 0
AreMoved n c d x = (k : ℕ) → k < control_bound x → c (n + k) ≡ d k

left : (n : ℕ) (c d : ℕ → Interval) (a b : Diagram) → ((k : ℕ) → k < max (control_bound a) (control_bound b) → c (n + k) ≡ d k) → AreMoved n c d a
left n c d a b h k l = let m = le-max_left (control_bound a) (control_bound b) in h k (omega (arith, l, m))

right : (n : ℕ) (c d : ℕ → Interval) (a b : Diagram) → ((k : ℕ) → k < max (control_bound a) (control_bound b) → c (n + k) ≡ d k) → AreMoved n c d b
right n c d a b h k l = let m = le-max_right (control_bound a) (control_bound b) in h k (omega (arith, l, m))

module _ (n : ℕ) (c d : ℕ → Interval) where
  spans_moved : (x : Diagram) (e : ℕ → Interval) (I : List Interval) → AreMoved n c d x → spans (shifted n x) c e I ≡ spans x d e I
  spans_moved (Primitive p) e I h = refl
  spans_moved (Constant z) e I h = refl
  spans_moved (Control k) e I h = ap (λ s. s ∷ []) (h k (omega arith))
  spans_moved (Slot s) e I h = refl
  spans_moved (Wave w) e I h = refl
  spans_moved (Table T writes) e I h = refl
  spans_moved (Bind s a) e I h = spans_moved a (bound_span e s (span_at I 0)) (drop 1 I) h
  spans_moved (Par a b) e I h =
      ap₂ (λ (A B : List Interval). A ++ B)
      (ap (λ i. spans (shifted n a) c e (take i I)) (inputs_shifted n a) ∙ spans_moved a e (take (inputs a) I) (left n c d a b h))
      (ap (λ i. spans (shifted n b) c e (drop i I)) (inputs_shifted n a) ∙ spans_moved b e (drop (inputs a) I) (right n c d a b h))
  spans_moved (Seq a b) e I h =
      ap (spans (shifted n b) c e) (spans_moved a e I (left n c d a b h)) ∙ spans_moved b e (spans a d e I) (right n c d a b h)
  spans_moved (Split a b) e I h =
      ap₂ (λ i A. spans (shifted n b) c e (dealt (point (pos 0)) i A)) (inputs_shifted n b) (spans_moved a e I (left n c d a b h))
      ∙ spans_moved b e (dealt (point (pos 0)) (inputs b) (spans a d e I)) (right n c d a b h)
  spans_moved (Merge a b) e I h =
      ap₂ (λ i A. spans (shifted n b) c e (merged_spans i A)) (inputs_shifted n b) (spans_moved a e I (left n c d a b h))
      ∙ spans_moved b e (merged_spans (inputs b) (spans a d e I)) (right n c d a b h)
  spans_moved (Rec a b) e I h =
      let F = table (inputs b) (λ i. full) in
      let fed : spans (shifted n b) c e (table (inputs (shifted n b)) (λ i. full)) ≡ spans b d e F =
      ap (λ i. spans (shifted n b) c e (table i (λ k. full))) (inputs_shifted n b) ∙ spans_moved b e F (right n c d a b h) in
      ap (λ B. spans (shifted n a) c e (B ++ I)) fed ∙ spans_moved a e (spans b d e F ++ I) (left n c d a b h)

  primitive_delays : (p : Prim) (e : ℕ → Interval) (I : List Interval) → delay_spans (Primitive p) c e I ≡ delay_spans (Primitive p) d e I
  primitive_delays Mem e I = refl
  primitive_delays Prefix e I = refl
  primitive_delays Delay e I = refl
  primitive_delays Wire e I = refl
  primitive_delays Cut e I = refl
  primitive_delays Int e I = refl
  primitive_delays Attach e I = refl
  primitive_delays (Point op) e I = refl
  primitive_delays ReadTable e I = refl
  primitive_delays WriteTable e I = refl

  delays_moved : (x : Diagram) (e : ℕ → Interval) (I : List Interval) → AreMoved n c d x → delay_spans (shifted n x) c e I ≡ delay_spans x d e I
  delays_moved (Primitive p) e I h = primitive_delays p e I
  delays_moved (Constant z) e I h = refl
  delays_moved (Control k) e I h = refl
  delays_moved (Slot s) e I h = refl
  delays_moved (Wave w) e I h = refl
  delays_moved (Table T writes) e I h = refl
  delays_moved (Bind s a) e I h = delays_moved a (bound_span e s (span_at I 0)) (drop 1 I) h
  delays_moved (Par a b) e I h =
      ap₂ (λ (A B : List Interval). A ++ B)
      (ap (λ i. delay_spans (shifted n a) c e (take i I)) (inputs_shifted n a) ∙ delays_moved a e (take (inputs a) I) (left n c d a b h))
      (ap (λ i. delay_spans (shifted n b) c e (drop i I)) (inputs_shifted n a) ∙ delays_moved b e (drop (inputs a) I) (right n c d a b h))
  delays_moved (Seq a b) e I h =
      ap₂ (λ (A B : List Interval). A ++ B) (delays_moved a e I (left n c d a b h))
      (ap (delay_spans (shifted n b) c e) (spans_moved a e I (left n c d a b h)) ∙ delays_moved b e (spans a d e I) (right n c d a b h))
  delays_moved (Split a b) e I h =
      ap₂ (λ (A B : List Interval). A ++ B) (delays_moved a e I (left n c d a b h))
      (ap₂ (λ i A. delay_spans (shifted n b) c e (dealt (point (pos 0)) i A)) (inputs_shifted n b) (spans_moved a e I (left n c d a b h))
      ∙ delays_moved b e (dealt (point (pos 0)) (inputs b) (spans a d e I)) (right n c d a b h))
  delays_moved (Merge a b) e I h =
      ap₂ (λ (A B : List Interval). A ++ B) (delays_moved a e I (left n c d a b h))
      (ap₂ (λ i A. delay_spans (shifted n b) c e (merged_spans i A)) (inputs_shifted n b) (spans_moved a e I (left n c d a b h))
      ∙ delays_moved b e (merged_spans (inputs b) (spans a d e I)) (right n c d a b h))
  delays_moved (Rec a b) e I h =
      let F = table (inputs b) (λ i. full) in
      let same = inputs_shifted n b in
      let fed : spans (shifted n b) c e (table (inputs (shifted n b)) (λ i. full)) ≡ spans b d e F =
      ap (λ i. spans (shifted n b) c e (table i (λ k. full))) same ∙ spans_moved b e F (right n c d a b h) in
      ap₂ (λ (A B : List Interval). A ++ B) (ap (λ i. table i (λ k. point (pos 1))) same)
      (ap₂ (λ (A B : List Interval). A ++ B)
      (ap (λ i. delay_spans (shifted n b) c e (table i (λ k. full))) same ∙ delays_moved b e F (right n c d a b h))
      (ap (λ B. delay_spans (shifted n a) c e (B ++ I)) fed ∙ delays_moved a e (spans b d e F ++ I) (left n c d a b h)))

-- ---- parts side by side

-- inputs of which nothing is known stand side by side
full_beside : (m k : ℕ) → table (m + k) (λ i. full) ≡ table m (λ i. full) ++ table k (λ i. full)
full_beside m zero =
    let none : m + 0 ≡ m = omega arith in
    ap (λ n. table n (λ i. full)) none ∙ sym (append-nil (table m (λ i. full)))
full_beside m (suc k) =
    let more : m + suc k ≡ suc (m + k) = omega arith in
    ap (λ n. table n (λ i. full)) more
    ∙ ap (λ (xs : List Interval). xs ++ full ∷ []) (full_beside m k)
    ∙ append_assoc (table m (λ i. full)) (table k (λ i. full)) (full ∷ [])

full_first : (m k : ℕ) → take m (table (m + k) (λ i. full)) ≡ table m (λ i. full)
full_first m k =
    let F = table m (λ i. full) in
    ap (take m) (full_beside m k)
    ∙ ap (λ n. take n (F ++ table k (λ i. full))) (sym (length_table m (λ i. full)))
    ∙ take-append_seam F (table k (λ i. full))

full_behind : (m k : ℕ) → drop m (table (m + k) (λ i. full)) ≡ table k (λ i. full)
full_behind m k =
    let F = table m (λ i. full) in
    ap (drop m) (full_beside m k)
    ∙ ap (λ n. drop n (F ++ table k (λ i. full))) (sym (length_table m (λ i. full)))
    ∙ drop-append_seam F (table k (λ i. full))

-- each part has a span for each control that it names
abbrev pub HaveOwn : List Part → Type 0
HaveOwn [] = Unit {0}
HaveOwn (p ∷ ps) = (control_bound p.diagram ≤ length p.spans) × HaveOwn ps

delays_behind : (ps : List Part) (before : List Interval) → HaveOwn ps
    → delay_spans (side_by_side (length before) ps) (control_span (before ++ spans_of ps)) (λ s. full)
    (table (inputs (side_by_side (length before) ps)) (λ i. full))
    ≡ flat_map (λ (p : Part). delays_of p.diagram p.spans) ps
delays_behind [] before h = refl
delays_behind (p ∷ ps) before h =
    let n = length before in
    let rest = side_by_side (n + length p.spans) ps in
    let c = control_span (before ++ (p.spans ++ spans_of ps)) in
    let e = λ (s : ℕ). full in
    let m = inputs (shifted n p.diagram) in
    let own : AreMoved n c (control_span p.spans) p.diagram = λ k l.
    get_or-append-add before (p.spans ++ spans_of ps) k full ∙ get_or_append_left p.spans (spans_of ps) full k (let b = h.0 in omega (arith, l, b)) in
    let more = before ++ p.spans in
    let long : length more ≡ n + length p.spans = length-append before p.spans in
    let behind : delay_spans rest c e (table (inputs rest) (λ i. full)) ≡ flat_map (λ (q : Part). delays_of q.diagram q.spans) ps =
    ap (λ (xs : List Interval). delay_spans rest (control_span xs) e (table (inputs rest) (λ i. full))) (sym (append_assoc before p.spans (spans_of ps)))
    ∙ ap (λ k. delay_spans (side_by_side k ps) (control_span (more ++ spans_of ps)) e (table (inputs (side_by_side k ps)) (λ i. full))) (sym long)
    ∙ delays_behind ps more h.1 in
    ap₂ (λ (A B : List Interval). A ++ B)
    (ap (delay_spans (shifted n p.diagram) c e) (full_first m (inputs rest))
    ∙ ap (λ k. delay_spans (shifted n p.diagram) c e (table k (λ i. full))) (inputs_shifted n p.diagram)
    ∙ delays_moved n c (control_span p.spans) p.diagram e (table (inputs p.diagram) (λ i. full)) own)
    (ap (delay_spans rest c e) (full_behind m (inputs rest)) ∙ behind)

pub delays_beside : (ps : List Part) → HaveOwn ps
    → delays_of (side_by_side 0 ps) (spans_of ps) ≡ flat_map (λ (p : Part). delays_of p.diagram p.spans) ps
delays_beside ps h = delays_behind ps [] h
