-- What the walk makes of spans is what the definitions of the spans of wires and of delays say.
use Rattle.std.proofs.Common.{◌≡◌, ℕ, suc, ◌%◌, ◌<◌, ◌≤◌, List, [], ◌∷◌, ◌++◌, length, get_or, take, drop, refl, sym, ap, ap₂, ◌∙◌, arith}
use Rattle.std.proofs.Common.{append_assoc, append-nil, pos, nat_eq, inl, inr, true, false}
use Rattle.std.specs.Prelude.{slice_set}
use Rattle.std.proofs.lemmas.Bool.{cases_eq, eq-eqb, ne_eqb, cond-true, cond-false, true≢false}
use Rattle.std.proofs.lemmas.List.{length-append, length-take-le, length-drop, length-set, get_or_default, get_or-set_same, get_or-set_other, get_or-take}
use Rattle.std.proofs.Math.Nat.{mod-lt}
use Rattle.fv_base.proofs.lemmas.Lists.{length_table, table_same, table_items}
use Rattle.fv_num.specs.declared.op.Op.TheVariants.{Add}
use Rattle.fv_num.specs.headline.Frames.{table}
use Rattle.fv_num.specs.headline.Interval.{Interval, full, point}
use Rattle.fv_num.specs.headline.Spans.{span_of}
use Rattle.fv_diagram.specs.Primitive.{Primitive as Prim}
use Rattle.fv_diagram.specs.Primitive.TheVariants as prim
use Rattle.fv_diagram.specs.headline.Diagram.{Diagram, Primitive, Constant, Control, Slot, Wave, Table, Bind, Par, Seq, Split, Merge, Rec, inputs, outputs}
use Rattle.fv_diagram.specs.headline.Diagram.{primitive_inputs, is_table_primitive}
use Rattle.fv_diagram.specs.Diagram.{IsWellFormed}
use Rattle.fv_diagram.specs.headline.Streams.{dealt, every}
use Rattle.fv_diagram.specs.Walked.{walked, added, summed}
use Rattle.fv_diagram.proofs.lemmas.Sums.{every_front}
use Rattle.fv_diagram.proofs.lemmas.Turns.{not_below}
use Rattle.fv_interval.specs.headline.WireSpans.{hull_of, table_span, added_span, summed_span, merged_spans, bound_span, spans, delay_spans}
use Rattle.fv_interval.specs.headline.SpanHooks.{control_span}
use Rattle.fv_interval.specs.inner.SpanHooks.{Noted, with_delays, closed_of, span_hooks}
use Rattle.fv_interval.proofs.lemmas.Holds.{answers_length}

-- no delay more, and some delays and then others
none_more : (s : Noted) → s ≡ with_delays s []
none_more s = ap (λ ds. record s { delays = ds }) (sym (append-nil s.delays))

then_more : (s : Noted) (ds es : List Interval) → with_delays (with_delays s ds) es ≡ with_delays s (ds ++ es)
then_more s ds es = ap (λ l. record s { delays = l }) (append_assoc s.delays ds es)

-- ---- sums

added_spans : (n i : ℕ) (xs sums : List Interval) (s : Noted) → 0 < n → length sums ≡ n → let r = added span_hooks full n i xs sums s in
    (length r.0 ≡ n) × (r.1 ≡ s) × ((j : ℕ) (d : Interval) → j < n → get_or r.0 j d ≡ added_span (get_or sums j d) (every n j i xs))
added_spans n i [] sums s some w = (w, refl, λ j d l. refl)
added_spans n i (x ∷ xs) sums s some w =
    let y = span_of Add (get_or sums (i % n) full ∷ x ∷ []) in
    let next = slice_set sums (i % n) y in
    let m = added_spans n (suc i) xs next s some (length-set sums (i % n) y ∙ w) in (
      m.0,
      m.1,
      λ j d l.
          let rest = every n j (suc i) xs in
          let there : i % n < length sums = omega (arith, mod-lt i some, w) in
          m.2 j d l ∙ elim (cases_eq (i % n) j) [
            | inl f ↦
                ap (λ z. added_span (get_or next z d) rest) (sym f) ∙ ap (λ z. added_span z rest) (get_or-set_same sums (i % n) y d there)
                ∙ ap (λ z. added_span (span_of Add (z ∷ x ∷ [])) rest) (get_or_default sums (i % n) full d there ∙ ap (λ k. get_or sums k d) f)
                ∙ ap (added_span (get_or sums j d)) (sym (cond-true (nat_eq (i % n) j) (x ∷ rest) rest (eq-eqb (i % n) j f)))
            | inr f ↦
                ap (λ z. added_span z rest) (get_or-set_other sums (i % n) j y d (λ z. f (sym z)))
                ∙ ap (added_span (get_or sums j d)) (sym (cond-false (nat_eq (i % n) j) (x ∷ rest) rest (ne_eqb (i % n) j f)))
          ],
    )

summed_spans : (n : ℕ) (I : List Interval) (s : Noted) → 0 < n → n ≤ length I → summed span_hooks full n I s ≡ (merged_spans n I, s)
summed_spans n I s some l =
    let m = added_spans n n (drop n I) (take n I) s some (length-take-le n I l) in
    let r = summed span_hooks full n I s in
    let items : r.0 ≡ merged_spans n I =
    sym (table_items r.0 full) ∙ ap (λ k. table k (λ j. get_or r.0 j full)) m.0
    ∙ table_same n _ _ (λ j b. m.2 j full b ∙ ap (λ z. added_span z (every n j n (drop n I))) (get_or-take n I j full b)
    ∙ ap summed_span (sym (every_front n j full I b l))) in
    ap₂ (λ x y. (x, y)) items m.1

-- ---- diagrams

dealt_spans : (n : ℕ) (I : List Interval) → 1 ≤ length I → dealt full n I ≡ dealt (point (pos 0)) n I
dealt_spans n I some = table_same n _ _ (λ i l. get_or_default I (i % length I) full (point (pos 0)) (mod-lt i some))

module _ (c : ℕ → Interval) where
  -- the walk from the signals s, which know these controls
  abbrev Makes : Diagram → (ℕ → Interval) → List Interval → Noted → Type 0
  Makes d e I s = walked span_hooks full d e I s ≡ (spans d c e I, with_delays s (delay_spans d c e I))

  primitive_makes : (p : Prim) (e : ℕ → Interval) (I : List Interval) (s : Noted) → is_table_primitive p ≡ false
      → length I ≡ primitive_inputs p → Makes (Primitive p) e I s
  primitive_makes prim.Wire e [] s q l = absurd (omega arith)
  primitive_makes prim.Wire e (x ∷ I) s q l = ap (λ z. (x ∷ [], z)) (none_more s)
  primitive_makes prim.Int e [] s q l = absurd (omega arith)
  primitive_makes prim.Int e (x ∷ I) s q l = ap (λ z. (x ∷ [], z)) (none_more s)
  primitive_makes prim.Attach e [] s q l = absurd (omega arith)
  primitive_makes prim.Attach e (x ∷ I) s q l = ap (λ z. (x ∷ [], z)) (none_more s)
  primitive_makes prim.Cut e I s q l = ap (λ z. ([], z)) (none_more s)
  primitive_makes prim.Mem e I s q l = refl
  primitive_makes prim.Prefix e I s q l = refl
  primitive_makes prim.Delay e I s q l = refl
  primitive_makes (prim.Point op) e I s q l = ap (λ z. (span_of op I ∷ [], z)) (none_more s)
  primitive_makes prim.ReadTable e I s q l = absurd (true≢false q)
  primitive_makes prim.WriteTable e I s q l = absurd (true≢false q)

  pub spans_walked : (d : Diagram) (e : ℕ → Interval) (I : List Interval) (s : Noted) → c ≡ control_span s.controls → IsWellFormed d → length I ≡ inputs d →
      Makes d e I s
  spans_walked (Primitive p) e I s h wf l = primitive_makes p e I s wf l
  spans_walked (Constant n) e I s h wf l = ap (λ z. (point n ∷ [], z)) (none_more s)
  spans_walked (Control k) e I s h wf l = ap₂ (λ f z. (f k ∷ [], z)) (sym h) (none_more s)
  spans_walked (Slot k) e I s h wf l = ap (λ z. (e k ∷ [], z)) (none_more s)
  spans_walked (Wave w) e I s h wf l = ap (λ z. (point (pos (length w)) ∷ hull_of w ∷ [], z)) (none_more s)
  spans_walked (Table T writes) e I s h wf l = ap (λ z. (table_span T writes I ∷ [], z)) (none_more s)
  spans_walked (Bind k a) e [] s h wf l = absurd (omega arith)
  spans_walked (Bind k a) e (x ∷ I) s h wf l = spans_walked a (bound_span e k x) I s h wf (omega arith)
  spans_walked (Par a b) e I s h wf l =
      let n = inputs a in
      let A = spans a c e (take n I) in
      let ds = delay_spans a c e (take n I) in
      ap (λ r. let q = walked span_hooks full b e (drop n I) r.1 in (r.0 ++ q.0, q.1)) (spans_walked a e (take n I) s h wf.0 (length-take-le n I (omega arith)))
      ∙ ap (λ q. (A ++ q.0, q.1)) (spans_walked b e (drop n I) (with_delays s ds) h wf.1 (omega (arith, l, length-drop n I)))
      ∙ ap (λ z. (A ++ spans b c e (drop n I), z)) (then_more s ds (delay_spans b c e (drop n I)))
  spans_walked (Seq a b) e I s h wf l =
      let A = spans a c e I in
      let ds = delay_spans a c e I in
      ap (λ r. walked span_hooks full b e r.0 r.1) (spans_walked a e I s h wf.0 l)
      ∙ spans_walked b e A (with_delays s ds) h wf.1 (answers_length a c e I wf.0 l ∙ wf.2)
      ∙ ap (λ z. (spans b c e A, z)) (then_more s ds (delay_spans b c e A))
  spans_walked (Split a b) e I s h wf l =
      let A = spans a c e I in
      let ds = delay_spans a c e I in
      let some : 1 ≤ outputs a = wf.2 in
      let K = dealt (point (pos 0)) (inputs b) A in
      ap (λ r. walked span_hooks full b e (dealt full (inputs b) r.0) r.1) (spans_walked a e I s h wf.0 l)
      ∙ ap (λ K. walked span_hooks full b e K (with_delays s ds)) (dealt_spans (inputs b) A (omega (arith, some, answers_length a c e I wf.0 l)))
      ∙ spans_walked b e K (with_delays s ds) h wf.1 (length_table (inputs b) (λ i. get_or A (i % length A) (point (pos 0))))
      ∙ ap (λ z. (spans b c e K, z)) (then_more s ds (delay_spans b c e K))
  spans_walked (Merge a b) e I s h wf l =
      let A = spans a c e I in
      let ds = delay_spans a c e I in
      let n = inputs b in
      let K = merged_spans n A in
      let enough : n ≤ length A = omega (arith, answers_length a c e I wf.0 l, not_below (outputs a) n wf.2 wf.4) in
      ap (λ r. let q = summed span_hooks full n r.0 r.1 in walked span_hooks full b e q.0 q.1) (spans_walked a e I s h wf.0 l)
      ∙ ap (λ q. walked span_hooks full b e q.0 q.1) (summed_spans n A (with_delays s ds) wf.3 enough)
      ∙ spans_walked b e K (with_delays s ds) h wf.1 (length_table n (λ j. summed_span (every n j 0 A)))
      ∙ ap (λ z. (spans b c e K, z)) (then_more s ds (delay_spans b c e K))
  spans_walked (Rec a b) e I s h wf l =
      let n = inputs b in
      let F = table n (λ i. full) in
      let ones = table n (λ i. point (pos 1)) in
      let o = span_hooks.opened n s in
      let K = spans b c e F in
      let ds = delay_spans b c e F in
      let es = delay_spans a c e (K ++ I) in
      let taken : outputs b ≤ inputs a = wf.3 in
      let k : length K ≡ outputs b = answers_length b c e F wf.1 (length_table n (λ i. full)) in
      ap (λ r. let q = walked span_hooks full a e (r.0 ++ I) r.1 in closed_of q.0 q.1) (spans_walked b e F o.1 h wf.1 (length_table n (λ i. full)))
      ∙ ap (λ q. closed_of q.0 q.1) (spans_walked a e (K ++ I) (with_delays o.1 ds) h wf.0 (length-append K I ∙ omega (arith, k, l, taken)))
      ∙ ap (λ z. (spans a c e (K ++ I), z)) (then_more (with_delays s ones) ds es ∙ then_more s ones (ds ++ es))
