-- The delays of a diagram, and the first one that is refused.
use Rattle.std.proofs.Common.{◌≡◌, ℕ, ◌+◌, ◌*◌, ◌<◌, ◌≤◌, List, [], ◌∷◌, ◌++◌, length, get_or, take, drop, refl, sym, ap, ap₂, ◌∙◌, subst, arith, pos, sum}
use Rattle.std.proofs.lemmas.List.{length-append, take-append-drop, take_more, map_push}
use Rattle.std.proofs.lemmas.List.Elements.{All-push}
use Rattle.std.proofs.lemmas.List.Sums.{sum_by-append}
use Rattle.fv_base.proofs.lemmas.Lists.{drop_step, length_table}
use Rattle.fv_num.specs.headline.Frames.{table}
use Rattle.fv_num.specs.headline.Interval.{Interval, full, point, span_at}
use Rattle.fv_diagram.specs.Primitive.TheVariants as prim
use Rattle.fv_diagram.specs.headline.Diagram.{Diagram, Primitive, Constant, Control, Slot, Wave, Table, Bind, Par, Seq, Split, Merge, Rec, inputs, size}
use Rattle.fv_diagram.specs.Diagram.{IsWellFormed}
use Rattle.fv_diagram.specs.Walked.{walked}
use Rattle.fv_diagram.specs.headline.Streams.{dealt}
use Rattle.fv_diagram.proofs.lemmas.Trees.{inputs_within}
use Rattle.fv_interval.specs.declared.refusal.DelayRefusal.{DelayRefusal}
use Rattle.fv_interval.specs.declared.refusal.DelayRefusal.TheVariants as refusal
use Rattle.fv_interval.specs.headline.SpanHooks.{control_span}
use Rattle.fv_interval.specs.inner.SpanHooks.{Noted, span_hooks}
use Rattle.fv_interval.specs.headline.WireSpans.{bound_span, merged_spans, spans, delay_spans}
use Rattle.fv_interval.specs.headline.Delays.{delays_of, amount, amounts}
use Rattle.fv_interval.specs.Delays.{AreDelays, IsDelay, IsSpanRefused, IsFirstRefused}
use Rattle.fv_interval.specs.inner.Delays.{IsRefused}
use Rattle.fv_interval.proofs.SpansWalked.{spans_walked}
use Rattle.fv_base.specs.declared.limits.TheConstants.{DELAY_LIMIT}

-- ---- how many there are

pub delays_few : (d : Diagram) (c e : ℕ → Interval) (I : List Interval) → size d ≤ 16384 → length (delay_spans d c e I) ≤ 81920 * size d
delays_few (Primitive prim.Wire) c e I l = omega arith
delays_few (Primitive prim.Cut) c e I l = omega arith
delays_few (Primitive prim.Mem) c e I l = omega arith
delays_few (Primitive prim.Prefix) c e I l = omega arith
delays_few (Primitive prim.Delay) c e I l = omega arith
delays_few (Primitive prim.Int) c e I l = omega arith
delays_few (Primitive prim.Attach) c e I l = omega arith
delays_few (Primitive (prim.Point op)) c e I l = omega arith
delays_few (Primitive prim.ReadTable) c e I l = omega arith
delays_few (Primitive prim.WriteTable) c e I l = omega arith
delays_few (Constant n) c e I l = omega arith
delays_few (Control k) c e I l = omega arith
delays_few (Slot s) c e I l = omega arith
delays_few (Wave w) c e I l = omega arith
delays_few (Table T writes) c e I l = omega arith
delays_few (Bind s a) c e I l = omega (arith, delays_few a c (bound_span e s (span_at I 0)) (drop 1 I) (omega arith))
delays_few (Par a b) c e I l =
    let A = delay_spans a c e (take (inputs a) I) in
    let B = delay_spans b c e (drop (inputs a) I) in
    omega (arith, length-append A B, delays_few a c e (take (inputs a) I) (omega arith), delays_few b c e (drop (inputs a) I) (omega arith))
delays_few (Seq a b) c e I l =
    let A = delay_spans a c e I in
    let B = delay_spans b c e (spans a c e I) in
    omega (arith, length-append A B, delays_few a c e I (omega arith), delays_few b c e (spans a c e I) (omega arith))
delays_few (Split a b) c e I l =
    let K = dealt (point (pos 0)) (inputs b) (spans a c e I) in
    omega (arith, length-append (delay_spans a c e I) (delay_spans b c e K), delays_few a c e I (omega arith), delays_few b c e K (omega arith))
delays_few (Merge a b) c e I l =
    let K = merged_spans (inputs b) (spans a c e I) in
    omega (arith, length-append (delay_spans a c e I) (delay_spans b c e K), delays_few a c e I (omega arith), delays_few b c e K (omega arith))
delays_few (Rec a b) c e I l =
    let F = table (inputs b) (λ i. full) in
    let K = spans b c e F ++ I in
    let ones = table (inputs b) (λ i. point (pos 1)) in
    omega (
      arith,
      length-append ones (delay_spans b c e F ++ delay_spans a c e K),
      length-append (delay_spans b c e F) (delay_spans a c e K),
      length_table (inputs b) (λ i. point (pos 1)),
      inputs_within b,
      delays_few b c e F (omega arith),
      delays_few a c e K (omega arith),
    )

-- ---- their list

pub listed_more : (ss : List Interval) (i : ℕ) (s : Interval) (delay more total : ℕ) (ds es : List ℕ) → i < length ss → s ≡ get_or ss i s →
    IsDelay s × (delay ≡ amount s) × (delay ≤ DELAY_LIMIT) →
    AreDelays (take i ss) × (ds ≡ amounts (take i ss)) × (total ≡ sum ds) × (total ≤ 1048575 * i) → es ≡ ds ++ delay ∷ [] → more ≡ delay →
    AreDelays (take (i + 1) ss) × (es ≡ amounts (take (i + 1) ss)) × (total + more ≡ sum es) × (total + more ≤ 1048575 * (i + 1))
listed_more ss i s delay more total ds es l at d h e m =
    let longer : take (i + 1) ss ≡ take i ss ++ s ∷ [] = take_more ss i s l ∙ ap (λ z. take i ss ++ z ∷ []) (sym at) in (
      subst AreDelays (sym longer) (All-push IsDelay (take i ss) s h.0 d.0),
      e ∙ ap₂ (λ xs y. xs ++ y ∷ []) h.1 d.1 ∙ sym (map_push amount (take i ss) s) ∙ ap amounts (sym longer),
      sym (ap sum e ∙ sum_by-append (λ (x : ℕ). x) ds (delay ∷ []) ∙ omega (arith, h.2, m)),
      omega (arith, h.3, d.2, m),
    )

-- ---- what the walk noted

pub delays_are : (d : Diagram) (controls ins outs : List Interval) (n : ℕ) (free : Interval) (s q : Noted) → IsWellFormed d → n ≡ inputs d →
    ins ≡ table n (λ i. full) → free ≡ full →
    s ≡ record { controls = controls; delays = []; fed = [] } → (outs, q) ≡ walked span_hooks free d (λ i. free) ins s → q.delays ≡ delays_of d controls
delays_are d controls ins outs n free s q wf en ei ef es ew =
    let F = table (inputs d) (λ i. full) in
    let s0 : Noted = record { controls = controls; delays = []; fed = [] } in
    let here : (outs, q) ≡ walked span_hooks full d (λ i. full) F s0 =
    ew ∙ ap (λ f. walked span_hooks f d (λ i. f) ins s) ef ∙ ap₂ (walked span_hooks full d (λ i. full)) (ei ∙ ap (λ n. table n (λ i. full)) en) es in
    ap (λ r. r.1.delays) (here ∙ spans_walked (control_span controls) d (λ i. full) F s0 refl wf (length_table (inputs d) (λ i. full)))

-- ---- which is refused

-- span i is the first one that is refused
pub first_refused : (ss : List Interval) (i : ℕ) (s : Interval) (e : DelayRefusal) → i < length ss → s ≡ get_or ss i s → AreDelays (take i ss) →
    IsSpanRefused s e → IsFirstRefused ss e
first_refused ss i s e l at before r = record {
  before = take i ss;
  span = s;
  behind = drop (i + 1) ss;
  place = sym (take-append-drop i ss) ∙ ap (λ zs. take i ss ++ zs) (drop_step ss i s l ∙ ap (λ z. z ∷ drop (i + 1) ss) (sym at));
  none_before = before;
  refused = r;
}

pub refused_by : (ss : List Interval) (i : ℕ) (s : Interval) (e : DelayRefusal) → i < length ss → s ≡ get_or ss i s → AreDelays (take i ss) →
    IsSpanRefused s e → IsRefused ss e
refused_by ss i s refusal.NoMemory l at before r = tt
refused_by ss i s (refusal.DelayBudget n) l at before r = absurd r
refused_by ss i s (refusal.DelayNegative n) l at before r = first_refused ss i s (refusal.DelayNegative n) l at before r
refused_by ss i s (refusal.DelayTooLong n) l at before r = first_refused ss i s (refusal.DelayTooLong n) l at before r
