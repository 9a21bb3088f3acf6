-- The samples of an input have 32 bits, and the controls stay within their bounds.
use Rattle.std.proofs.Common.{◌≡◌, ℕ, ◌+◌, ◌*◌, ◌<◌, ◌≤◌, Bool, true, List, [], ◌∷◌, length, get_or, All, ℤ, pos, sym, ap, subst, ◌∙◌, arith, inl, inr, nat_le}
use Rattle.std.proofs.Common.{◌&&◌, ◌==◌, if◌then◌else◌, FitsSigned, w32}
use Rattle.std.specs.List.{AllByRecursion}
use Rattle.std.proofs.lemmas.Bool.{cases_lt, eqb-true, cond_both, and_parts}
use Rattle.std.specs.Prelude.{int_le}
use Rattle.std.proofs.lemmas.Int.{ints}
use Rattle.std.proofs.lemmas.List.{get_or-map, get_or_past, length-map}
use Rattle.std.proofs.lemmas.List.Elements.{All-get_or, All-from_get_or}
use Rattle.fv_base.proofs.lemmas.Lists.{get_or_table, length_table}
use Rattle.fv_num.specs.headline.Words.{argument}
use Rattle.fv_num.specs.headline.Frames.{Frame, column, table, rows}
use Rattle.fv_num.specs.headline.Interval.{Interval, IsSpan, IsWithin, full, point}
use Rattle.fv_num.specs.SpanLaws.{AreSpans}
use Rattle.fv_diagram.specs.headline.Diagram.{Diagram, inputs}
use Rattle.fv_diagram.specs.declared.control.ControlInfo.{ControlInfo}
use Rattle.fv_control.specs.declared.script.Change.{Change}
use Rattle.fv_control.specs.Laws.{IsOfControls}
use Rattle.fv_control.specs.headline.Script.{is_within, no_control}
use Rattle.fv_control.specs.headline.Streams.{control_streams, value_after}
use Rattle.fv_interval.specs.headline.Laws.{IsOf}
use Rattle.fv_interval.specs.headline.SpanHooks.{control_span}
use Rattle.fv_propagate.specs.headline.Propagated.{AreTaken}
use Rattle.fv_diagram.specs.Controls.{IsBounded}
use Rattle.fv_engine_render.specs.inner.Plans.{AreNumbers}
use Rattle.fv_interval.specs.headline.Controls.{span_of, spans_of}
use Rattle.fv_engine_render.specs.headline.Render.{initial_of}

zero_fits : FitsSigned w32 (pos 0)
zero_fits = omega (arith, ints)

pub fits_past : (xs : List ℤ) (k : ℕ) → length xs ≤ k → FitsSigned w32 (get_or xs k (pos 0))
fits_past xs k l = subst (FitsSigned w32) (sym (get_or_past xs k (pos 0) l)) zero_fits

-- ---- the input

number_fits : (input : List ℤ) → AreNumbers input → (w n i t : ℕ) → FitsSigned w32 (column (rows w n input) i t)
number_fits input fit w n i t =
    let row = λ (u : ℕ). table w (λ (j : ℕ). argument input (u * w + j)) in
    let Fits : Frame → Type 0 = λ x. FitsSigned w32 (get_or x i (pos 0)) in
    elim (cases_lt t n) [
      | inl l ↦ subst Fits (sym (get_or_table n row t [] l))
          (elim (cases_lt i w) [
            | inl m ↦ subst (FitsSigned w32) (sym (get_or_table w (λ (j : ℕ). argument input (t * w + j)) i (pos 0) m)) (fit (t * w + i))
            | inr m ↦ fits_past (row t) i (let e = length_table w (λ (j : ℕ). argument input (t * w + j)) in omega (arith, e, m))
          ])
      | inr l ↦ subst Fits (sym (get_or_past (rows w n input) t [] (let e = length_table n row in omega (arith, e, l)))) zero_fits
    ]

rows_wide : (w n : ℕ) (input : List ℤ) → All (λ (x : Frame). length x ≡ w) (rows w n input)
rows_wide w n input =
    let row = λ (u : ℕ). table w (λ (j : ℕ). argument input (u * w + j)) in
    All-from_get_or (λ (x : Frame). length x ≡ w) (rows w n input) []
    (λ t l. ap length (get_or_table n row t [] (let e = length_table n row in omega (arith, e, l))) ∙ length_table w (λ (j : ℕ). argument input (t * w + j)))

-- ---- the controls

span_there : (cs : List ControlInfo) (k : ℕ) (d : Interval) → k < length cs → get_or (spans_of cs) k d ≡ span_of (get_or cs k no_control)
span_there cs k d l = get_or-map span_of cs k no_control d l

spans_long : (cs : List ControlInfo) → length (spans_of cs) ≡ length cs
spans_long cs = length-map cs span_of

pub spans_all : (cs : List ControlInfo) → ((k : ℕ) → k < length cs → IsSpan (span_of (get_or cs k no_control))) → AreSpans (spans_of cs)
spans_all cs h i l =
    let m : i < length cs = let e = spans_long cs in omega (arith, e, l) in subst IsSpan (sym (span_there cs i (point (pos 0)) m)) (h i m)

there_of : (cs : List ControlInfo) (k : ℕ) (z : ℤ) → AreSpans (spans_of cs) → k < length cs → IsWithin (span_of (get_or cs k no_control)) z
    → IsOf (control_span (spans_of cs) k) z
there_of cs k z are l h =
    subst (λ (s : Interval). IsOf s z) (sym (span_there cs k full l))
    (subst IsSpan (span_there cs k (point (pos 0)) l) (are k (let e = spans_long cs in omega (arith, e, l))), h)

full_of : (z : ℤ) → FitsSigned w32 z → IsOf full z
full_of z f = (
  record { ordered = omega (arith, ints); lo_fits = omega (arith, ints); hi_fits = omega (arith, ints) },
  record { above = omega (arith, ints); below = omega (arith, ints) },
)

-- a control that is not there is 0, and may be any number
absent : (cs : List ControlInfo) (k : ℕ) → length cs ≤ k → IsOf (control_span (spans_of cs) k) (argument (initial_of cs) k)
absent cs k l =
    let zero : argument (initial_of cs) k ≡ pos 0 =
    get_or_past (initial_of cs) k (pos 0) (let e = length-map cs (λ (c : ControlInfo). c.init) in omega (arith, e, l)) in
    let any : control_span (spans_of cs) k ≡ full = get_or_past (spans_of cs) k full (let e = spans_long cs in omega (arith, e, l)) in
    subst (IsOf (control_span (spans_of cs) k)) (sym zero) (subst (λ (s : Interval). IsOf s (pos 0)) (sym any) (full_of (pos 0) zero_fits))

begins : (cs : List ControlInfo) → AreSpans (spans_of cs) → All IsBounded cs → (k : ℕ) → IsOf (control_span (spans_of cs) k) (argument (initial_of cs) k)
begins cs are bounded k =
    elim (cases_lt k (length cs)) [
      | inl l ↦ let b = All-get_or IsBounded cs k no_control l bounded in
          subst (IsOf (control_span (spans_of cs) k)) (sym (get_or-map (λ (c : ControlInfo). c.init) cs k no_control (pos 0) l))
          (there_of cs k (get_or cs k no_control).init are l (record { above = b.0; below = b.1 }))
      | inr l ↦ absent cs k l
    ]

chosen : (b : Bool) (x v : ℤ) (s : Interval) → (b ≡ true → IsOf s x) → IsOf s v → IsOf s (if b then x else v)
chosen b x v s here other = cond_both b x v (IsOf s) here (λ e. other)

within : (i : ControlInfo) (z : ℤ) → is_within i z ≡ true → IsWithin (span_of i) z
within i z e = let p = and_parts (int_le i.min z) (int_le z i.max) e in record { above = omega (arith, ints, p.0); below = omega (arith, ints, p.1) }

stays : (cs : List ControlInfo) → AreSpans (spans_of cs) → (changes : List Change) → AllByRecursion (IsOfControls cs) changes → (v : ℤ) (k t : ℕ)
    → IsOf (control_span (spans_of cs) k) v → IsOf (control_span (spans_of cs) k) (value_after changes v k t)
stays cs are [] h v k t p = p
stays cs are (c ∷ changes) h v k t p =
    stays cs are changes h.1 (if (c.control == k) && nat_le c.frame t then c.value else v) k t
    (chosen ((c.control == k) && nat_le c.frame t) c.value v (control_span (spans_of cs) k)
    (λ e. subst (λ (j : ℕ). IsOf (control_span (spans_of cs) j) c.value) (eqb-true c.control k ((and_parts (c.control == k) (nat_le c.frame t) e).0))
    (there_of cs c.control c.value are h.0.there (within (get_or cs c.control no_control) c.value h.0.within)))
    p)

-- controls that begin within their bounds, and stay there
pub record StayWithin (cs : List ControlInfo) (changes : List Change) : Type 0 where
  pub spans : AreSpans (spans_of cs)
  pub bounded : All IsBounded cs
  pub lawful : AllByRecursion (IsOfControls cs) changes

pub taken : (d : Diagram) (cs : List ControlInfo) (changes : List Change) (n : ℕ) (input : List ℤ) → AreNumbers input → StayWithin cs changes
    → AreTaken d (spans_of cs) (rows (inputs d) n input) (control_streams changes (initial_of cs))
taken d cs changes n input fit stay = record {
  wide = rows_wide (inputs d) n input;
  small = number_fits input fit (inputs d) n;
  controls = λ k t. stays cs stay.spans changes stay.lawful (argument (initial_of cs) k) k t (begins cs stay.spans stay.bounded k);
}

-- a control with its bounds
pub is_span : (c : ControlInfo) → IsBounded c → FitsSigned w32 c.min → FitsSigned w32 c.max → IsSpan (span_of c)
is_span c b least greatest = let p = b.0 in let q = b.1 in record { ordered = omega (arith, ints, p, q); lo_fits = least; hi_fits = greatest }
