-- What no call says beside `headline/SpanHooks`: what a walk makes of spans (this project's profile).
use Rattle.std.specs.Prelude.{ℕ, Bool, ℤ, List, [], ◌∷◌, ◌++◌, drop, pos}
use Rattle.fv_num.specs.headline.Frames.{table}
use Rattle.fv_num.specs.headline.Interval.{Interval, full, point, hull, span_at}
use Rattle.fv_num.specs.headline.Spans.{span_of}
use Rattle.fv_diagram.specs.declared.signals.Leaf.{Leaf}
use Rattle.fv_diagram.specs.declared.signals.Leaf.TheVariants as leaf
use Rattle.fv_diagram.specs.Hooks.{Hooks}
use Rattle.fv_interval.specs.headline.WireSpans.{table_span}
use Rattle.fv_interval.specs.headline.SpanHooks.{control_span}

-- the spans of the controls, those of the delays so far, and how many wires each open feedback feeds back
pub record Noted : Type 0 where
  pub controls : List Interval
  pub delays : List Interval
  pub fed : List ℕ

-- some delays more
abbrev pub with_delays : Noted → List Interval → Noted
with_delays s ds = record s { delays = s.delays ++ ds }

-- one delay more
abbrev pub note : Noted → Interval → Noted
note s d = with_delays s (d ∷ [])

-- n delays by one frame more
abbrev pub noted_ones : Noted → ℕ → Noted
noted_ones s n = with_delays s (table n (λ i. point (pos 1)))

-- the span of a leaf, and what is noted of it
abbrev pub leaf_of : Leaf → List Interval → Noted → Interval × Noted
leaf_of (leaf.Number n) ins s = (point n, s)
leaf_of (leaf.Control k) ins s = (control_span s.controls k, s)
leaf_of leaf.Mem ins s = (hull (span_at ins 0) (point (pos 0)), note s (point (pos 1)))
leaf_of leaf.Prefix ins s = (hull (span_at ins 0) (span_at ins 1), note s (point (pos 1)))
leaf_of leaf.Delay ins s = (hull (span_at ins 0) (point (pos 0)), note s (span_at ins 1))
leaf_of (leaf.Point op) ins s = (span_of op ins, s)

-- a feedback begins with full spans, and one delay for each wire
abbrev pub opened_of : ℕ → Noted → List Interval × Noted
opened_of n s = (table n (λ i. full), record (noted_ones s n) { fed = n ∷ s.fed })

-- a feedback ends: it gives its wires on, and is no longer open
abbrev pub closed_of : List Interval → Noted → List Interval × Noted
closed_of outs s = (outs, record s { fed = drop 1 s.fed })

-- a wire that counts is asked for nothing but its numbers
abbrev pub counted_of : ℕ → Noted → Interval × Noted
counted_of n s = (full, s)

-- the span of a table
abbrev pub tabled_of : Bool → List ℤ → List Interval → Noted → Interval × Noted
tabled_of writes T ins s = (table_span T writes ins, s)

-- what a walk does to spans
abbrev pub span_hooks : Hooks Interval Noted
span_hooks = record { leaf = leaf_of; opened = opened_of; closed = closed_of; counted = counted_of; tabled = tabled_of }

-- nothing is asked of a wire's span
abbrev pub IsSpanned : Noted → Interval → Type 0
IsSpanned s x = Unit {0}

-- how many wires each open feedback feeds back
abbrev pub fed_of : Noted → List ℕ
fed_of s = s.fed
