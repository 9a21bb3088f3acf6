-- The graph of a whole diagram.
use Rattle.std.proofs.Common.{◌≡◌, ℕ, ◌<◌, List, [], length, get_or, refl, sym, ap, ap₂, ◌∙◌, subst, arith, All, ℤ, pos, inl, inr, w32, FitsSigned}
use Rattle.std.specs.Prelude.{slice_index, ◌⊎◌, ◌≤◌, Contains}
use Rattle.std.proofs.lemmas.Bool.{cases_lt}
use Rattle.std.proofs.lemmas.Int.{ints}
use Rattle.std.proofs.lemmas.List.{get_or_default, get_or_past, get_or-map}
use Rattle.std.proofs.lemmas.List.Elements.{All-get_or, All-from_get_or, All-weaker, All-contains_itself}
use Rattle.fv_base.specs.declared.limits.TheConstants.{DELAY_LIMIT}
use Rattle.fv_base.specs.headline.Lists.{IsPrefixOf}
use Rattle.fv_base.proofs.lemmas.Lists.{prefix_refl, length_table, table_same, table_items, get_or_table}
use Rattle.fv_num.specs.headline.Frames.{Frame, Stream, frame_at, column, table, carried}
use Rattle.fv_num.specs.Frames.{carries}
use Rattle.fv_num.specs.headline.Interval.{Interval, IsSpan, full, point}
use Rattle.fv_num.specs.SpanLaws.{AreSpans}
use Rattle.fv_signal.specs.declared.signal.Signal.{Signal}
use Rattle.fv_signal.specs.declared.signal.Signal.TheVariants.{Input, Const, Control, Point, Delay, Back, Member, Read, Write}
use Rattle.fv_signal.specs.headline.Value.{Graph, value, AreAtMost, IsGraph}
use Rattle.fv_signal.specs.Value.{StayWithin}
use Rattle.fv_share.specs.Drafts.{AreClosed, graph_of}
use Rattle.fv_diagram.specs.headline.Diagram.{Diagram, inputs, outputs}
use Rattle.fv_diagram.specs.Diagram.{IsWellFormed, HasNoFreeSlot, HasNumbers, AreNumbers}
use Rattle.fv_diagram.specs.headline.Streams.{run}
use Rattle.fv_diagram.specs.Wires.{Wired}
use Rattle.fv_diagram.specs.Wires.{no_slots}
use Rattle.fv_diagram.specs.Walked.{walked}
use Rattle.fv_diagram.proofs.lemmas.Causality.{run_closed}
use Rattle.fv_diagram.proofs.lemmas.Carried.{wired_answers, column_carries}
use Rattle.fv_diagram.proofs.lemmas.Places.{prefix_long, carried_items}
use Rattle.fv_diagram.proofs.lemmas.Meaning.{walk_goes, walk_means}
use Rattle.fv_diagram.proofs.lemmas.Related.{AreRelated}
use Rattle.fv_interval.specs.headline.SpanHooks.{control_span}
use Rattle.fv_interval.specs.inner.SpanHooks.{Noted, span_hooks}
use Rattle.fv_interval.specs.headline.Laws.{IsOf}
use Rattle.fv_interval.specs.headline.Delays.{delays_of}
use Rattle.fv_interval.specs.Delays.{AreAccepted}
use Rattle.fv_interval.proofs.lemmas.Refused.{delays_are}
use Rattle.fv_propagate.specs.inner.Progress.{Progress, puts, unstarted, started, signal_hooks, IsThere}
use Rattle.fv_propagate.specs.headline.Propagated.{AreTaken, Propagates, HasControl, NamesOf, NamesWithin}
use Rattle.fv_propagate.specs.Propagated.{DelaysAreAmong}
use Rattle.fv_propagate.proofs.Alongside.{walk_back, walked_along, related_places}
use Rattle.fv_propagate.proofs.Puts.{put_there, puts_at, puts_wide, puts_groups, puts_closed, puts_delays, puts_feedbacks, puts_keep}
use Rattle.fv_propagate.proofs.Kept.{puts_all_there}
use Rattle.fv_propagate.proofs.Goes.{IsGood, Onward, GoesOn, on_same_groups, stays_good, signals_are_orderly, signals_hold_back}
use Rattle.fv_propagate.proofs.Faithful.{AreWide, node_is, signals_are_faithful}
use Rattle.fv_propagate.proofs.lemmas.Named.{still, Any, IsNamed, AreNamed, named_put, named_puts, names_keep, leaves_had, lists_had}
use Rattle.fv_signal.proofs.lemmas.Fits.{full_of, values_fit}
use Rattle.fv_propagate.proofs.Ranged.{LiesIn, AreRanged, Beside, ranged_put, ranged_puts, not_clamped, spans_keep}

of_fits : (s : Interval) (z : ℤ) → IsOf s z → FitsSigned w32 z
of_fits s z h = omega (arith, ints, h.0.lo_fits, h.0.hi_fits, h.1.above, h.1.below)

names_of : (d : Diagram) (IsLimit : ℕ → Type 0) (none : IsLimit 0) (one : IsLimit 1) (x : Signal)
    → IsNamed (inputs d) (HasControl d) IsLimit none one x → NamesOf d x
names_of d IsLimit none one (Input k) h = h
names_of d IsLimit none one (Const n) h = tt
names_of d IsLimit none one (Control k) h = h
names_of d IsLimit none one (Point op args) h = tt
names_of d IsLimit none one (Delay x back max) h = tt
names_of d IsLimit none one (Back group k) h = tt
names_of d IsLimit none one (Member group k) h = tt
names_of d IsLimit none one (Read table r) h = tt
names_of d IsLimit none one (Write table w x r) h = tt

module _ (d : Diagram) (delays : List ℕ) (wf : IsWellFormed d) (free : HasNoFreeSlot d) (numbers : HasNumbers d) where
  -- the inputs, and what the walk makes of them
  abbrev pub first : List ℕ × Progress
  first = puts Input (inputs d) (started delays)

  abbrev pub made : List ℕ × Progress
  made = walked signal_hooks 0 d no_slots first.0 first.1

  abbrev pub graph : Graph
  graph = graph_of made.1.draft made.0

  started_good : IsGood (started delays)
  started_good = record { marked = refl; nested = tt }

  first_wide : length first.0 ≡ inputs d
  first_wide = puts_wide Input (inputs d) (started delays)

  first_good : IsGood first.1
  first_good =
      let s = started delays in
      let n = inputs d in
      stays_good s first.1 (on_same_groups s first.1 (puts_feedbacks Input n s) (puts_groups Input n s) (puts_closed Input n s)) started_good

  goes : (length made.0 ≡ outputs d) × Onward first.1 made.1
  goes = walk_goes signal_hooks IsGood Onward signals_are_orderly d no_slots first.0 first.1 wf first_wide first_good

  pub made_wide : length made.0 ≡ outputs d
  made_wide = goes.0

  pub made_closed : AreClosed made.1.draft
  made_closed g l = goes.1.closed first_good.marked g (omega (arith, ap length (puts_groups Input (inputs d) (started delays)))) l

  goes_on : GoesOn graph made.1
  goes_on = record { signals = prefix_refl made.1.draft.signals; tables = prefix_refl made.1.draft.tables; groups = λ g l h. refl }

  first_goes_on : GoesOn graph first.1
  first_goes_on = walk_back signal_hooks (GoesOn graph) (signals_hold_back graph) d no_slots first.0 first.1 goes_on

  zero_fits : FitsSigned w32 (pos 0)
  zero_fits = omega (arith, ints)

  -- the number 0 is there
  some : 0 < length graph.signals
  some =
      omega (
        arith,
        put_there (unstarted delays) (Const (pos 0)),
        prefix_long (started delays).draft.signals first.1.draft.signals (puts_keep Input (inputs d) (started delays)),
        prefix_long first.1.draft.signals graph.signals first_goes_on.signals,
      )

  -- ---- what the graph names

  module _ (IsLimit : ℕ → Type 0) (none : IsLimit 0) (one : IsLimit 1) (within : All IsLimit delays) where
    made_named : AreNamed (inputs d) (HasControl d) IsLimit none one made.1
    made_named =
        let n = inputs d in
        let b = HasControl d in
        let named = AreNamed n b IsLimit none one in
        let empty : named (unstarted delays) = record { signals = λ i x l. absurd (omega (arith, l)); delays = within } in
        let begun : named first.1 =
        named_puts n b IsLimit none one Input n (started delays) (λ i l. l)
        (named_put n b IsLimit none one (unstarted delays) (Const (pos 0)) zero_fits empty) in
        (walked_along signal_hooks still (FitsSigned w32) b AreNumbers IsGood Onward (GoesOn graph) Any (λ s u. named s) signals_are_orderly
        (signals_hold_back graph)
        (names_keep n b IsLimit none one AreNumbers (λ T h. h.counted) (GoesOn graph)) tt tt d no_slots (λ i. tt) first.0 (table n (λ i. tt)) first.1
        tt wf first_wide
        (leaves_had b AreNumbers d (lists_had d numbers) numbers (λ k h. h)) first_good goes_on (λ i. tt) begun
        (related_places Any first.0 (table n (λ i. tt)) 0 tt (first_wide ∙ sym (length_table n (λ i. tt))) (λ i l. tt))).1

  -- any delay is allowed
  abbrev AnyLimit : ℕ → Type 0
  AnyLimit n = Unit {0}

  all_allowed : (ds : List ℕ) → All AnyLimit ds
  all_allowed ds = All-from_get_or AnyLimit ds 0 (λ i l. tt)

  any_named : AreNamed (inputs d) (HasControl d) AnyLimit tt tt made.1
  any_named = made_named AnyLimit tt tt (all_allowed delays)

  pub names_within : NamesWithin d graph
  names_within s x l = names_of d AnyLimit tt tt (get_or graph.signals s x) (any_named.signals s x l)

  -- the longest delays are those of the list, or 1 sample long
  pub delays_among : DelaysAreAmong delays graph
  delays_among s x by most h =
      let IsLimit : ℕ → Type 0 = λ n. (n ≤ 1) ⊎ Contains delays n in
      let none : IsLimit 0 = inl (omega arith) in
      let one : IsLimit 1 = inl (omega arith) in
      let within : All IsLimit delays = All-weaker (Contains delays) IsLimit (λ n h. inr h) delays (All-contains_itself delays) in
      subst (IsNamed (inputs d) (HasControl d) IsLimit none one) h.is ((made_named IsLimit none one within).signals s (Const (pos 0)) h.within)

  -- ---- its values

  module _ (whole : IsGraph graph) (spans : List Interval) (accepted : AreAccepted (delays_of d spans) delays) (X : List Frame) (c : ℕ → Stream)
      (small : (i t : ℕ) → FitsSigned w32 (column X i t)) (held : (k t : ℕ) → IsOf (control_span spans k) (c k t)) where
    fits : (s t : ℕ) → s < length graph.signals → FitsSigned w32 (value graph s X c t)
    fits = values_fit graph whole.ordered whole.closed X c small (λ k t. of_fits (control_span spans k) (c k t) (held k t))
        (λ s n l e. subst (IsNamed (inputs d) (HasControl d) AnyLimit tt tt) e (any_named.signals s (Const (pos 0)) l)) whole.tables

    ranged : AreRanged (HasControl d) graph whole.ordered X c spans (delays_of d spans) delays accepted.are accepted.each held fits made.1
    ranged =
        let n = inputs d in
        let b = HasControl d in
        let L = delays_of d spans in
        let F = table n (λ i. full) in
        let C : ℕ → Type 0 = b in
        let u : Noted = record { controls = spans; delays = []; fed = [] } in
        let Q = LiesIn C graph whole.ordered X c spans L delays accepted.are accepted.each held fits in
        let R = Beside C graph whole.ordered X c spans L delays accepted.are accepted.each held fits in
        let keeps = spans_keep C graph whole.ordered X c spans L delays accepted.are accepted.each held fits in
        let anywhere : (w : ℕ) → w < length graph.signals → Q w full = λ w l t. full_of (value graph w X c t) (fits w t l) in
        let begun : R first.1 u = record {
          delays = puts_delays Input n (started delays);
          controls_are = refl;
          ranged = λ p.
              ranged_puts C graph whole.ordered X c spans L delays accepted.are accepted.each held fits Input n (started delays) (λ i x d max e. absurd cc)
              (ranged_put C graph whole.ordered X c spans L delays accepted.are accepted.each held fits (unstarted delays) (Const (pos 0))
              (λ x d max e. absurd cc)
              (λ i x d max l e. absurd (omega (arith, l))));
        } in
        let there : AreRelated Q first.0 F = related_places Q first.0 F 0 full (first_wide ∙ sym (length_table n (λ i. full)))
        (λ i l.
        let m : i < n = omega (arith, l, first_wide) in
        subst (Q (get_or first.0 i 0)) (sym (get_or_table n (λ i. full) i full m))
        (anywhere (get_or first.0 i 0) (puts_at graph Input n (started delays) i m first_goes_on.signals).within)) in
        let end = walked span_hooks full d (λ i. full) F u in
        let all = walked_along signal_hooks span_hooks (FitsSigned w32) C AreNumbers IsGood Onward (GoesOn graph) Q R signals_are_orderly
        (signals_hold_back graph) keeps
        full
        (anywhere 0 some) d no_slots (λ i. full) first.0 F first.1 u wf first_wide
        (leaves_had b AreNumbers d (lists_had d numbers) numbers (λ k h. h)) first_good goes_on
        (λ i. anywhere 0 some) begun there in
        let noted : end.1.delays ≡ L = delays_are d spans F end.0 n full u end.1 wf refl refl refl refl refl in
        all.1.ranged (subst (λ l. IsPrefixOf l L) (sym noted) (prefix_refl L))

    wide : AreWide graph whole.ordered X c
    unfolding AreWide
    wide s x back max h t = not_clamped max (value graph back X c t) ((ranged s x back max h.within (h.is (Const (pos 0)))).0 t)

    wired : Wired (λ s. value graph s X c) c d no_slots first.0 made.0
    wired =
        (walk_means signal_hooks IsGood Onward (GoesOn graph) AreNumbers (λ s. value graph s X c) c signals_are_orderly
        (signals_are_faithful graph whole.ordered X c wide) d no_slots
        first.0 first.1 wf (lists_had d numbers) first_wide first_good goes_on).wired

    -- the signals of the inputs carry the frames
    entered : (t : ℕ) → carried (λ s. value graph s X c) first.0 t ≡ table (inputs d) (λ i. column X i t)
    entered t =
        let n = inputs d in
        carried_items (λ s. value graph s X c) first.0 t ∙ ap (λ k. table k (λ i. value graph (get_or first.0 i 0) X c t)) first_wide
        ∙ table_same n _ _ (λ i l. node_is graph whole.ordered X c (get_or first.0 i 0) (Input i) t
        (puts_at graph Input n (started delays) i l first_goes_on.signals))

    answers : (e : ℕ → Stream) → All (λ x. length x ≡ inputs d) X → (j t : ℕ) → j < length made.0 → t < length X →
        value graph (slice_index made.0 j) X c t ≡ column (run d c e X) j t
    answers e widths j t l k =
        let v : ℕ → Stream = λ s. value graph s X c in
        let enters : carries v first.0 (length X) ≡ X =
        table_same (length X) (carried v first.0) (frame_at X) (λ u m.
        entered u ∙ ap (λ n. table n (λ i. column X i u)) (sym (All-get_or (λ x. length x ≡ inputs d) X u [] m widths)) ∙ table_items (frame_at X u) (pos 0))
        ∙ table_items X [] in
        let answer : run d c e X ≡ carries v made.0 (length X) =
        run_closed d c e (λ s. v (no_slots s)) X free ∙ ap (run d c (λ s. v (no_slots s))) (sym enters)
        ∙ wired_answers v c d no_slots (λ s. v (no_slots s)) first.0 made.0 (length X) wired (λ s u m. refl) in
        sym (ap (λ Y. column Y j t) answer ∙ column_carries v made.0 (length X) j t k ∙ get_or-map (λ s. v s t) made.0 j 0 (pos 0) l)

  pub propagates : IsGraph graph → (spans : List Interval) → AreAccepted (delays_of d spans) delays → Propagates d spans graph
  propagates whole spans accepted X c e taken j t l k = answers whole spans accepted X c taken.small taken.controls e taken.wide j t l k

  pub stays_within : IsGraph graph → (spans : List Interval) → AreAccepted (delays_of d spans) delays → (X : List Frame) (c : ℕ → Stream)
      → AreTaken d spans X c → StayWithin graph X c
  stays_within whole spans accepted X c taken s x by most t h = (ranged whole spans accepted X c taken.small taken.controls s x by most h.within h.is).0 t

  -- the span of a control is one
  control_is_span : (spans : List Interval) → AreSpans spans → (k : ℕ) → IsSpan (control_span spans k)
  control_is_span spans h k = elim (cases_lt k (length spans)) [
    | inl l ↦ subst IsSpan (get_or_default spans k (point (pos 0)) full l) (h k l)
    | inr l ↦ subst IsSpan (sym (get_or_past spans k full l)) (full_of (pos 0) zero_fits).0
  ]

  pub stays_short : IsGraph graph → (spans : List Interval) → AreSpans spans → AreAccepted (delays_of d spans) delays → AreAtMost DELAY_LIMIT graph
  stays_short whole spans are accepted s x by most h =
      let c : ℕ → Stream = λ k t. (control_span spans k).lo in
      (ranged whole spans accepted [] c (λ i t. zero_fits)
      (λ k t. let i = control_is_span spans are k in (i, record { above = omega (arith, ints); below = i.ordered })) s x by most h.within h.is).1

-- ---- the calls

-- what the calls made is what is said above
pub made_is : (d : Diagram) (delays ins outs : List ℕ) (n first_id : ℕ) (s p q : Progress) → n ≡ inputs d → s ≡ started delays → (ins, p) ≡ puts Input n s →
    first_id ≡ 0 → (outs, q) ≡ walked signal_hooks first_id d (λ i. first_id) ins p →
    (outs, q) ≡ walked signal_hooks 0 d no_slots (puts Input (inputs d) (started delays)).0 (puts Input (inputs d) (started delays)).1
made_is d delays ins outs n first_id s p q en es ep ez eq =
    let first_is : (ins, p) ≡ puts Input (inputs d) (started delays) = ep ∙ ap₂ (puts Input) en es in
    eq ∙ ap (λ f. walked signal_hooks f d (λ i. f) ins p) ez ∙ ap (λ (r : List ℕ × Progress). walked signal_hooks 0 d no_slots r.0 r.1) first_is

-- the inputs' signals, and the number 0
pub inputs_there : (delays ins : List ℕ) (n : ℕ) (s p : Progress) → s ≡ started delays → (ins, p) ≡ puts Input n s → (length ins ≡ n) × All (IsThere p) ins
    × IsThere p 0
inputs_there delays ins n s p es ep =
    subst (λ (r : List ℕ × Progress). (length r.0 ≡ n) × All (IsThere r.1) r.0 × IsThere r.1 0) (sym (ep ∙ ap (puts Input n) es)) (
      puts_wide Input n (started delays),
      puts_all_there Input n (started delays),
      omega (
        arith,
        put_there (unstarted delays) (Const (pos 0)),
        prefix_long (started delays).draft.signals (puts Input n (started delays)).1.draft.signals (puts_keep Input n (started delays)),
      ),
    )
