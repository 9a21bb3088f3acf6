-- The values of the graph lie in the spans of the diagram's wires, and no delay is clamped.
use Rattle.std.proofs.Common.{◌≡◌, ℕ, zero, suc, ◌+◌, ◌-◌, ◌<◌, ◌≤◌, List, [], ◌∷◌, ◌++◌, length, drop, map, get_or, refl, sym, ap, ◌∙◌, subst, arith}
use Rattle.std.proofs.Common.{ℤ, pos, Bool, All, negsuc, inl, inr, true, false, if◌then◌else◌, nat_le, w32, FitsSigned, unsigned_abs, ◌≤ℤ◌}
use Rattle.std.proofs.lemmas.Int.{ints, clamps}
use Rattle.std.proofs.lemmas.List.{length_push, length-append, drop-drop, get_or-drop, get_or-map, get_or_push, take-map}
use Rattle.std.proofs.lemmas.List.Elements.{All-get_or, All-from_get_or}
use Rattle.fv_base.specs.headline.Lists.{IsPrefixOf}
use Rattle.fv_base.proofs.lemmas.Lists.{prefix_trans, length_table, get_or_table}
use Rattle.fv_num.specs.declared.op.Op.{Op}
use Rattle.fv_num.specs.declared.op.Op.TheVariants.{Add, Rem, Select2}
use Rattle.fv_num.specs.headline.Words.{argument, apply_of, inputs_of}
use Rattle.fv_num.specs.headline.Frames.{Frame, Stream, table, delayed, prefixed, back, carried}
use Rattle.fv_num.specs.Frames.{carries}
use Rattle.fv_num.specs.headline.Interval.{Interval, IsWithin, IsSpan, full, point, hull, span_at}
use Rattle.fv_num.specs.headline.Spans.{span_of}
use Rattle.fv_num.proofs.lemmas.Closed.{holds, closed}
use Rattle.fv_signal.specs.declared.signal.Signal.{Signal}
use Rattle.fv_signal.specs.declared.signal.Signal.TheVariants.{Const, Control, Point, Delay, Back, Member}
use Rattle.fv_signal.specs.headline.Value.{Graph, back_by, value, IsOrdered}
use Rattle.fv_diagram.specs.declared.signals.Leaf.{Leaf}
use Rattle.fv_diagram.specs.declared.signals.Leaf.TheVariants as leaf
use Rattle.fv_diagram.specs.Hooks.{takes, padded}
use Rattle.fv_diagram.proofs.lemmas.Places.{prefix_long, prefix_get, prefix_snoc}
use Rattle.fv_diagram.proofs.lemmas.Related.{AreRelated, Gives}
use Rattle.fv_diagram.proofs.lemmas.Places.{takes_some}
use Rattle.fv_interval.specs.headline.SpanHooks.{control_span}
use Rattle.fv_interval.specs.inner.SpanHooks.{Noted, span_hooks}
use Rattle.fv_interval.specs.headline.Laws.{IsOf}
use Rattle.fv_interval.specs.headline.Delays.{amount, amounts}
use Rattle.fv_interval.specs.Delays.{AreDelays, IsDelay}
use Rattle.fv_propagate.specs.declared.progress.Feedback.{Feedback}
use Rattle.fv_propagate.specs.inner.Progress.{Progress, put, puts, passed, grouped, put_mem, put_prefix, leaf_of, opened_of, shut}
use Rattle.fv_propagate.specs.inner.Progress.{signal_hooks, AreNested, late_of, turned, counted_of, listed, table_node, tabled_of}
use Rattle.fv_propagate.proofs.Alongside.{IsOfLeaf, KeepAlong, related_at, related_places, related_length}
use Rattle.fv_propagate.proofs.Puts.{put_cases, put_at, puts_at, puts_wide, puts_delays, next_keeps, listed_is}
use Rattle.fv_propagate.proofs.Goes.{IsGood, GoesOn, filled, before_put, before_mem}
use Rattle.fv_propagate.proofs.Faithful.{padded_first, put_gives, mem_gives, prefix_gives, member_gives, shows_table}
use Rattle.fv_diagram.specs.headline.Diagram.{Table, table_inputs}
use Rattle.fv_diagram.specs.Diagram.{AreNumbers}
use Rattle.fv_diagram.specs.headline.Streams.{table_at}
use Rattle.fv_interval.specs.headline.WireSpans.{table_span}
use Rattle.fv_interval.specs.Laws.{AreOf}
use Rattle.fv_interval.proofs.lemmas.Holds.{answers_hold}
use Rattle.fv_signal.proofs.lemmas.Fits.{full_of}
use Rattle.fv_base.specs.declared.limits.TheConstants.{DELAY_LIMIT}

-- ---- numbers in spans

point_of : (n : ℤ) → FitsSigned w32 n → IsOf (point n) n
point_of n f = (record { ordered = omega (arith, ints); lo_fits = f; hi_fits = f }, record { above = omega (arith, ints); below = omega (arith, ints) })

left_of : (s t : Interval) (z : ℤ) → IsSpan t → IsOf s z → IsOf (hull s t) z
left_of s t z p h = (
  record {
    ordered = omega (arith, ints, clamps, h.0.ordered);
    lo_fits = omega (arith, ints, clamps, h.0.lo_fits, p.lo_fits);
    hi_fits = omega (arith, ints, clamps, h.0.hi_fits, p.hi_fits);
  },
  record { above = omega (arith, ints, clamps, h.1.above); below = omega (arith, ints, clamps, h.1.below) },
)

right_of : (s t : Interval) (z : ℤ) → IsSpan s → IsOf t z → IsOf (hull s t) z
right_of s t z p h = (
  record {
    ordered = omega (arith, ints, clamps, h.0.ordered);
    lo_fits = omega (arith, ints, clamps, h.0.lo_fits, p.lo_fits);
    hi_fits = omega (arith, ints, clamps, h.0.hi_fits, p.hi_fits);
  },
  record { above = omega (arith, ints, clamps, h.1.above); below = omega (arith, ints, clamps, h.1.below) },
)

zero_of : IsOf (point (pos 0)) (pos 0)
zero_of = point_of (pos 0) (omega (arith, ints))

-- a stream some samples ago, where there is one
back_of : (s : Interval) (x : Stream) (t : ℕ) (d : ℤ) → ((u : ℕ) → IsOf s (x u)) → IsOf (hull s (point (pos 0))) (back x t d)
back_of s x t (pos d) h = elim (nat_le d t) as (λ b. IsOf (hull s (point (pos 0))) (if b then x (t - d) else pos 0)) [
  | true ↦ left_of s (point (pos 0)) (x (t - d)) zero_of.0 (h (t - d))
  | false ↦ right_of s (point (pos 0)) (pos 0) (h t).0 zero_of
]
back_of s x t (negsuc d) h = right_of s (point (pos 0)) (pos 0) (h t).0 zero_of

-- the first sample of a stream, and then another one sample later
first_of : (s r : Interval) (x y : Stream) (t : ℕ) → ((u : ℕ) → IsOf s (x u)) → ((u : ℕ) → IsOf r (y u)) → IsOf (hull s r) (prefixed x y t)
first_of s r x y zero h k = left_of s r (x 0) (k 0).0 (h 0)
first_of s r x y (suc t) h k = right_of s r (y t) (h t).0 (k t)

-- a stream one sample later
later_of : (s : Interval) (x : Stream) (t : ℕ) → ((u : ℕ) → IsOf s (x u)) → IsOf (hull s (point (pos 0))) (delayed x t)
later_of s x zero h = right_of s (point (pos 0)) (pos 0) (h 0).0 zero_of
later_of s x (suc t) h = left_of s (point (pos 0)) (x t) zero_of.0 (h t)

-- from 0 to a greatest number
abbrev pub upto : ℕ → Interval
upto max = record { lo = pos 0; hi = pos max }

natural : (z : ℤ) → pos 0 ≤ℤ z → pos (unsigned_abs z) ≡ z
natural (pos n) h = refl
natural (negsuc n) h = absurd (omega (arith, ints, h))

-- a number of a span that is no refused delay is from 0 to its amount
of_delay : (s : Interval) (z : ℤ) → IsDelay s → IsOf s z → IsWithin (upto (unsigned_abs s.hi)) z
of_delay s z d h =
    let e = natural s.hi (omega (arith, ints, d.natural, h.0.ordered)) in
    record { above = omega (arith, ints, d.natural, h.1.above); below = omega (arith, ints, h.1.below, e) }

short_delay : (s : Interval) → IsDelay s → IsSpan s → unsigned_abs s.hi ≤ DELAY_LIMIT
short_delay s d h = let e = natural s.hi (omega (arith, ints, d.natural, h.ordered)) in omega (arith, ints, d.short, e)

pub not_clamped : (max : ℕ) (z : ℤ) → IsWithin (upto max) z → pos (back_by max z) ≡ z
not_clamped max (pos d) h = let b = h.below in grind (arith, ints)
not_clamped max (negsuc d) h = let a = h.above in absurd (omega (arith, ints, a))

module _ (C : ℕ → Type 0) (F : Graph) (ordered : IsOrdered F) (X : List Frame) (c : ℕ → Stream) (controls L : List Interval) (D : List ℕ) (are : D ≡ amounts L)
    (each : AreDelays L) (held : (k t : ℕ) → IsOf (control_span controls k) (c k t))
    (fits : (s t : ℕ) → s < length F.signals → FitsSigned w32 (value F s X c t)) where
  -- the signal lies in the span at each sample
  abbrev pub LiesIn : ℕ → Interval → Type 0
  LiesIn w s = (t : ℕ) → IsOf s (value F w X c t)

  -- a delay goes back from 0 to its greatest number, which is within the limit
  abbrev pub IsFar : (d max : ℕ) → Type 0
  IsFar d max = ((t : ℕ) → IsWithin (upto max) (value F d X c t)) × (max ≤ DELAY_LIMIT)

  -- each delay so far does
  abbrev pub AreRanged : Progress → Type 0
  AreRanged s = (i x d max : ℕ) → i < length s.draft.signals → get_or s.draft.signals i (Const (pos 0)) ≡ Delay x d max → IsFar d max

  -- the delays to come are those that are not noted yet, and where what is noted is true, the delays so far do not go too far
  pub record Beside (s : Progress) (u : Noted) : Type 0 where
    pub delays : s.delays ≡ drop (length u.delays) D
    pub controls_are : u.controls ≡ controls
    pub ranged : IsPrefixOf u.delays L → AreRanged s

  abbrev IsRanged : Signal → Type 0
  IsRanged n = (x d max : ℕ) → n ≡ Delay x d max → IsFar d max

  pub ranged_put : (s : Progress) (n : Signal) → IsRanged n → AreRanged s → AreRanged (put s n).1
  ranged_put s n h g i x d max l e = elim (put_cases s n i (Const (pos 0)) l) [
    | inl p ↦ g i x d max p.0 (sym p.1 ∙ e)
    | inr p ↦ h x d max (sym p ∙ e)
  ]

  pub ranged_puts : (f : ℕ → Signal) (n : ℕ) (s : Progress) → ((i : ℕ) → IsRanged (f i)) → AreRanged s → AreRanged (puts f n s).1
  ranged_puts f zero s h g = g
  ranged_puts f (suc n) s h g = let q = puts f n s in ranged_put q.1 (f n) (h n) (ranged_puts f n s h g)

  const_ranged : (z : ℤ) → IsRanged (Const z)
  const_ranged z x d max e = absurd cc

  -- a signal and the constant 1 by which it is delayed
  one_is : (s : Progress) → GoesOn F (put s (Const (pos 1))).1 → (t : ℕ) → value F (put s (Const (pos 1))).0 X c t ≡ pos 1
  one_is s g t = put_gives F ordered X c s (Const (pos 1)) g t

  ranged_mem : (s : Progress) (x : ℕ) → GoesOn F (put_mem s x).1 → AreRanged s → AreRanged (put_mem s x).1
  ranged_mem s x g h =
      let n = Const (pos 1) in
      let one = put s n in
      let last = Delay x one.0 1 in
      let at = one_is s (before_put F one.1 last g) in
      ranged_put one.1 last
      (λ y d max e.
      let back_is : d ≡ one.0 = cc in
      let max_is : max ≡ 1 = cc in (
        λ t.
            let is : value F d X c t ≡ pos 1 = ap (λ w. value F w X c t) back_is ∙ at t in
            record { above = omega (arith, ints, is); below = omega (arith, ints, is, max_is) },
        omega (arith, max_is),
      ))
      (ranged_put s n (const_ranged (pos 1)) h)

  ranged_prefix : (s : Progress) (x y : ℕ) → GoesOn F (put_prefix s x y).1 → AreRanged s → AreRanged (put_prefix s x y).1
  ranged_prefix s x y g h =
      let one = put s (Const (pos 1)) in
      let begun = put_mem one.1 one.0 in
      let late = put_mem begun.1 y in
      let last = Point Select2 (begun.0 ∷ x ∷ late.0 ∷ begun.0 ∷ []) in
      let g3 : GoesOn F late.1 = before_put F late.1 last g in
      let g2 : GoesOn F begun.1 = before_mem F begun.1 y g3 in
      ranged_put late.1 last (λ x d max e. absurd cc)
      (ranged_mem begun.1 y g3 (ranged_mem one.1 one.0 g2 (ranged_put s (Const (pos 1)) (const_ranged (pos 1)) h)))

  -- ---- the delays to come

  next_of : (s : Progress) (u : Noted) (x : Interval) → s.delays ≡ drop (length u.delays) D → drop 1 s.delays ≡ drop (length (u.delays ++ x ∷ [])) D
  next_of s u x e = ap (drop 1) e ∙ drop-drop 1 (length u.delays) D ∙ ap (λ k. drop k D) (sym (length_push u.delays x))

  -- where what is noted is true, the next delay is that of the span that is noted now
  next_is : (s : Progress) (u : Noted) (x : Interval) → s.delays ≡ drop (length u.delays) D → IsPrefixOf (u.delays ++ x ∷ []) L →
      (get_or s.delays 0 0 ≡ amount x) × IsDelay x
  next_is s u x e p =
      let n = length u.delays in
      let long : n < length L = omega (arith, prefix_long (u.delays ++ x ∷ []) L p, length_push u.delays x) in
      let plus : n + 0 ≡ n = omega arith in
      let at : get_or L n x ≡ x = prefix_get (u.delays ++ x ∷ []) L n x p (omega (arith, length_push u.delays x)) ∙ get_or_push u.delays x x n refl in (
        ap (λ l. get_or l 0 0) e ∙ get_or-drop n D 0 0 ∙ ap (λ k. get_or D k 0) plus ∙ ap (λ l. get_or l n 0) are ∙ get_or-map amount L n x 0 long
            ∙ ap amount at,
        subst IsDelay at (All-get_or IsDelay L n x long each),
      )

  before_note : (u : Noted) (x : Interval) → IsPrefixOf (u.delays ++ x ∷ []) L → IsPrefixOf u.delays L
  before_note u x p = prefix_trans u.delays (u.delays ++ x ∷ []) L (prefix_snoc u.delays x) p

  -- ---- leaves

  -- an operation on signals that lie in their spans
  point_lies : (op : Op) (ws : List ℕ) (vs : List Interval) (s : Progress) → length ws ≡ inputs_of op → GoesOn F (put s (Point op (padded ws))).1 →
      AreRelated LiesIn ws vs → LiesIn (put s (Point op (padded ws))).0 (span_of op vs)
  point_lies op ws vs s w g q t =
      let v : ℕ → Stream = λ s. value F s X c in
      let some = takes_some op in
      let z = carried v ws t in
      let is : value F (put s (Point op (padded ws))).0 X c t ≡ apply_of op z =
      put_gives F ordered X c s (Point op (padded ws)) g t
      ∙ ap (apply_of op) (take-map (λ w. v w t) (inputs_of op) (padded ws) ∙ ap (map (λ w. v w t)) (padded_first (inputs_of op) ws some.0 some.1 w)) in
      let wide : length vs ≡ inputs_of op = sym (related_length LiesIn ws vs q) ∙ w in
      let at : (i : ℕ) → i < length vs → IsOf (span_at vs i) (argument z i) = λ i l.
      let m : i < length ws = omega (arith, l, related_length LiesIn ws vs q) in
      subst (IsOf (span_at vs i)) (sym (get_or-map (λ w. v w t) ws i 0 (pos 0) m)) (related_at LiesIn ws vs i 0 (point (pos 0)) m q t) in
      subst (IsOf (span_of op vs)) (sym is)
      (closed op vs wide (λ i l. (at i l).0), holds op vs wide (λ i l. (at i l).0) z (λ i l. (at i l).1))

  leaf_lies : (l : Leaf) (ws : List ℕ) (vs : List Interval) (s : Progress) (u : Noted) → IsOfLeaf (FitsSigned w32) C l → length ws ≡ takes l →
      GoesOn F (leaf_of l ws s).1 → Beside s u → AreRelated LiesIn ws vs →
      LiesIn (leaf_of l ws s).0 (span_hooks.leaf l vs u).0 × Beside (leaf_of l ws s).1 (span_hooks.leaf l vs u).1
  leaf_lies (leaf.Number n) ws vs s u a w g r q = (
    λ t. subst (IsOf (point n)) (sym (put_gives F ordered X c s (Const n) g t)) (point_of n a),
    record { delays = r.delays; controls_are = r.controls_are; ranged = λ p. ranged_put s (Const n) (const_ranged n) (r.ranged p) },
  )
  leaf_lies (leaf.Control k) ws vs s u a w g r q = (
    λ t.
        subst (IsOf (control_span u.controls k)) (sym (put_gives F ordered X c s (Control k) g t))
        (subst (λ cs. IsOf (control_span cs k) (c k t)) (sym r.controls_are) (held k t)),
    record {
      delays = r.delays;
      controls_are = r.controls_are;
      ranged = λ p. ranged_put s (Control k) (λ x d max e. absurd cc) (r.ranged p);
    },
  )
  leaf_lies leaf.Mem ws vs s u a w g r q =
      let x = get_or ws 0 0 in
      let i = span_at vs 0 in
      let h = related_at LiesIn ws vs 0 0 (point (pos 0)) (omega (arith, w)) q in (
        λ t.
            subst (IsOf (hull i (point (pos 0)))) (sym (mem_gives F ordered X c (passed 1 s) x g t)) (later_of i (λ t. value F x X c t) t h),
        record {
          delays = next_of s u (point (pos 1)) r.delays;
          controls_are = r.controls_are;
          ranged = λ p. ranged_mem (passed 1 s) x g (r.ranged (before_note u (point (pos 1)) p));
        },
      )
  leaf_lies leaf.Prefix ws vs s u a w g r q =
      let x = get_or ws 0 0 in
      let y = get_or ws 1 0 in
      let hx = related_at LiesIn ws vs 0 0 (point (pos 0)) (omega (arith, w)) q in
      let hy = related_at LiesIn ws vs 1 0 (point (pos 0)) (omega (arith, w)) q in (
        λ t.
            subst (IsOf (hull (span_at vs 0) (span_at vs 1))) (sym (prefix_gives F ordered X c (passed 1 s) x y g t))
            (first_of (span_at vs 0) (span_at vs 1) (λ t. value F x X c t) (λ t. value F y X c t) t hx hy),
        record {
          delays = next_of s u (point (pos 1)) r.delays;
          controls_are = r.controls_are;
          ranged = λ p. ranged_prefix (passed 1 s) x y g (r.ranged (before_note u (point (pos 1)) p));
        },
      )
  leaf_lies leaf.Delay ws vs s u a w g r q =
      let x = get_or ws 0 0 in
      let d = get_or ws 1 0 in
      let max = get_or s.delays 0 0 in
      let hx = related_at LiesIn ws vs 0 0 (point (pos 0)) (omega (arith, w)) q in
      let hd = related_at LiesIn ws vs 1 0 (point (pos 0)) (omega (arith, w)) q in (
        λ t.
            subst (IsOf (hull (span_at vs 0) (point (pos 0)))) (sym (put_gives F ordered X c (passed 1 s) (Delay x d max) g t))
            (back_of (span_at vs 0) (λ t. value F x X c t) t (pos (back_by max (value F d X c t))) hx),
        record {
          delays = next_of s u (span_at vs 1) r.delays;
          controls_are = r.controls_are;
          ranged = λ p.
              let n = next_is s u (span_at vs 1) r.delays p in
              ranged_put (passed 1 s) (Delay x d max)
              (λ y e m f.
              let back_is : d ≡ e = cc in
              let max_is : max ≡ m = cc in
              subst (λ b. IsFar b m) back_is
              (subst (IsFar d) (sym n.0 ∙ max_is)
              ((λ t. of_delay (span_at vs 1) (value F d X c t) n.1 (hd t)), short_delay (span_at vs 1) n.1 (hd 0).0)))
              (r.ranged (before_note u (span_at vs 1) p));
        },
      )
  leaf_lies (leaf.Point op) ws vs s u a w g r q = (
    point_lies op ws vs s w g q,
    record {
      delays = r.delays;
      controls_are = r.controls_are;
      ranged = λ p. ranged_put s (Point op (padded ws)) (λ x d max e. absurd cc) (r.ranged p);
    },
  )

  -- ---- tables

  counted_lies : (T : List ℤ) (s : Progress) (u : Noted) → GoesOn F (counted_of (length T) s).1 → Beside s u
      → LiesIn (counted_of (length T) s).0 full × Beside (counted_of (length T) s).1 u
  counted_lies T s u g r =
      let n = length T in
      let b = Back (length s.draft.groups) 0 in
      let late = late_of s in
      let one = put late.1 (Const (pos 1)) in
      let add = Point Add (padded (late.0 ∷ one.0 ∷ [])) in
      let sum = put one.1 add in
      let many = put sum.1 (Const (pos n)) in
      let before : IsPrefixOf late.1.draft.signals F.signals =
      prefix_trans late.1.draft.signals (turned n s).1.draft.signals F.signals (next_keeps late.1 late.0 n) g.signals in (
        λ t. full_of (value F late.0 X c t) (fits late.0 t (put_at F (grouped s) b before).within),
        record {
          delays = r.delays;
          controls_are = r.controls_are;
          ranged = λ p.
              ranged_put many.1 (Point Rem (padded (sum.0 ∷ many.0 ∷ []))) (λ x d max e. absurd cc)
              (ranged_put sum.1 (Const (pos n)) (const_ranged (pos n))
              (ranged_put one.1 add (λ x d max e. absurd cc)
              (ranged_put late.1 (Const (pos 1)) (const_ranged (pos 1)) (ranged_put (grouped s) b (λ x d max e. absurd cc) (r.ranged p)))));
        },
      )

  -- what signals carry lies in their spans
  carried_lies : (ws : List ℕ) (vs : List Interval) (t : ℕ) → AreRelated LiesIn ws vs → AreOf vs (carried (λ s. value F s X c) ws t)
  carried_lies [] [] t q = tt
  carried_lies [] (v ∷ vs) t q = absurd q
  carried_lies (w ∷ ws) [] t q = absurd q
  carried_lies (w ∷ ws) (v ∷ vs) t q = (q.0 t, carried_lies ws vs t q.1)

  carries_lie : (ws : List ℕ) (vs : List Interval) (n : ℕ) → AreRelated LiesIn ws vs → All (AreOf vs) (carries (λ s. value F s X c) ws n)
  carries_lie ws vs n q =
      All-from_get_or (AreOf vs) (carries (λ s. value F s X c) ws n) [] (λ t l.
      subst (AreOf vs) (sym (get_or_table n (carried (λ s. value F s X c) ws) t [] (omega (arith, l, length_table n (carried (λ s. value F s X c) ws)))))
      (carried_lies ws vs t q))

  zero_in : IsOf full (pos 0)
  zero_in = full_of (pos 0) (omega (arith, ints))

  table_ranged : (writes : Bool) (t : ℕ) (ws : List ℕ) → IsRanged (table_node writes t ws)
  table_ranged false t ws x d max e = absurd cc
  table_ranged true t ws x d max e = absurd cc

  tabled_lies : (writes : Bool) (T : List ℤ) (ws : List ℕ) (vs : List Interval) (s : Progress) (u : Noted) → AreNumbers T → length ws ≡ table_inputs writes
      → GoesOn F (tabled_of writes T ws s).1 → Beside s u → AreRelated LiesIn ws vs
      → LiesIn (tabled_of writes T ws s).0 (table_span T writes vs) × Beside (tabled_of writes T ws s).1 u
  tabled_lies writes T ws vs s u h w g r q = (
    λ t.
        let v : ℕ → Stream = λ s. value F s X c in
        let Y = carries v ws (suc t) in
        let wide : length vs ≡ table_inputs writes = sym (related_length LiesIn ws vs q) ∙ w in
        let long : length Y ≡ suc t = length_table (suc t) (carried v ws) in
        let shown = (shows_table F ordered X c writes T (λ i. 0) ws s h w g).wired (suc t) t (omega arith) in
        let all = answers_hold (Table T writes) tt h (λ k. full) (λ k. full) vs (λ k t. pos 0) (λ k t. pos 0) Y wide (λ k t. zero_in) (λ k t l. zero_in)
        (carries_lie ws vs (suc t) q) in
        let here = All-get_or (AreOf (table_span T writes vs ∷ [])) (table (length Y) (table_at T writes Y)) t []
        (omega (arith, long, length_table (length Y) (table_at T writes Y))) all in
        let there : AreOf (table_span T writes vs ∷ []) (table_at T writes Y t) =
        subst (AreOf (table_span T writes vs ∷ [])) (get_or_table (length Y) (table_at T writes Y) t [] (omega (arith, long))) here in
        (subst (AreOf (table_span T writes vs ∷ [])) (sym shown) there).0,
    record {
      delays = r.delays;
      controls_are = r.controls_are;
      ranged = λ p.
          let l = listed s T in
          ranged_put l.1 (table_node writes l.0 ws) (table_ranged writes l.0 ws) (subst AreRanged (sym (listed_is s T)) (r.ranged p));
    },
  )

  -- ---- feedbacks

  opened_lies : (n : ℕ) (s : Progress) (u : Noted) → GoesOn F (opened_of n s).1 → Beside s u → Gives LiesIn Beside (opened_of n s) (span_hooks.opened n u)
  opened_lies n s u g r =
      let group = length s.draft.groups in
      let p = grouped (passed n s) in
      let late = (opened_of n s).0 in
      let wide = puts_wide (Back group) n p in
      let ones = table n (λ i. point (pos 1)) in
      let long : length (u.delays ++ ones) ≡ length u.delays + n = length-append u.delays ones
      ∙ ap (λ k. length u.delays + k) (length_table n (λ i. point (pos 1))) in (
        related_places LiesIn late (table n (λ i. full)) 0 full (wide ∙ sym (length_table n (λ i. full)))
            (λ i l.
            let m : i < n = omega (arith, l, wide) in
            subst (LiesIn (get_or late i 0)) (sym (get_or_table n (λ i. full) i full m))
            (λ t. full_of (value F (get_or late i 0) X c t) (fits (get_or late i 0) t (puts_at F (Back group) n p i m g.signals).within))),
        record {
          delays = puts_delays (Back group) n p ∙ ap (drop n) r.delays ∙ drop-drop n (length u.delays) D ∙ ap (λ k. drop k D) (sym long);
          controls_are = r.controls_are;
          ranged = λ q.
              ranged_puts (Back group) n p (λ i x d max e. absurd cc)
              (r.ranged (prefix_trans u.delays (u.delays ++ ones) L (record { rest = ones; is = refl }) q));
        },
      )

  shut_lies : (fs : List Feedback) (ws : List ℕ) (vs : List Interval) (s : Progress) (u : Noted) → s.feedbacks ≡ fs → AreNested (length s.draft.groups) fs →
      GoesOn F (shut fs ws s).1 → Beside s u → AreRelated LiesIn ws vs → Gives LiesIn Beside (shut fs ws s) (span_hooks.closed vs u)
  shut_lies [] ws vs s u e k g r q = (q, record { delays = r.delays; controls_are = r.controls_are; ranged = r.ranged })
  shut_lies (f ∷ fs) ws vs s u e k g r q =
      let p = filled f fs ws s in
      let given = (puts (Member f.group) (length ws) p).0 in
      let wide = puts_wide (Member f.group) (length ws) p in
      let same = related_length LiesIn ws vs q in (
        related_places LiesIn given vs 0 full (wide ∙ same)
            (λ i l t.
            let m : i < length ws = omega (arith, l, wide) in
            subst (IsOf (get_or vs i full)) (sym (member_gives F ordered X c f fs ws s k.0 k.1 g i t m)) (related_at LiesIn ws vs i 0 full m q t)),
        record {
          delays = puts_delays (Member f.group) (length ws) p ∙ r.delays;
          controls_are = r.controls_are;
          ranged = λ x. ranged_puts (Member f.group) (length ws) p (λ i y d max e. absurd cc) (r.ranged x);
        },
      )

  pub spans_keep : KeepAlong signal_hooks span_hooks (FitsSigned w32) C AreNumbers IsGood (GoesOn F) LiesIn Beside
  spans_keep = record {
    counted = λ T s u l k g r. counted_lies T s u g r;
    tabled = λ writes T ws vs s u l w k g r q. tabled_lies writes T ws vs s u l w g r q;
    leaf = λ l ws vs s u a w k g r q. leaf_lies l ws vs s u a w g r q;
    opened = λ n s u k g r. opened_lies n s u g r;
    closed = λ ws vs s u k g r q. shut_lies s.feedbacks ws vs s u refl k.nested g r q;
  }
