-- A graph that goes on from the walk's progress is wired as the diagram.
use Rattle.std.proofs.Common.{◌≡◌, ℕ, zero, suc, ◌-◌, ◌<◌, ◌≤◌, List, [], ◌∷◌, ◌++◌, length, take, get_or, map}
use Rattle.std.proofs.Common.{replicate, refl, sym, ap, ap₂, ◌∙◌, subst, arith, pos, nat_le, ◌%◌, ℤ, Bool, true}
use Rattle.std.proofs.lemmas.List.{take-map, length-set, length_push, get_or-set_same}
use Rattle.std.proofs.lemmas.Bool.{cond-true, le-leb}
use Rattle.std.proofs.lemmas.Int.{ints}
use Rattle.fv_base.proofs.lemmas.Lists.{table_same, get_or_table}
use Rattle.fv_num.specs.declared.op.Op.{Op}
use Rattle.fv_num.specs.declared.op.Op.TheVariants.{Add, Rem, Select2}
use Rattle.fv_num.specs.headline.Words.{apply_of, inputs_of}
use Rattle.fv_num.specs.headline.Frames.{Frame, Stream, column, table, delayed, prefixed, back, carried}
use Rattle.fv_num.specs.Frames.{carries}
use Rattle.fv_signal.specs.declared.signal.Signal.{Signal}
use Rattle.fv_signal.specs.declared.signal.Signal.TheVariants as signal
use Rattle.fv_signal.specs.headline.Value.{Graph, members, table_of, back_by, signal_at, value, IsOrdered}
use Rattle.fv_num.specs.headline.Tables.{place, read_at, written_at}
use Rattle.fv_num.proofs.lemmas.Tables.{last_written_same}
use Rattle.fv_base.specs.headline.Lists.{IsPrefixOf}
use Rattle.fv_base.proofs.lemmas.Lists.{prefix_trans}
use Rattle.fv_share.specs.Drafts.{table_in}
use Rattle.fv_share.proofs.lemmas.Puts.{tables_stand}
use Rattle.fv_share.proofs.lemmas.Kept.{tables_stay}
use Rattle.fv_diagram.proofs.lemmas.Counting.{counts_on}
use Rattle.fv_signal.proofs.lemmas.Values.{values_are_given}
use Rattle.fv_diagram.specs.Primitive.{Primitive as Prim}
use Rattle.fv_diagram.specs.Primitive.TheVariants as prim
use Rattle.fv_diagram.specs.headline.Diagram.{Primitive, Table, primitive_inputs, table_inputs, is_table_primitive}
use Rattle.fv_diagram.specs.Diagram.{AreNumbers}
use Rattle.fv_diagram.specs.Walked.{primitive, one}
use Rattle.fv_diagram.specs.Hooks.{padded}
use Rattle.fv_diagram.proofs.lemmas.Causality.{delayed_same, back_same}
use Rattle.fv_diagram.proofs.lemmas.Carried.{column_carries}
use Rattle.fv_diagram.proofs.lemmas.Places.{table_replicate, carried_items, carried_first}
use Rattle.std.proofs.Common.{false}
use Rattle.std.proofs.lemmas.Bool.{true≢false}
use Rattle.fv_diagram.proofs.lemmas.Meaning.{Means, AreFaithful}
use Rattle.fv_diagram.proofs.lemmas.Places.{takes_some}
use Rattle.fv_propagate.specs.declared.progress.Feedback.{Feedback}
use Rattle.fv_propagate.specs.inner.Progress.{Progress, put, puts, passed, put_mem, put_prefix, put_delay, opened_of, shut, closed_of}
use Rattle.fv_propagate.specs.inner.Progress.{signal_hooks, AreNested, grouped, put_next, late_of, turned, counted_of, listed, tabled_of}
use Rattle.fv_propagate.proofs.Puts.{StandsAt, put_at, puts_at, puts_wide, put_keeps, next_keeps}
use Rattle.fv_propagate.proofs.Goes.{IsGood, Onward, GoesOn, filled, opened_long, nested_not_open, before_put, before_passed, before_puts}
use Rattle.fv_propagate.proofs.Goes.{before_mem, before_prefix, before_opened, before_closed, before_counted, before_tabled}

-- four operands, of which those that are there are the first
pub padded_first : (n : ℕ) (ws : List ℕ) → 1 ≤ n → n ≤ 4 → length ws ≡ n → take n (padded ws) ≡ ws
padded_first n [] a b e = absurd (omega arith)
padded_first n (w ∷ []) a b e = subst (λ n. take n (padded (w ∷ [])) ≡ w ∷ []) e refl
padded_first n (w ∷ x ∷ []) a b e = subst (λ n. take n (padded (w ∷ x ∷ [])) ≡ w ∷ x ∷ []) e refl
padded_first n (w ∷ x ∷ y ∷ []) a b e = subst (λ n. take n (padded (w ∷ x ∷ y ∷ [])) ≡ w ∷ x ∷ y ∷ []) e refl
padded_first n (w ∷ x ∷ y ∷ z ∷ []) a b e = subst (λ n. take n (padded (w ∷ x ∷ y ∷ z ∷ [])) ≡ w ∷ x ∷ y ∷ z ∷ []) e refl
padded_first n (w ∷ x ∷ y ∷ z ∷ u ∷ ws) a b e = absurd (omega arith)

-- the first sample of x, and then y one sample later, by a choice
chosen_at : (one begun late x y : Stream) (t : ℕ) → ((u : ℕ) → one u ≡ pos 1) → ((u : ℕ) → begun u ≡ delayed one u) → ((u : ℕ) → late u ≡ delayed y u) →
    apply_of Select2 (begun t ∷ x t ∷ late t ∷ []) ≡ prefixed x y t
chosen_at one begun late x y zero h g k = ap (λ z. apply_of Select2 (z ∷ x 0 ∷ late 0 ∷ [])) (g 0)
chosen_at one begun late x y (suc t) h g k = ap₂ (λ z u. apply_of Select2 (z ∷ x (suc t) ∷ u ∷ [])) (g (suc t) ∙ h t) (k (suc t))

prefixed_same : (x y a b : Stream) (t : ℕ) → x 0 ≡ a 0 → ((u : ℕ) → u < t → y u ≡ b u) → prefixed x y t ≡ prefixed a b t
prefixed_same x y a b zero e h = e
prefixed_same x y a b (suc t) e h = h t (omega arith)

-- a delay by one
one_back : (x : Stream) (t : ℕ) → back x t (pos (back_by 1 (pos 1))) ≡ delayed x t
one_back x zero = refl
one_back x (suc t) =
    let f : suc t - 1 ≡ t = omega arith in
    cond-true (nat_le 1 (suc t)) (x (suc t - 1)) (pos 0) (le-leb 1 (suc t) (omega arith)) ∙ ap x f

module _ (F : Graph) (ordered : IsOrdered F) (X : List Frame) (c : ℕ → Stream) where
  -- each delay goes back as far as its second operand says
  unfoldable pub AreWide : Type 0
  AreWide = (s x d max : ℕ) → StandsAt F s (signal.Delay x d max) → (t : ℕ) → pos (back_by max (value F d X c t)) ≡ value F d X c t

  pub node_is : (s : ℕ) (n : Signal) (t : ℕ) → StandsAt F s n → value F s X c t ≡ signal_at F X c (λ r. value F r X c) n t
  node_is s n t h = values_are_given F ordered X c s n t h.within ∙ ap (λ y. signal_at F X c (λ r. value F r X c) y t) (h.is n)

  -- a signal that was put, where the graph has the signals
  put_is : (s : Progress) (n : Signal) → IsPrefixOf (put s n).1.draft.signals F.signals → (t : ℕ)
      → value F (put s n).0 X c t ≡ signal_at F X c (λ r. value F r X c) n t
  put_is s n g t = node_is (put s n).0 n t (put_at F s n g)

  pub put_gives : (s : Progress) (n : Signal) → GoesOn F (put s n).1 → (t : ℕ) → value F (put s n).0 X c t ≡ signal_at F X c (λ r. value F r X c) n t
  put_gives s n g t = put_is s n g.signals t

  pub mem_gives : (s : Progress) (x : ℕ) → GoesOn F (put_mem s x).1 → (t : ℕ) → value F (put_mem s x).0 X c t ≡ delayed (λ u. value F x X c u) t
  mem_gives s x g t =
      let one = put s (signal.Const (pos 1)) in
      let n = signal.Delay x one.0 1 in
      put_gives one.1 n g t
      ∙ ap (λ y. back (λ u. value F x X c u) t (pos (back_by 1 y))) (put_gives s (signal.Const (pos 1)) (before_put F one.1 n g) t)
      ∙ one_back (λ u. value F x X c u) t

  pub prefix_gives : (s : Progress) (x y : ℕ) → GoesOn F (put_prefix s x y).1 → (t : ℕ) →
      value F (put_prefix s x y).0 X c t ≡ prefixed (λ u. value F x X c u) (λ u. value F y X c u) t
  prefix_gives s x y g t =
      let v : ℕ → Stream = λ s. value F s X c in
      let one = put s (signal.Const (pos 1)) in
      let begun = put_mem one.1 one.0 in
      let late = put_mem begun.1 y in
      let last = signal.Point Select2 (begun.0 ∷ x ∷ late.0 ∷ begun.0 ∷ []) in
      let g3 : GoesOn F late.1 = before_put F late.1 last g in
      let g2 : GoesOn F begun.1 = before_mem F begun.1 y g3 in
      let g1 : GoesOn F one.1 = before_mem F one.1 one.0 g2 in
      put_gives late.1 last g t
      ∙ chosen_at (v one.0) (v begun.0) (v late.0) (v x) (v y) t (λ u. put_gives s (signal.Const (pos 1)) g1 u) (λ u. mem_gives one.1 one.0 g2 u)
      (λ u. mem_gives begun.1 y g3 u)

  -- the signals that define the members of a group, and the members
  pub defined : (f : Feedback) (fs : List Feedback) (outs : List ℕ) (s : Progress) → f.group < length s.draft.groups → AreNested f.group fs →
      GoesOn F (filled f fs outs s) → members F f.group ≡ outs
  defined f fs outs s l h g =
      g.groups f.group (omega (arith, l, length-set s.draft.groups f.group outs)) (nested_not_open f.group f.group fs (omega arith) h)
      ∙ get_or-set_same s.draft.groups f.group outs [] l

  pub member_gives : (f : Feedback) (fs : List Feedback) (outs : List ℕ) (s : Progress) → f.group < length s.draft.groups → AreNested f.group fs →
      GoesOn F (puts (signal.Member f.group) (length outs) (filled f fs outs s)).1 → (i t : ℕ) → i < length outs →
      value F (get_or (puts (signal.Member f.group) (length outs) (filled f fs outs s)).0 i 0) X c t ≡ value F (get_or outs i 0) X c t
  member_gives f fs outs s l h g i t m =
      let q = filled f fs outs s in
      let member_of = signal.Member f.group in
      let d = defined f fs outs s l h (before_puts F member_of (length outs) q g) in
      node_is (get_or (puts member_of (length outs) q).0 i 0) (member_of i) t (puts_at F member_of (length outs) q i m g.signals)
      ∙ ap (λ ms. value F (get_or ms i 0) X c t) d

  -- ---- leaves

  abbrev Shows : Prim → (slots : ℕ → ℕ) → List ℕ → Progress → Type 0
  Shows p slots ins s = Means (GoesOn F) (λ s. value F s X c) c (Primitive p) slots ins s (primitive signal_hooks p ins s)

  first_at : (w : ℕ) (ws : List ℕ) (n t : ℕ) → t < n → value F w X c t ∷ [] ≡ column (carries (λ s. value F s X c) (w ∷ ws) n) 0 t ∷ []
  first_at w ws n t l = ap (λ z. z ∷ []) (sym (column_carries (λ s. value F s X c) (w ∷ ws) n 0 t l))

  shows_mem : (slots : ℕ → ℕ) (w : ℕ) (s : Progress) → GoesOn F (put_mem (passed 1 s) w).1 → Shows prim.Mem slots (w ∷ []) s
  shows_mem slots w s g =
      let v : ℕ → Stream = λ s. value F s X c in record {
        holds = before_passed F 1 s (before_mem F (passed 1 s) w g);
        wired = λ n t l.
            ap (λ z. z ∷ []) (mem_gives (passed 1 s) w g t ∙ delayed_same (v w) (column (carries v (w ∷ []) n) 0) t
            (λ u m. sym (column_carries v (w ∷ []) n 0 u (omega arith))));
      }

  shows_prefix : (slots : ℕ → ℕ) (a b : ℕ) (s : Progress) → GoesOn F (put_prefix (passed 1 s) a b).1 → Shows prim.Prefix slots (a ∷ b ∷ []) s
  shows_prefix slots a b s g =
      let v : ℕ → Stream = λ s. value F s X c in
      let ins = a ∷ b ∷ [] in record {
        holds = before_passed F 1 s (before_prefix F (passed 1 s) a b g);
        wired = λ n t l.
            ap (λ z. z ∷ [])
            (prefix_gives (passed 1 s) a b g t
            ∙ prefixed_same (v a) (v b) (column (carries v ins n) 0) (column (carries v ins n) 1) t (sym (column_carries v ins n 0 0 (omega arith)))
            (λ u m. sym (column_carries v ins n 1 u (omega arith))));
      }

  shows_point : (o : Op) (slots : ℕ → ℕ) (ins : List ℕ) (s : Progress) → length ins ≡ inputs_of o → GoesOn F (put s (signal.Point o (padded ins))).1 →
      Shows (prim.Point o) slots ins s
  shows_point o slots ins s e g =
      let v : ℕ → Stream = λ s. value F s X c in
      let some = takes_some o in record {
        holds = before_put F s (signal.Point o (padded ins)) g;
        wired = λ n t l.
            ap (λ z. z ∷ [])
            (put_gives s (signal.Point o (padded ins)) g t
            ∙ ap (apply_of o) (take-map (λ w. v w t) (inputs_of o) (padded ins) ∙ ap (map (λ w. v w t)) (padded_first (inputs_of o) ins some.0 some.1 e)
            ∙ sym (get_or_table n (carried v ins) t [] l)));
      }

  -- ---- tables

  -- x and one more, modulo n
  next_gives : (s : Progress) (x n : ℕ) → IsPrefixOf (put_next s x n).1.draft.signals F.signals → (t : ℕ) → value F (put_next s x n).0 X c t
      ≡ apply_of Rem (apply_of Add (value F x X c t ∷ pos 1 ∷ []) ∷ pos n ∷ [])
  next_gives s x n g t =
      let v : ℕ → Stream = λ s. value F s X c in
      let add = signal.Point Add (padded (x ∷ (put s (signal.Const (pos 1))).0 ∷ [])) in
      let one = put s (signal.Const (pos 1)) in
      let sum = put one.1 add in
      let many = put sum.1 (signal.Const (pos n)) in
      let rem = signal.Point Rem (padded (sum.0 ∷ many.0 ∷ [])) in
      let g4 : IsPrefixOf many.1.draft.signals F.signals = prefix_trans many.1.draft.signals (put many.1 rem).1.draft.signals F.signals
      (put_keeps many.1 rem) g in
      let g3 : IsPrefixOf sum.1.draft.signals F.signals =
      prefix_trans sum.1.draft.signals many.1.draft.signals F.signals (put_keeps sum.1 (signal.Const (pos n))) g4 in
      let g2 : IsPrefixOf one.1.draft.signals F.signals = prefix_trans one.1.draft.signals sum.1.draft.signals F.signals (put_keeps one.1 add) g3 in
      put_is many.1 rem g t
      ∙ ap₂ (λ a b. apply_of Rem (a ∷ b ∷ []))
      (put_is one.1 add g3 t ∙ ap (λ z. apply_of Add (v x t ∷ z ∷ [])) (put_is s (signal.Const (pos 1)) g2 t)) (put_is sum.1 (signal.Const (pos n)) g4 t)

  -- a count begins anew at the length of the list
  counts : (T : List ℤ) (s : Progress) → AreNumbers T → IsGood s → GoesOn F (counted_of (length T) s).1 →
      GoesOn F s × ((t : ℕ) → value F (counted_of (length T) s).0 X c t ≡ pos (t % length T)) × (1 ≤ length T)
  counts T s h good g =
      let n = length T in
      let k = length s.draft.groups in
      let late = late_of s in
      let next = turned n s in
      let all = s.draft.groups ++ [] ∷ [] in
      let is : members F k ≡ next.0 ∷ [] =
      g.groups k (omega (arith, length_push s.draft.groups [], length-set all k (next.0 ∷ []))) (nested_not_open k k s.feedbacks (omega arith) good.nested)
      ∙ get_or-set_same all k (next.0 ∷ []) [] (omega (arith, length_push s.draft.groups [])) in
      let before : IsPrefixOf late.1.draft.signals F.signals =
      prefix_trans late.1.draft.signals next.1.draft.signals F.signals (next_keeps late.1 late.0 n) g.signals in
      let back_is : (t : ℕ) → value F late.0 X c t ≡ delayed (λ u. value F next.0 X c u) t = λ t.
      put_is (grouped s) (signal.Back k 0) before t ∙ ap (λ ms. delayed (λ u. value F (get_or ms 0 0) X c u) t) is in (
        before_counted F n s g,
        counts_on n (λ t. value F late.0 X c t) h.some h.counted (back_is 0) (λ t. back_is (suc t) ∙ next_gives late.1 late.0 n g.signals t),
        h.some,
      )

  -- the table that was put is the list
  listed_at : (s : Progress) (T : List ℤ) → 1 ≤ length T → GoesOn F (listed s T).1 → table_of F (listed s T).0 ≡ T
  listed_at s T some g =
      let q = listed s T in
      let stands : table_in q.1.draft q.0 ≡ T = (tables_stand s.draft T).stands in
      ap (λ ts. get_or ts q.0 []) g.tables.is ∙ tables_stay q.1.draft.tables g.tables.rest q.0 (omega (arith, ap length stands, some)) ∙ stands

  pub shows_table : (writes : Bool) (T : List ℤ) (slots : ℕ → ℕ) (ins : List ℕ) (s : Progress) → AreNumbers T → length ins ≡ table_inputs writes
      → GoesOn F (tabled_of writes T ins s).1 → Means (GoesOn F) (λ s. value F s X c) c (Table T writes) slots ins s (one (tabled_of writes T ins s))
  shows_table false T slots [] s h e g = absurd (omega (arith, e))
  shows_table false T slots (r ∷ []) s h e g =
      let v : ℕ → Stream = λ s. value F s X c in
      let q = listed s T in
      let node = signal.Read q.0 r in record {
        holds = before_tabled F false T (r ∷ []) s g;
        wired = λ n t l.
            ap (λ z. z ∷ [])
            (put_gives q.1 node g t ∙ ap (λ L. read_at L (v r t)) (listed_at s T h.some (before_put F q.1 node g))
            ∙ ap (read_at T) (sym (column_carries v (r ∷ []) n 0 t l)));
      }
  shows_table false T slots (r ∷ u ∷ ws) s h e g = absurd (omega (arith, e))
  shows_table true T slots [] s h e g = absurd (omega (arith, e))
  shows_table true T slots (w ∷ []) s h e g = absurd (omega (arith, e))
  shows_table true T slots (w ∷ y ∷ []) s h e g = absurd (omega (arith, e))
  shows_table true T slots (w ∷ y ∷ r ∷ []) s h e g =
      let v : ℕ → Stream = λ s. value F s X c in
      let q = listed s T in
      let node = signal.Write q.0 w y r in
      let ins = w ∷ y ∷ r ∷ [] in record {
        holds = before_tabled F true T ins s g;
        wired = λ n t l.
            ap (λ z. z ∷ [])
            (put_gives q.1 node g t ∙ ap (λ L. written_at L (v w) (v y) t (v r t)) (listed_at s T h.some (before_put F q.1 node g))
            ∙ last_written_same T (v w) (column (carries v ins n) 0) (v y) (column (carries v ins n) 1) (place (length T) (v r t)) t
            (λ u m. sym (column_carries v ins n 0 u (omega arith))) (λ u m. sym (column_carries v ins n 1 u (omega arith)))
            ∙ ap (written_at T (column (carries v ins n) 0) (column (carries v ins n) 1) t) (sym (column_carries v ins n 2 t l)));
      }
  shows_table true T slots (w ∷ y ∷ r ∷ u ∷ ws) s h e g = absurd (omega (arith, e))

  -- ---- feedbacks

  -- the signals of a feedback that was opened at z and is closed at s
  closes : (n : ℕ) (outs : List ℕ) (z s : Progress) → IsGood z → n ≤ length outs → Onward (opened_of n z).1 s → GoesOn F (opened_of n z).1 →
      GoesOn F (closed_of outs s).1 →
      ((t : ℕ) → carried (λ s. value F s X c) (closed_of outs s).0 t ≡ carried (λ s. value F s X c) outs t)
      × (carried (λ s. value F s X c) (opened_of n z).0 0 ≡ replicate n (pos 0))
      × ((t : ℕ) → carried (λ s. value F s X c) (opened_of n z).0 (suc t) ≡ take n (carried (λ s. value F s X c) outs t))
  closes n outs z s good wide on go gc =
      let v : ℕ → Stream = λ s. value F s X c in
      let group = length z.draft.groups in
      let top : Feedback = record { group = group; count = n } in
      let back_of = signal.Back group in
      let p = grouped (passed n z) in
      let late = (opened_of n z).0 in
      let q = filled top z.feedbacks outs s in
      let given = (puts (signal.Member group) (length outs) q).0 in
      let gs : GoesOn F (puts (signal.Member group) (length outs) q).1 = subst (λ fs. GoesOn F (shut fs outs s).1) on.feedbacks gc in
      let there : group < length s.draft.groups = omega (arith, on.groups, opened_long n z) in
      let is : members F group ≡ outs = defined top z.feedbacks outs s there good.nested (before_puts F (signal.Member group) (length outs) q gs) in
      let given_at : (t : ℕ) → carried v given t ≡ carried v outs t = λ t.
      carried_items v given t ∙ ap (λ k. table k (λ i. v (get_or given i 0) t)) (puts_wide (signal.Member group) (length outs) q)
      ∙ table_same (length outs) _ _ (λ i l. member_gives top z.feedbacks outs s there good.nested gs i t l) ∙ sym (carried_items v outs t) in
      let late_at : (t : ℕ) → carried v late t ≡ table n (λ i. delayed (v (get_or outs i 0)) t) = λ t.
      carried_items v late t ∙ ap (λ k. table k (λ i. v (get_or late i 0) t)) (puts_wide back_of n p)
      ∙ table_same n _ _ (λ i l.
      node_is (get_or late i 0) (back_of i) t (puts_at F back_of n p i l go.signals) ∙ ap (λ ms. delayed (v (get_or ms i 0)) t) is) in
      let given_is : (t : ℕ) → carried v (closed_of outs s).0 t ≡ carried v given t = λ t. ap (λ fs. carried v (shut fs outs s).0 t) on.feedbacks in
      ((λ t. given_is t ∙ given_at t), late_at 0 ∙ table_replicate n (pos 0), λ t. late_at (suc t) ∙ sym (carried_first v outs n t wide))

  module _ (free : AreWide) where
    shows_back : (slots : ℕ → ℕ) (a b : ℕ) (s : Progress) → GoesOn F (put_delay s a b).1 → Shows prim.Delay slots (a ∷ b ∷ []) s
    unfolding AreWide
    shows_back slots a b s g =
        let v : ℕ → Stream = λ s. value F s X c in
        let max = get_or s.delays 0 0 in
        let p = passed 1 s in
        let n = signal.Delay a b max in
        let ins = a ∷ b ∷ [] in record {
          holds = before_passed F 1 s (before_put F p n g);
          wired = λ k t l.
              ap (λ z. z ∷ [])
              (put_gives p n g t ∙ ap (back (v a) t) (free (put p n).0 a b max (put_at F p n g.signals) t)
              ∙ back_same (v a) (column (carries v ins k) 0) t (v b t) (λ u m. sym (column_carries v ins k 0 u (omega arith)))
              ∙ ap (back (column (carries v ins k) 0) t) (sym (column_carries v ins k 1 t l)));
        }

    shows : (p : Prim) (slots : ℕ → ℕ) (ins : List ℕ) (s : Progress) → IsGood s → is_table_primitive p ≡ false
        → length ins ≡ primitive_inputs p → GoesOn F (primitive signal_hooks p ins s).1 →
        Shows p slots ins s
    shows prim.Wire slots [] s good q e g = absurd (omega arith)
    shows prim.Wire slots (w ∷ ws) s good q e g = record { holds = g; wired = λ n t l. first_at w ws n t l }
    shows prim.Int slots [] s good q e g = absurd (omega arith)
    shows prim.Int slots (w ∷ ws) s good q e g = record { holds = g; wired = λ n t l. first_at w ws n t l }
    shows prim.Attach slots [] s good q e g = absurd (omega arith)
    shows prim.Attach slots (w ∷ ws) s good q e g = record { holds = g; wired = λ n t l. first_at w ws n t l }
    shows prim.Cut slots ins s good q e g = record { holds = g; wired = λ n t l. refl }
    shows prim.Mem slots [] s good q e g = absurd (omega arith)
    shows prim.Mem slots (w ∷ []) s good q e g = shows_mem slots w s g
    shows prim.Mem slots (w ∷ u ∷ ws) s good q e g = absurd (omega arith)
    shows prim.Prefix slots [] s good q e g = absurd (omega arith)
    shows prim.Prefix slots (a ∷ []) s good q e g = absurd (omega arith)
    shows prim.Prefix slots (a ∷ b ∷ []) s good q e g = shows_prefix slots a b s g
    shows prim.Prefix slots (a ∷ b ∷ u ∷ ws) s good q e g = absurd (omega arith)
    shows prim.Delay slots [] s good q e g = absurd (omega arith)
    shows prim.Delay slots (a ∷ []) s good q e g = absurd (omega arith)
    shows prim.Delay slots (a ∷ b ∷ []) s good q e g = shows_back slots a b s g
    shows prim.Delay slots (a ∷ b ∷ u ∷ ws) s good q e g = absurd (omega arith)
    shows (prim.Point o) slots ins s good q e g = shows_point o slots ins s e g
    shows prim.ReadTable slots ins s good q e g = absurd (true≢false q)
    shows prim.WriteTable slots ins s good q e g = absurd (true≢false q)

    pub signals_are_faithful : AreFaithful signal_hooks IsGood Onward (GoesOn F) AreNumbers (λ s. value F s X c) c
    signals_are_faithful = record {
      primitives = shows;
      counts = counts;
      tables = shows_table;
      numbers = λ n slots ins s g. record { holds = before_put F s (signal.Const n) g; wired = λ t. ap (λ z. z ∷ []) (put_gives s (signal.Const n) g t) };
      controls = λ k slots ins s g. record { holds = before_put F s (signal.Control k) g; wired = λ t. ap (λ z. z ∷ []) (put_gives s (signal.Control k) g t) };
      opens = before_opened F;
      shuts = before_closed F;
      closes = closes;
    }
